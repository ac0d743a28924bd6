-- The causes of both models have children and positive weights.
use Rattle.std.proofs.Common.{ℕ, zero, suc, ◌+◌, ◌≡◌, ◌<◌, ◌≤◌, Bool, true, false, cond, eqb, ltb, refl, ◌&&◌, ◌||◌, ◌⊎◌, inl, inr, List, [], ◌∷◌}
use Rattle.std.proofs.Common.{length, arith, eqb-true, ltb-true, ltb-false}
use Rattle.mixed_graph.specs.Vocabulary.{MixedGraph}
use Rattle.finite_models.specs.Vocabulary.{sum_below, Fits, differ, odd_below}
use Rattle.finite_models.proofs.Bools.{and_first}
use Rattle.finite_models.proofs.Following.{Follows}
use Rattle.finite_models.proofs.SumLaws.{eqb-refl}
use Rattle.counter_models.specs.Links.{Link, is_end, AreBelow}
use Rattle.counter_models.specs.Hedges.{ParityHedge, IsWholeHedge, links_of}
use Rattle.counter_models.specs.ParityPairs.{cause_weight, serves_of, counter_model}
use Rattle.counter_models.proofs.CounterFits.{or_split, or_first, or_second}

-- each number of a link has an end
end_of : (k : ℕ) (r : List Link) (j : ℕ) → k ≤ j → j < k + length r → (v : ℕ) × (is_end k r j v ≡ true)
end_of k [] j le lt = absurd (omega arith)
end_of k (p ∷ r) j le lt = go (eqb j k) refl (λ l. end_of (suc k) r j l (omega arith))
  where
    go : (c : Bool) → eqb j k ≡ c → (suc k ≤ j → (v : ℕ) × (is_end (suc k) r j v ≡ true)) → (v : ℕ)
        × (cond (eqb j k) (eqb v p.entry || eqb v p.partner) (is_end (suc k) r j v) ≡ true)
    go true e ih = (p.entry, rw e (or_first (eqb p.entry p.entry) (eqb p.entry p.partner) (eqb-refl p.entry)))
    go false e ih = let w = ih (let ne : j ≡ k → ⊥ = λ s. absurd (grind (arith, s, e)) in omega arith) in (w.0, rw e w.1)

-- and the ends are below n
end_below : (n k : ℕ) (r : List Link) (j v : ℕ) → AreBelow n r → is_end k r j v ≡ true → v < n
end_below n k [] j v b e = absurd (grind (arith, e))
end_below n k (p ∷ r) j v b e = go (eqb j k) e (end_below n (suc k) r j v b.2)
  where
    go : (c : Bool) → cond c (eqb v p.entry || eqb v p.partner) (is_end (suc k) r j v) ≡ true → (is_end (suc k) r j v ≡ true → v < n) → v < n
    go true q ih = at (or_split (eqb v p.entry) (eqb v p.partner) q)
      where
        at : (eqb v p.entry ≡ true) ⊎ (eqb v p.partner ≡ true) → v < n
        at (inl s) = rw (eqb-true v p.entry s) b.0
        at (inr s) = rw (eqb-true v p.partner s) b.1
    go false q ih = ih q

-- an odd number of tests isn't none
odd_gives : (n : ℕ) (p : ℕ → Bool) → odd_below n p ≡ true → (v : ℕ) × (v < n) × (p v ≡ true)
odd_gives zero p e = absurd (grind (arith, e))
odd_gives (suc n) p e = go (p n) refl (odd_gives n p)
  where
    even : (a b : Bool) → differ a b ≡ true → b ≡ false → a ≡ true
    even true b e f = refl
    even false b e f = absurd (grind (arith, e, f))

    go : (c : Bool) → p n ≡ c → (odd_below n p ≡ true → (v : ℕ) × (v < n) × (p v ≡ true)) → (v : ℕ) × (v < suc n) × (p v ≡ true)
    go true q ih = (n, omega arith, q)
    go false q ih = let w = ih (even (odd_below n p) (p n) e q) in (w.0, omega (arith, w.1), w.2)

either_odd : (p q : Bool) → differ p q ≡ true → (p ≡ true) ⊎ (q ≡ true)
either_odd true q e = inl refl
either_odd false q e = inr e

module _ (g : MixedGraph) (x : ℕ → Bool) (d : ParityHedge) (ok : IsWholeHedge g x d) where
  abbrev Private : ℕ → ℕ → Bool
  Private j v = (d.small v && eqb j (d.small_cause v)) || (d.kept v && eqb j (d.kept_cause v))

  from_private : (j v : ℕ) → Private j v ≡ true → serves_of d j v ≡ true
  from_private j v e = or_second (is_end 0 d.inner j v) (is_end (length d.inner) d.outer j v || Private j v)
      (or_second (is_end (length d.inner) d.outer j v) (Private j v) e)

  some_child : (j : ℕ) → j < d.causes → (v : ℕ) × (serves_of d j v ≡ true)
  some_child j lt = go (ltb j (length d.inner)) refl (ltb j (links_of d)) refl
    where
      held : (odd_below g.vertices (λ v. d.small v && eqb j (d.small_cause v)) ≡ true)
          ⊎ (odd_below g.vertices (λ v. d.kept v && eqb j (d.kept_cause v)) ≡ true) → (v : ℕ) × (serves_of d j v ≡ true)
      held (inl e) = let w = odd_gives g.vertices (λ v. d.small v && eqb j (d.small_cause v)) e in
          (w.0, from_private j w.0 (or_first (d.small w.0 && eqb j (d.small_cause w.0)) (d.kept w.0 && eqb j (d.kept_cause w.0)) w.2))
      held (inr e) = let w = odd_gives g.vertices (λ v. d.kept v && eqb j (d.kept_cause v)) e in
          (w.0, from_private j w.0 (or_second (d.small w.0 && eqb j (d.small_cause w.0)) (d.kept w.0 && eqb j (d.kept_cause w.0)) w.2))

      go : (a : Bool) → ltb j (length d.inner) ≡ a → (b : Bool) → ltb j (links_of d) ≡ b → (v : ℕ) × (serves_of d j v ≡ true)
      go true e b f = let w = end_of 0 d.inner j (omega arith) (let l = ltb-true j (length d.inner) e in omega arith) in
          (w.0, or_first (is_end 0 d.inner j w.0) (is_end (length d.inner) d.outer j w.0 || Private j w.0) w.1)
      go false e true f = let w = end_of (length d.inner) d.outer j (ltb-false j (length d.inner) e) (ltb-true j (links_of d) f) in (
        w.0,
        or_second (is_end 0 d.inner j w.0) (is_end (length d.inner) d.outer j w.0 || Private j w.0)
            (or_first (is_end (length d.inner) d.outer j w.0) (Private j w.0) w.1),
      )
      go false e false f = held (either_odd (odd_below g.vertices (λ v. d.small v && eqb j (d.small_cause v)))
          (odd_below g.vertices (λ v. d.kept v && eqb j (d.kept_cause v))) (ok.once j (ltb-false j (links_of d) f) lt))

  child_below : (j v : ℕ) → serves_of d j v ≡ true → v < g.vertices
  child_below j v e = inner (or_split (is_end 0 d.inner j v) (is_end (length d.inner) d.outer j v || Private j v) e)
    where
      private : (d.small v && eqb j (d.small_cause v)) ≡ true ⊎ (d.kept v && eqb j (d.kept_cause v)) ≡ true → v < g.vertices
      private (inl a) = ok.hedge.big_low v (ok.hedge.small_big v (and_first (d.small v) (eqb j (d.small_cause v)) a))
      private (inr a) = ok.hedge.kept_low v (and_first (d.kept v) (eqb j (d.kept_cause v)) a)

      outer : (is_end (length d.inner) d.outer j v ≡ true) ⊎ (Private j v ≡ true) → v < g.vertices
      outer (inl a) = end_below g.vertices (length d.inner) d.outer j v ok.hedge.outer_low a
      outer (inr a) = private (or_split (d.small v && eqb j (d.small_cause v)) (d.kept v && eqb j (d.kept_cause v)) a)

      inner : (is_end 0 d.inner j v ≡ true) ⊎ ((is_end (length d.inner) d.outer j v || Private j v) ≡ true) → v < g.vertices
      inner (inl a) = end_below g.vertices 0 d.inner j v ok.hedge.inner_low a
      inner (inr a) = outer (or_split (is_end (length d.inner) d.outer j v) (Private j v) a)

  positive_weight : (j : ℕ) → 1 ≤ sum_below 2 (cause_weight d j)
  positive_weight j = at (ltb j (links_of d))
    where
      at : (c : Bool) → 1 ≤ (0 + cond c 1 3) + cond c 1 1
      at true = omega arith
      at false = omega arith

  pub fits_of : (mechanism : ℕ → (ℕ → ℕ) → (ℕ → ℕ) → ℕ) → Follows g (counter_model g.vertices d (serves_of d) mechanism)
      → Fits g (counter_model g.vertices d (serves_of d) mechanism)
  fits_of mechanism follows = record {
    vertices = follows.vertices;
    positive_size = follows.positive_size;
    positive_weight = λ j lt. positive_weight j;
    some_child = some_child;
    child_below = λ j v lt e. child_below j v e;
    joined = follows.joined;
    reads = follows.reads;
    below = follows.below;
  }
