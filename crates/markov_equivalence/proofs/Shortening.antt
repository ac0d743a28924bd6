-- Ways made shorter: what a triple of a way allows, where its outer vertices are the same or joined.
use Rattle.std.proofs.Common.{ℕ, ◌+◌, ◌≡◌, ◌<◌, Bool, true, false, [], ◌∷◌, length, ◌⊎◌, inl, inr, refl, sym, subst, arith}
use Rattle.std.proofs.lemmas.Bool.{cases_eq}
use Rattle.mixed_graph.specs.Vocabulary.{MixedGraph, IsMixedGraph, IsAncestor}
use Rattle.markov_equivalence.specs.Skeletons.{is_adjacent}
use Rattle.markov_equivalence.proofs.Ways.{Met, Way, stop, out, into}

module _ (g : MixedGraph) (w : ℕ → Bool) (e : ℕ) where
  abbrev pub cost : (h : Bool) (u : ℕ) → Met g w h u → ℕ
  cost true u c = length c.path
  cost false u c = 0

  -- three for each step, and one for each arrow of a collider's path to w
  abbrev pub size : (h : Bool) (u : ℕ) → Way g w e h u → ℕ
  size _ u (stop p o) = 0
  size _ u (out {v = v} a o r) = 3 + size true v r
  size _ u (into h {v = v} a c r) = 3 + (cost h u c + size false v r)

  -- a way that is shorter than n
  pub record Less (h : Bool) (u n : ℕ) : Type 0 where
    pub way : Way g w e h u
    pub less : size h u way < n

  -- a way on from u, after an arrowhead at the ancestor u in place of a tail
  pub lift : (u : ℕ) (x : Way g w e false u) (d : IsAncestor g w u) → Less true u (1 + (size false u x + length d.path))
  lift u (stop p o) d = record { way = stop p o; less = omega arith }
  lift u (out a o r) d = record { way = out a o r; less = omega arith }
  lift u (into false a c r) d = record { way = into true a d r; less = omega arith }

  -- after a tail at u outside w in place of an arrowhead
  pub lower : (u : ℕ) (x : Way g w e true u) → w u ≡ false → Less false u (1 + size true u x)
  lower u (stop p o) z = record { way = stop p o; less = omega arith }
  lower u (out a o r) z = record { way = out a o r; less = omega arith }
  lower u (into true a c r) z = record { way = into false a z r; less = omega arith }

  -- two different vertices that no arrow joins
  pub record Apart (u v : ℕ) : Type 0 where
    pub differ : u ≡ v → ⊥
    pub free : is_adjacent g u v ≡ false

  pub apart_or : (u v : ℕ) → (u ≡ v) ⊎ (g.arrow u v ≡ true) ⊎ (g.arrow v u ≡ true) ⊎ Apart u v
  apart_or u v = go (cases_eq u v) (g.arrow u v) (g.arrow v u) refl refl
    where
      go : (u ≡ v) ⊎ (u ≡ v → ⊥) → (p q : Bool) → g.arrow u v ≡ p → g.arrow v u ≡ q → (u ≡ v) ⊎ (g.arrow u v ≡ true) ⊎ (g.arrow v u ≡ true) ⊎ Apart u v
      go (inl s) p q ep eq' = inl s
      go (inr d) true q ep eq' = inr (inl ep)
      go (inr d) false true ep eq' = inr (inr (inl eq'))
      go (inr d) false false ep eq' = inr (inr (inr (record { differ = d; free = rw (ep, eq') refl })))

  module _ (ok : IsMixedGraph g) where
    -- the ancestor path of a child, with the step to it before
    abbrev pub step_to : (v m : ℕ) → g.arrow v m ≡ true → IsAncestor g w m → IsAncestor g w v
    step_to v m a d = record { vertex = ok.tail_below v m a; path = m ∷ d.path; end = d.end; leads = (a, d.leads); inside = d.inside }

    pub two : {A : Type 0} (a b : ℕ) → g.arrow a b ≡ true → g.arrow b a ≡ true → A
    two a b p q = absurd (ok.acyclic a b (a ∷ []) (p, (q, refl)))

    pub three : {A : Type 0} (a b c : ℕ) → g.arrow a b ≡ true → g.arrow b c ≡ true → g.arrow c a ≡ true → A
    three a b c p q r = absurd (ok.acyclic a b (c ∷ a ∷ []) (p, (q, (r, refl))))

    -- u -> m <- v
    pub collider : (h : Bool) (u m v : ℕ) (a : g.arrow u m ≡ true) (o : w u ≡ false) (b : g.arrow v m ≡ true) (d : IsAncestor g w m) (r : Way g w e false v)
        → Less h u (6 + (length d.path + size false v r)) ⊎ Apart u v
    collider h u m v a o b d r = go (apart_or u v)
      where
        back_to : (h : Bool) → Way g w e false u → (n : ℕ) → Less true u n → Less false u n → Less h u n
        back_to true x n p q = p
        back_to false x n p q = q

        entered : (h : Bool) → g.arrow v u ≡ true → Less h u (6 + (length d.path + size false v r))
        entered true c = record { way = into true c (step_to u m a d) r; less = omega arith }
        entered false c = record { way = into false c o r; less = omega arith }

        met : (h : Bool) → v ≡ u → Less h v (6 + (length d.path + size false v r))
        met true s = let l = lift v r (step_to v m b d) in record { way = l.way; less = omega arith }
        met false s = record { way = r; less = omega arith }

        go : (u ≡ v) ⊎ (g.arrow u v ≡ true) ⊎ (g.arrow v u ≡ true) ⊎ Apart u v → Less h u (6 + (length d.path + size false v r)) ⊎ Apart u v
        go (inl s) = inl (rw s (met h (sym s)))
        go (inr (inl c)) = let l = lift v r (step_to v m b d) in inl (record { way = out c o l.way; less = omega arith })
        go (inr (inr (inl c))) = inl (entered h c)
        go (inr (inr (inr p))) = inr p

    -- u -> m -> v
    pub forward : (h : Bool) (u m v : ℕ) (a : g.arrow u m ≡ true) (o : w u ≡ false) (b : g.arrow m v ≡ true) (r : Way g w e true v)
        → Less h u (6 + size true v r) ⊎ Apart u v
    forward h u m v a o b r = go (apart_or u v)
      where
        go : (u ≡ v) ⊎ (g.arrow u v ≡ true) ⊎ (g.arrow v u ≡ true) ⊎ Apart u v → Less h u (6 + size true v r) ⊎ Apart u v
        go (inl s) = two u m a (rw s b)
        go (inr (inl c)) = inl (record { way = out c o r; less = omega arith })
        go (inr (inr (inl c))) = three u m v a b c
        go (inr (inr (inr p))) = inr p

    -- u <- m <- v
    pub backward : (h : Bool) (u m v : ℕ) (a : g.arrow m u ≡ true) (c : Met g w h u) (b : g.arrow v m ≡ true) (r : Way g w e false v)
        → Less h u (6 + (cost h u c + size false v r)) ⊎ Apart u v
    backward h u m v a c b r = go (apart_or u v)
      where
        go : (u ≡ v) ⊎ (g.arrow u v ≡ true) ⊎ (g.arrow v u ≡ true) ⊎ Apart u v → Less h u (6 + (cost h u c + size false v r)) ⊎ Apart u v
        go (inl s) = two m u a (rw s b)
        go (inr (inl f)) = three u v m f b a
        go (inr (inr (inl f))) = inl (record { way = into h f c r; less = omega arith })
        go (inr (inr (inr p))) = inr p

    -- u <- m -> v: a shorter way, or u and v are apart, or u is a collider, or v is one
    pub data Forked (h : Bool) (u v n : ℕ) (r : Way g w e true v) : Type 0 where
      shorter : Less h u n → Forked h u v n r
      apart : Apart u v → Forked h u v n r
      before : h ≡ true → Forked h u v n r
      after : {x : ℕ} (b : g.arrow x v ≡ true) (d : IsAncestor g w v) (r' : Way g w e false x) → r ≡ into true b d r' → Forked h u v n r

    pub fork : (h : Bool) (u m v : ℕ) (a : g.arrow m u ≡ true) (c : Met g w h u) (b : g.arrow m v ≡ true) (r : Way g w e true v)
        → Forked h u v (6 + (cost h u c + size true v r)) r
    fork h u m v a c b r = go (apart_or u v)
      where
        n : ℕ
        n = 6 + (cost h u c + size true v r)

        met : (h : Bool) (c : Met g w h u) → u ≡ v → Less h v (6 + (cost h u c + size true v r))
        met true c s = record { way = r; less = omega arith }
        met false c s = let l = lower v r (rw (sym s) c) in record { way = l.way; less = omega arith }

        outward : (h : Bool) (c : Met g w h u) → g.arrow u v ≡ true → Forked h u v (6 + (cost h u c + size true v r)) r
        outward true c f = before refl
        outward false c f = shorter (record { way = out f c r; less = omega arith })

        inward : g.arrow v u ≡ true → (r : Way g w e true v) → Forked h u v (6 + (cost h u c + size true v r)) r
        inward f (stop p o) = shorter (record { way = into h f c (stop p o); less = omega arith })
        inward f (out p o r) = shorter (record { way = into h f c (out p o r); less = omega arith })
        inward f (into true p d r) = after p d r refl

        go : (u ≡ v) ⊎ (g.arrow u v ≡ true) ⊎ (g.arrow v u ≡ true) ⊎ Apart u v → Forked h u v (6 + (cost h u c + size true v r)) r
        go (inl s) = shorter (subst (λ x. Less h x (6 + (cost h u c + size true v r))) (sym s) (met h c s))
        go (inr (inl f)) = outward h c f
        go (inr (inr (inl f))) = inward f r
        go (inr (inr (inr p))) = apart p
