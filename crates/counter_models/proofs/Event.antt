-- The parity of the event in a world, in both models.
use Rattle.std.proofs.Common.{ℕ, zero, suc, ◌+◌, ◌%◌, ◌≡◌, ◌<◌, ◌≤◌, Bool, true, false, not, refl, ap, ap₂, ◌∙◌, ◌&&◌, List, [], ◌∷◌, length, arith}
use Rattle.std.proofs.lemmas.Bool.{and_from, false_from_ne_true}
use Rattle.mixed_graph.specs.Vocabulary.{MixedGraph}
use Rattle.finite_models.proofs.Bools.{and_first, and_second, not_both}
use Rattle.finite_models.specs.Vocabulary.{differ, odd_below}
use Rattle.counter_models.specs.Parities.{bit, chosen}
use Rattle.counter_models.specs.Links.{Link, at_vertex, AreInside}
use Rattle.counter_models.specs.Hedges.{ParityHedge, IsParityHedge}
use Rattle.counter_models.specs.ParityPairs.{hedge_bit, carried_bit, world_bit, at_first, at_second, chooses, carries, event_odd}
use Rattle.counter_models.proofs.ParityLaws.{odd-congr, odd-false, odd-differ, and-differ}
use Rattle.counter_models.proofs.HedgeBits.{roots_sum, links_sum, none_crossing, crossing}
use Rattle.counter_models.proofs.Truths.{not_true}

inside : (G A : Bool) (w : Bool) → (A ≡ true → G ≡ true) → (G && (A && w)) ≡ (A && w)
inside true A w h = refl
inside false true w h = absurd (grind (arith, h refl))
inside false false w h = refl

pub drop_all : (n : ℕ) (p q : ℕ → Bool) → ((v : ℕ) → p v ≡ true → ⊥) → odd_below n (λ v. p v && q v) ≡ false
drop_all n p q h = odd-congr n (λ v. p v && q v) (λ v. false) (λ v lt. ap (λ r. r && q v) (false_from_ne_true (p v) (h v))) ∙ odd-false n

-- a member of big from which choices lead to a root outside x
pub data Good (d : ParityHedge) (x : ℕ → Bool) : ℕ → Type 0 where
  root : {v : ℕ} → d.roots v ≡ true → Good d x v
  more : {v : ℕ} → d.big v ≡ true → d.roots v ≡ false → x v ≡ false → Good d x (d.choice v) → Good d x v

module _ (g : MixedGraph) (x : ℕ → Bool) (d : ParityHedge) (ok : IsParityHedge g x d) (rank : ℕ → ℕ)
    (rises : (u v : ℕ) → g.arrow u v ≡ true → rank u < rank v) (low : (v : ℕ) → v < g.vertices → rank v < g.vertices)
    (tails : (u v : ℕ) → g.arrow u v ≡ true → u < g.vertices) (heads : (u v : ℕ) → g.arrow u v ≡ true → v < g.vertices) where
  choice_low : (C : ℕ → Bool) → ((v : ℕ) → C v ≡ true → d.big v ≡ true) → (u : ℕ) → chooses d C u ≡ true → d.choice u < g.vertices
  choice_low C cb u e = heads u (d.choice u) (ok.choice_arrow u (cb u (and_first (C u) (not (d.roots u)) e))
      (not_true (d.roots u) (and_second (C u) (not (d.roots u)) e)))

  -- the carried bits of the event are the roots' hedge bits and the causes of the kept vertices
  pub carried_sum : (s u : ℕ → ℕ)
      → ((v : ℕ) → v < g.vertices → d.kept v ≡ true → carried_bit d s v
      ≡ differ (chosen g.vertices (carries d) d.carry (carried_bit d s) v) (differ (d.roots v && hedge_bit d s v) (world_bit u (d.kept_cause v))))
      → event_odd g.vertices d s ≡ differ (odd_below g.vertices (λ v. d.roots v && hedge_bit d s v))
      (odd_below g.vertices (λ v. d.kept v && world_bit u (d.kept_cause v)))
  carried_sum s u eq =
      roots_sum g.vertices d.kept (carries d) (λ v. d.kept v && d.target v) d.carry (carried_bit d s)
      (λ v. differ (d.roots v && hedge_bit d s v) (world_bit u (d.kept_cause v)))
      (λ v e. heads v (d.carry v) (ok.carry_arrow v (and_first (d.kept v) (not (d.target v)) e)
      (not_true (d.target v) (and_second (d.kept v) (not (d.target v)) e))))
      eq
      (λ v e. and_first (d.kept v) (d.target v) e)
      (λ v e. false_from_ne_true (d.kept v && d.target v) (λ t. not_both (d.target v) (and_second (d.kept v) (d.target v) t)
      (not_true (d.target v) (and_second (d.kept v) (not (d.target v)) e))))
      (λ v k r. let t : d.target v ≡ false = at (d.kept v) (d.target v) k r in
      and_from (carries d v) (d.kept (d.carry v)) (and_from (d.kept v) (not (d.target v)) k (rw t refl)) (ok.carry_kept v k t))
      ∙ ap (λ r. differ r (odd_below g.vertices (λ v. d.kept v && differ (d.roots v && hedge_bit d s v) (world_bit u (d.kept_cause v)))))
      (drop_all g.vertices (λ v. (carries d v && d.kept (d.carry v)) && not (d.kept v)) (carried_bit d s)
      (λ v e. not_both (d.kept v) (and_first (d.kept v) (not (d.target v))
      (and_first (carries d v) (d.kept (d.carry v)) (and_first (carries d v && d.kept (d.carry v)) (not (d.kept v)) e)))
      (not_true (d.kept v) (and_second (carries d v && d.kept (d.carry v)) (not (d.kept v)) e))))
      ∙ odd-congr g.vertices (λ v. d.kept v && differ (d.roots v && hedge_bit d s v) (world_bit u (d.kept_cause v)))
      (λ v. differ (d.roots v && hedge_bit d s v) (d.kept v && world_bit u (d.kept_cause v)))
      (λ v lt. and-differ (d.kept v) (d.roots v && hedge_bit d s v) (world_bit u (d.kept_cause v))
      ∙ ap (λ r. differ r (d.kept v && world_bit u (d.kept_cause v))) (inside (d.kept v) (d.roots v) (hedge_bit d s v) (ok.roots_kept v)))
      ∙ odd-differ g.vertices (λ v. d.roots v && hedge_bit d s v) (λ v. d.kept v && world_bit u (d.kept_cause v))
    where
      at : (k t : Bool) → k ≡ true → (k && t) ≡ false → t ≡ false
      at true t e r = r
      at false t e r = absurd (grind (arith, e))

  -- ---- the second model: the roots' bits are the causes of small
  pub second_roots : (s u : ℕ → ℕ)
      → ((v : ℕ) → v < g.vertices → d.small v ≡ true → hedge_bit d s v
      ≡ differ (chosen g.vertices (chooses d d.small) d.choice (hedge_bit d s) v) (at_second d (world_bit u) v))
      → odd_below g.vertices (λ v. d.roots v && hedge_bit d s v) ≡ odd_below g.vertices (λ v. d.small v && world_bit u (d.small_cause v))
  second_roots s u eq =
      roots_sum g.vertices d.small (chooses d d.small) d.roots d.choice (hedge_bit d s) (at_second d (world_bit u)) (choice_low d.small ok.small_big)
      eq ok.roots_small
      (λ v e. not_true (d.roots v) (and_second (d.small v) (not (d.roots v)) e))
      (λ v k r. and_from (chooses d d.small v) (d.small (d.choice v)) (and_from (d.small v) (not (d.roots v)) k (rw r refl)) (ok.choice_small v k r))
      ∙ ap (λ r. differ r (odd_below g.vertices (λ v. d.small v && at_second d (world_bit u) v)))
      (drop_all g.vertices (λ v. (chooses d d.small v && d.small (d.choice v)) && not (d.small v)) (hedge_bit d s)
      (λ v e. not_both (d.small v) (and_first (d.small v) (not (d.roots v))
      (and_first (chooses d d.small v) (d.small (d.choice v)) (and_first (chooses d d.small v && d.small (d.choice v)) (not (d.small v)) e)))
      (not_true (d.small v) (and_second (chooses d d.small v && d.small (d.choice v)) (not (d.small v)) e))))
      ∙ odd-congr g.vertices (λ v. d.small v && at_second d (world_bit u) v)
      (λ v. differ (d.small v && at_vertex 0 d.inner (world_bit u) v) (d.small v && world_bit u (d.small_cause v)))
      (λ v lt. and-differ (d.small v) (at_vertex 0 d.inner (world_bit u) v) (world_bit u (d.small_cause v)))
      ∙ odd-differ g.vertices (λ v. d.small v && at_vertex 0 d.inner (world_bit u) v) (λ v. d.small v && world_bit u (d.small_cause v))
      ∙ ap (λ r. differ r (odd_below g.vertices (λ v. d.small v && world_bit u (d.small_cause v))))
      (links_sum g.vertices 0 d.inner d.small (world_bit u) ok.inner_low ∙ none_crossing 0 d.inner d.small (world_bit u) ok.inner_inside)

  -- ---- the first model
  pub good_big : (v : ℕ) → Good d x v → d.big v ≡ true
  good_big v (root r) = ok.small_big v (ok.roots_small v r)
  good_big v (more b r o c) = b

  pub good_outside : (v : ℕ) → Good d x v → x v ≡ false
  good_outside v (root r) = ok.small_outside v (ok.roots_small v r)
  good_outside v (more b r o c) = o

  pub good_next : (v : ℕ) → d.roots v ≡ false → Good d x v → Good d x (d.choice v)
  good_next v e (root r) = absurd (not_both (d.roots v) r e)
  good_next v e (more b r o c) = c

  pub small_good : (k v : ℕ) → d.small v ≡ true → g.vertices ≤ rank v + k → (v < g.vertices) → Good d x v
  small_good zero v e le b = absurd (let r = low v b in omega arith)
  small_good (suc k) v e le b = go (d.roots v) refl (λ r. let a = ok.choice_arrow v (ok.small_big v e) r in let q = rises v (d.choice v) a in
      small_good k (d.choice v) (ok.choice_small v e r) (omega arith) (heads v (d.choice v) a))
    where
      go : (c : Bool) → d.roots v ≡ c → (d.roots v ≡ false → Good d x (d.choice v)) → Good d x v
      go true r h = root r
      go false r h = more (ok.small_big v e) r (ok.small_outside v e) (h r)

  pub first_roots : (G : ℕ → Bool) → ((v : ℕ) → G v ≡ true → Good d x v) → ((v : ℕ) → d.big v ≡ true → Good d x v → G v ≡ true)
      → ((v : ℕ) → d.small v ≡ true → G v ≡ true) → (s u a : ℕ → ℕ)
      → ((v : ℕ) → v < g.vertices → d.big v ≡ true → x v ≡ false → hedge_bit d s v
      ≡ differ (chosen g.vertices (chooses d d.big) d.choice (hedge_bit d s) v) (at_first d (world_bit u) v))
      → ((v : ℕ) → v < g.vertices → x v ≡ true → s v ≡ a v)
      → odd_below g.vertices (λ v. d.roots v && hedge_bit d s v)
      ≡ differ (odd_below g.vertices (λ v. ((chooses d d.big v && G (d.choice v)) && not (G v)) && hedge_bit d a v))
      (differ (crossing (length d.inner) d.outer G (world_bit u)) (odd_below g.vertices (λ v. d.small v && world_bit u (d.small_cause v))))
  first_roots G sound complete sg s u a eq held =
      roots_sum g.vertices G (chooses d d.big) d.roots d.choice (hedge_bit d s) (at_first d (world_bit u)) (choice_low d.big (λ v e. e))
      (λ v lt e. eq v lt (good_big v (sound v e)) (good_outside v (sound v e)))
      (λ v r. sg v (ok.roots_small v r))
      (λ v e. not_true (d.roots v) (and_second (d.big v) (not (d.roots v)) e))
      (λ v k r. let gd = sound v k in let b = good_big v gd in and_from (chooses d d.big v) (G (d.choice v))
      (and_from (d.big v) (not (d.roots v)) b (rw r refl)) (complete (d.choice v) (ok.choice_big v b r) (good_next v r gd)))
      ∙ ap (λ r. differ r (odd_below g.vertices (λ v. G v && at_first d (world_bit u) v)))
      (odd-congr g.vertices (λ v. ((chooses d d.big v && G (d.choice v)) && not (G v)) && hedge_bit d s v)
      (λ v. ((chooses d d.big v && G (d.choice v)) && not (G v)) && hedge_bit d a v)
      (λ v lt. from_x v ((chooses d d.big v && G (d.choice v)) && not (G v)) (λ e. ap (λ q. bit (q % 2)) (held v lt (in_x v e)))))
      ∙ ap (differ (odd_below g.vertices (λ v. ((chooses d d.big v && G (d.choice v)) && not (G v)) && hedge_bit d a v)))
      (odd-congr g.vertices (λ v. G v && at_first d (world_bit u) v)
      (λ v. differ (differ (G v && at_vertex 0 d.inner (world_bit u) v) (G v && at_vertex (length d.inner) d.outer (world_bit u) v))
      (d.small v && world_bit u (d.small_cause v)))
      (λ v lt. and-differ (G v) (differ (at_vertex 0 d.inner (world_bit u) v) (at_vertex (length d.inner) d.outer (world_bit u) v))
      (d.small v && world_bit u (d.small_cause v))
      ∙ ap₂ differ (and-differ (G v) (at_vertex 0 d.inner (world_bit u) v) (at_vertex (length d.inner) d.outer (world_bit u) v))
      (inside (G v) (d.small v) (world_bit u (d.small_cause v)) (sg v)))
      ∙ odd-differ g.vertices (λ v. differ (G v && at_vertex 0 d.inner (world_bit u) v) (G v && at_vertex (length d.inner) d.outer (world_bit u) v))
      (λ v. d.small v && world_bit u (d.small_cause v))
      ∙ ap (λ r. differ r (odd_below g.vertices (λ v. d.small v && world_bit u (d.small_cause v))))
      (odd-differ g.vertices (λ v. G v && at_vertex 0 d.inner (world_bit u) v) (λ v. G v && at_vertex (length d.inner) d.outer (world_bit u) v)
      ∙ ap₂ differ (links_sum g.vertices 0 d.inner G (world_bit u) ok.inner_low ∙ none_crossing 0 d.inner G (world_bit u) (wider d.inner ok.inner_inside))
      (links_sum g.vertices (length d.inner) d.outer G (world_bit u) ok.outer_low)))
    where
      wider : (r : List Link) → AreInside d.small r → AreInside G r
      wider [] h = tt
      wider (p ∷ r) h = (sg p.entry h.0, sg p.partner h.1, wider r h.2)

      from_x : (v : ℕ) (c : Bool) → (c ≡ true → hedge_bit d s v ≡ hedge_bit d a v) → (c && hedge_bit d s v) ≡ (c && hedge_bit d a v)
      from_x v true h = h refl
      from_x v false h = refl

      in_x : (v : ℕ) → ((chooses d d.big v && G (d.choice v)) && not (G v)) ≡ true → x v ≡ true
      in_x v e = go (x v) refl
        where
          c : chooses d d.big v ≡ true
          c = and_first (chooses d d.big v) (G (d.choice v)) (and_first (chooses d d.big v && G (d.choice v)) (not (G v)) e)

          b : d.big v ≡ true
          b = and_first (d.big v) (not (d.roots v)) c

          go : (q : Bool) → x v ≡ q → x v ≡ true
          go true q = q
          go false q = absurd (not_both (G v)
              (complete v b (more b (not_true (d.roots v) (and_second (d.big v) (not (d.roots v)) c)) q
              (sound (d.choice v) (and_second (chooses d d.big v) (G (d.choice v)) (and_first (chooses d d.big v && G (d.choice v)) (not (G v)) e)))))
              (not_true (G v) (and_second (chooses d d.big v && G (d.choice v)) (not (G v)) e)))
