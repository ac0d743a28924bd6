-- The model with noise fits, is positive, and is near.
use Rattle.std.proofs.Common.{ℕ, zero, suc, ◌+◌, ◌-◌, ◌*◌, ◌≡◌, ◌≢◌, ◌<◌, ◌≤◌, Bool, true, false, cond, eqb, ltb, refl, sym, ap, ap₂, ◌∙◌, subst}
use Rattle.std.proofs.Common.{IsTrue, ◌||◌, arith, lt-ltb, le-ltb, ltb-true, eqb-true}
use Rattle.mixed_graph.specs.Vocabulary.{MixedGraph, IsMixedGraph}
use Rattle.finite_models.specs.Vocabulary.{sum_below, FiniteModel, Fits, IsAssignment, IsWorld, world_weight, agree, solution, rounds, intervene, ServesTwo}
use Rattle.finite_models.proofs.SumLaws.{eqb-refl, product_below-congr, product-split}
use Rattle.finite_models.proofs.Agreeing.{agree-congr}
use Rattle.walk_models.proofs.Rare.{noise_weight}
use Rattle.finite_models.proofs.Totals.{sum_below-positive}
use Rattle.walk_models.specs.Noisy.{noisy}

twice : (e : Bool) → e ≡ (e || e)
twice true = refl
twice false = refl

-- the noise of a vertex serves it alone
pub noisy_two : (k : ℕ) (m : FiniteModel) → ServesTwo m → ServesTwo (noisy k m)
noisy_two k m t = record {
  one = λ j. cond (ltb j m.causes) (t.one j) (j - m.causes);
  other = λ j. cond (ltb j m.causes) (t.other j) (j - m.causes);
  serves = λ j v lt. go j v (ltb j m.causes) refl;
}
  where
    go : (j v : ℕ) (c : Bool) → ltb j m.causes ≡ c
        → cond c (m.serves j v) (eqb v (j - m.causes)) ≡ (eqb v (cond c (t.one j) (j - m.causes)) || eqb v (cond c (t.other j) (j - m.causes)))
    go j v true e = t.serves j v (ltb-true j m.causes e)
    go j v false e = twice (eqb v (j - m.causes))

module _ (g : MixedGraph) (m : FiniteModel) (fit : Fits g m) (k : ℕ) (some : 1 ≤ k) where
  -- the cause of a vertex's noise
  at_noise : (v : ℕ) → ltb (m.causes + v) m.causes ≡ false
  at_noise v = le-ltb (m.causes + v) m.causes (omega arith)

  offset : (v : ℕ) → (m.causes + v) - m.causes ≡ v
  offset v = omega arith

  own_served : (v : ℕ) → (noisy k m).serves (m.causes + v) v ≡ true
  own_served v = rw (at_noise v, offset v, eqb-refl v) refl

  old_served : (j v : ℕ) → j < m.causes → m.serves j v ≡ true → (noisy k m).serves j v ≡ true
  old_served j v lt e = rw (lt-ltb j m.causes lt) e

  weights : (j : ℕ) → j < m.causes + m.vertices → 1 ≤ sum_below ((noisy k m).values j) ((noisy k m).weight j)
  weights j lt = go (ltb j m.causes) refl
    where
      go : (b : Bool) → ltb j m.causes ≡ b → 1 ≤ sum_below (cond b (m.values j) (m.size (j - m.causes) + 1)) (λ i. cond b (m.weight j i) (cond (eqb i 0) k 1))
      go true e = fit.positive_weight j (ltb-true j m.causes e)
      go false e = sum_below-positive (m.size (j - m.causes) + 1) (λ i. cond (eqb i 0) k 1) 0 (omega arith) some

  child : (j : ℕ) → j < m.causes + m.vertices → (v : ℕ) × IsTrue ((noisy k m).serves j v)
  child j lt = go (ltb j m.causes) refl
    where
      go : (b : Bool) → ltb j m.causes ≡ b → (v : ℕ) × IsTrue (cond b (m.serves j v) (eqb v (j - m.causes)))
      go true e = fit.some_child j (ltb-true j m.causes e)
      go false e = (j - m.causes, eqb-refl (j - m.causes))

  below_all : (j v : ℕ) → j < m.causes + m.vertices → IsTrue ((noisy k m).serves j v) → v < m.vertices
  below_all j v lt = go (ltb j m.causes) refl
    where
      go : (b : Bool) → ltb j m.causes ≡ b → IsTrue (cond b (m.serves j v) (eqb v (j - m.causes))) → v < m.vertices
      go true e s = fit.child_below j v (ltb-true j m.causes e) s
      go false e s = let same = eqb-true v (j - m.causes) s in let ge : m.causes ≤ j =
          (let no = λ (l : j < m.causes). lt-ltb j m.causes l in grind (arith, no, e)) in omega (arith, same, lt)

  joined_all : (j u v : ℕ) → j < m.causes + m.vertices → IsTrue ((noisy k m).serves j u) → IsTrue ((noisy k m).serves j v) → u ≢ v → IsTrue (g.both u v)
  joined_all j u v lt = go (ltb j m.causes) refl
    where
      go : (b : Bool) → ltb j m.causes ≡ b → IsTrue (cond b (m.serves j u) (eqb u (j - m.causes))) → IsTrue (cond b (m.serves j v) (eqb v (j - m.causes)))
          → u ≢ v → IsTrue (g.both u v)
      go true e su sv ne = fit.joined j u v (ltb-true j m.causes e) su sv ne
      go false e su sv ne = absurd (ne (eqb-true u (j - m.causes) su ∙ sym (eqb-true v (j - m.causes) sv)))

  reads_all : (v : ℕ) → v < m.vertices → (s t u w : ℕ → ℕ) → ((p : ℕ) → IsTrue (g.arrow p v) → s p ≡ t p)
      → ((j : ℕ) → j < m.causes + m.vertices → IsTrue ((noisy k m).serves j v) → u j ≡ w j)
      → (noisy k m).mechanism v s u ≡ (noisy k m).mechanism v t w
  reads_all v lt s t u w parents served =
      ap₂ (λ x y. cond (eqb x 0) y (x - 1)) (served (m.causes + v) (omega arith) (own_served v))
      (fit.reads v lt s t u w parents (λ j jl e. served j (omega arith) (old_served j v jl e)))

  in_range : (v : ℕ) → v < m.vertices → (s u : ℕ → ℕ) → IsAssignment m.vertices m.size s → IsWorld (noisy k m) u → (noisy k m).mechanism v s u < m.size v
  in_range v lt s u within world = go (eqb (u (m.causes + v)) 0) refl
    where
      old : IsWorld m u
      old j jl = let h = world j (omega arith) in rw (lt-ltb j m.causes jl) at h

      high : u (m.causes + v) < m.size v + 1
      high = let h = world (m.causes + v) (omega arith) in rw (at_noise v, offset v) at h

      go : (b : Bool) → eqb (u (m.causes + v)) 0 ≡ b → cond b (m.mechanism v s u) (u (m.causes + v) - 1) < m.size v
      go true e = fit.below v lt s u within old
      go false e = omega (arith, high, fit.positive_size v lt)

  pub noisy_fits : Fits g (noisy k m)
  noisy_fits = record {
    vertices = fit.vertices;
    positive_size = fit.positive_size;
    positive_weight = weights;
    some_child = child;
    child_below = below_all;
    joined = joined_all;
    reads = reads_all;
    below = in_range;
  }

  -- ---- weights
  pub split : (u : ℕ → ℕ) → world_weight (noisy k m) u ≡ world_weight m u * noise_weight k m.vertices (λ v. u (m.causes + v))
  split u =
      product-split m.causes m.vertices (λ j. (noisy k m).weight j (u j)) (m.causes + m.vertices) refl
      ∙ ap₂ (λ a b. a * b)
      (product_below-congr m.causes (λ j. (noisy k m).weight j (u j)) (λ j. m.weight j (u j)) (λ j lt. rw (lt-ltb j m.causes lt) refl))
      (product_below-congr m.vertices (λ v. (noisy k m).weight (m.causes + v) (u (m.causes + v))) (λ v. cond (eqb (u (m.causes + v)) 0) k 1)
      (λ v lt. rw (at_noise v) refl))

  -- ---- without noise the model is as before
  module _ (ok : IsMixedGraph g) (u : ℕ → ℕ) (calm : (v : ℕ) → v < m.vertices → u (m.causes + v) ≡ 0) where
    module _ (b : ℕ → Bool) (s t : ℕ → ℕ) (alike : (v : ℕ) → v < m.vertices → s v ≡ t v) where
      rounds_same : (i v : ℕ) → v < m.vertices → rounds (intervene (noisy k m) b s) i u v ≡ rounds (intervene m b t) i u v
      rounds_same zero v lt = refl
      rounds_same (suc i) v lt =
          ap₂ (λ r q. cond (b v) r (cond (eqb q 0) (m.mechanism v (rounds (intervene (noisy k m) b s) i u) u) (q - 1))) (alike v lt) (calm v lt)
          ∙ ap (λ r. cond (b v) (t v) r) (fit.reads v lt (rounds (intervene (noisy k m) b s) i u) (rounds (intervene m b t) i u) u u
          (λ p a. rounds_same i p (subst (λ n. p < n) (sym fit.vertices) (ok.tail_below p v a))) (λ j jl e. refl))

    pub solution_same : (b : ℕ → Bool) (s t : ℕ → ℕ) → ((v : ℕ) → v < m.vertices → s v ≡ t v) → (v : ℕ) → v < m.vertices
        → solution (intervene (noisy k m) b s) u v ≡ solution (intervene m b t) u v
    solution_same b s t alike v lt = rounds_same b s t alike m.vertices v lt

    pub agree_same : (b a : ℕ → Bool) (s : ℕ → ℕ) → agree m.vertices a (solution (intervene (noisy k m) b s) u) s
        ≡ agree m.vertices a (solution (intervene m b s) u) s
    agree_same b a s = agree-congr m.vertices a (solution (intervene (noisy k m) b s) u) (solution (intervene m b s) u) s
        (solution_same b s s (λ v lt. refl))
