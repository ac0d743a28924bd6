-- Each graph has a positive model: each vertex shows a coin of its own.
use Rattle.std.specs.Prelude.{if◌then◌else◌}
use Rattle.std.proofs.Common.{ℕ, zero, suc, ◌*◌, ◌≡◌, ◌<◌, ◌≤◌, Bool, true, false, cond, eqb, nat_lt, refl, sym, ap, ◌∙◌, subst}
use Rattle.std.proofs.Common.{arith, rules, eqb-true, lt-ltb, IsTrue}
use Rattle.mixed_graph.specs.Vocabulary.{MixedGraph, IsMixedGraph}
use Rattle.finite_models.specs.Laws.{HasPositiveModel}
use Rattle.finite_models.specs.Models.{FiniteModel, Fits, IsPositiveModel, agree, rounds, solution, world_weight}
use Rattle.finite_models.specs.Sums.{sum_below, product_below, sum_over}
use Rattle.finite_models.proofs.Solutions.{agree_from}
use Rattle.finite_models.proofs.SumLaws.{over-base, over-term, eqb-refl}

-- cause v is a coin with as many sides as vertex v has values, which serves it alone and which it shows
abbrev coins : (n : ℕ) → (ℕ → ℕ) → FiniteModel
coins n size = record {
  vertices = n;
  size = size;
  causes = n;
  values = size;
  weight = λ j i. 1;
  serves = λ j v. eqb j v;
  mechanism = λ v s u. u v;
}

some_side : (k : ℕ) → 1 ≤ k → 1 ≤ sum_below k (λ i. 1)
some_side zero h = absurd (omega (arith, h))
some_side (suc k) h = omega arith

-- a coin serves one vertex
same_child : (j u v : ℕ) → IsTrue (eqb j u) → IsTrue (eqb j v) → u ≡ v
same_child j u v p q = let a : j ≡ u = eqb-true j u (search rules) in let b : j ≡ v = eqb-true j v (search rules) in sym a ∙ b

module _ (g : MixedGraph) (size : ℕ → ℕ) (some : (v : ℕ) → v < g.vertices → 1 ≤ size v) where
  abbrev m : FiniteModel
  m = coins g.vertices size

  fits : Fits g (coins g.vertices size)
  fits = record {
    vertices = refl;
    positive_size = λ v lt. some v lt;
    positive_weight = λ j lt. some_side (size j) (some j lt);
    some_child = λ j lt. (j, search (rules, eqb-refl j));
    child_below = λ j v lt h. subst (λ k. k < g.vertices) (let e : j ≡ v = eqb-true j v (search rules) in e) lt;
    joined = λ j u v lt p q ne. absurd (ne (same_child j u v p q));
    reads = λ v lt s t u w same heard. heard v lt (search (rules, eqb-refl v));
    below = λ v lt s u within world. world v lt;
  }

  -- the sides that show an assignment
  abbrev shown : (ℕ → ℕ) → ℕ → ℕ
  shown s j = cond (nat_lt j g.vertices) (s j) 0

  shown_below : (s : ℕ → ℕ) (v : ℕ) → v < g.vertices → shown s v ≡ s v
  shown_below s v lt = ap (λ b. cond b (s v) 0) (lt-ltb v g.vertices lt)

  shown_above : (s : ℕ → ℕ) (v : ℕ) → (v < g.vertices → true ≡ true → ⊥) → shown s v ≡ 0
  shown_above s v out = go (nat_lt v g.vertices) refl
    where
      go : (b : Bool) → nat_lt v g.vertices ≡ b → cond (nat_lt v g.vertices) (s v) 0 ≡ 0
      go true e = absurd (out (search rules) refl)
      go false e = rw e refl

  -- each vertex shows its coin, in a graph that has one
  shows : (u : ℕ → ℕ) (n v : ℕ) → v < n → rounds m n u v ≡ u v
  shows u zero v lt = absurd (omega (arith, lt))
  shows u (suc n) v lt = refl

  -- a world weighs 1
  one_each : (k : ℕ) → product_below k (λ j. 1) ≡ 1
  one_each zero = refl
  one_each (suc k) = ap (λ p. p * 1) (one_each k)

  -- what a world counts for the event that all vertices have the values s
  abbrev counted : (s u : ℕ → ℕ) → ℕ
  counted s u = if agree g.vertices (λ v. true) (solution m u) s then world_weight m u else 0

  counts_one : (s : ℕ → ℕ) → counted s (shown s) ≡ 1
  counts_one s =
      ap (λ b. if b then world_weight m (shown s) else 0)
      (agree_from g.vertices (λ v. true) (solution m (shown s)) s (λ v lt i. shows (shown s) g.vertices v lt ∙ shown_below s v lt))
      ∙ one_each g.vertices

  positive : IsPositiveModel m
  positive s within =
      let least : counted s (shown s) ≤ sum_over (λ j. true) size g.vertices (counted s) (shown s) =
      over-term (λ j. true) size g.vertices (counted s) (shown s) (λ j lt i. subst (λ k. k < size j) (sym (shown_below s j lt)) (within j lt)) in
      let same : sum_over (λ j. true) size g.vertices (counted s) (shown s) ≡ sum_over (λ j. true) size g.vertices (counted s) (λ j. 0) =
      over-base (λ j. true) size g.vertices (counted s) (shown s) (λ j. 0) (λ j out. shown_above s j out) in
      omega (arith, least, same, counts_one s)

pub each_graph_has_model : (g : MixedGraph) → IsMixedGraph g → (size : ℕ → ℕ) → ((v : ℕ) → v < g.vertices → 1 ≤ size v) → HasPositiveModel g size
each_graph_has_model g ok size some = record { model = coins g.vertices size; fits = fits g size some; positive = positive g size some; sizes = refl }
