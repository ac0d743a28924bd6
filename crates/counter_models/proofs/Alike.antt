-- Models that are the same where it counts have the same weights.
use Rattle.std.proofs.Common.{ℕ, zero, suc, ◌≡◌, ◌<◌, Bool, true, false, cond, eqb, refl, ap, ap₂, ◌∙◌, ◌&&◌, arith}
use Rattle.mixed_graph.specs.Vocabulary.{MixedGraph, IsMixedGraph}
use Rattle.finite_models.specs.Vocabulary.{product_below, sum_over, all_below, FiniteModel, IsAssignment, IsWorld, rounds, solution, intervene, agree, world_weight, sum_worlds, weight_of, total}
use Rattle.finite_models.proofs.Following.{Follows, follows_intervene}
use Rattle.finite_models.proofs.SumLaws.{product_below-congr, over-congr_within, over-sizes}

-- equal in range
pub record Alike (m m' : FiniteModel) : Type 0 where
  pub vertices : m.vertices ≡ m'.vertices
  pub causes : m.causes ≡ m'.causes
  pub sizes : (v : ℕ) → v < m.vertices → m.size v ≡ m'.size v
  pub values : (j : ℕ) → j < m.causes → m.values j ≡ m'.values j
  pub weights : (j i : ℕ) → j < m.causes → i < m.values j → m.weight j i ≡ m'.weight j i
  pub mechanisms : (v : ℕ) → v < m.vertices → (s u : ℕ → ℕ) → IsAssignment m.vertices m.size s → IsWorld m u → m.mechanism v s u ≡ m'.mechanism v s u

all-congr : (k : ℕ) (p q : ℕ → Bool) → ((i : ℕ) → i < k → p i ≡ q i) → all_below k p ≡ all_below k q
all-congr zero p q h = refl
all-congr (suc k) p q h = ap₂ (λ a b. a && b) (all-congr k p q (λ i lt. h i (omega arith))) (h k (omega arith))

module _ (m m' : FiniteModel) (al : Alike m m') where
  pub sum_alike : (F G : (ℕ → ℕ) → ℕ) → ((u : ℕ → ℕ) → IsWorld m u → F u ≡ G u) → sum_worlds m F ≡ sum_worlds m' G
  sum_alike F G h =
      over-congr_within (λ j. true) m.values m.causes F G (λ j. 0) (λ u inside same. h u (λ j lt. inside j lt refl))
      ∙ over-sizes m.values m'.values m.causes G (λ j. 0) al.values
      ∙ ap (λ k. sum_over (λ j. true) m'.values k G (λ j. 0)) al.causes

  pub weight_alike : (u : ℕ → ℕ) → IsWorld m u → world_weight m u ≡ world_weight m' u
  weight_alike u w =
      product_below-congr m.causes (λ j. m.weight j (u j)) (λ j. m'.weight j (u j)) (λ j lt. al.weights j (u j) lt (w j lt))
      ∙ ap (λ k. product_below k (λ j. m'.weight j (u j))) al.causes

  pub total_alike : total m ≡ total m'
  total_alike = sum_alike (world_weight m) (world_weight m') weight_alike

  module _ (g : MixedGraph) (graph : IsMixedGraph g) (follows : Follows g m) (follows' : Follows g m') (b : ℕ → Bool) (s : ℕ → ℕ)
      (within : IsAssignment m.vertices m.size s) where
    rounds_within : (k : ℕ) (u : ℕ → ℕ) → IsWorld m u → IsAssignment m.vertices m.size (rounds (intervene m b s) k u)
    rounds_within zero u w v lt = follows.positive_size v lt
    rounds_within (suc k) u w v lt = (follows_intervene g m b s within follows).below v lt (rounds (intervene m b s) k u) u (rounds_within k u w) w

    rounds_alike : (k : ℕ) (u : ℕ → ℕ) → IsWorld m u → (v : ℕ) → v < m.vertices → rounds (intervene m b s) k u v ≡ rounds (intervene m' b s) k u v
    rounds_alike zero u w v lt = refl
    rounds_alike (suc k) u w v lt = go (b v) (rounds_alike k u w)
      where
        go : (c : Bool) → ((p : ℕ) → p < m.vertices → rounds (intervene m b s) k u p ≡ rounds (intervene m' b s) k u p)
            → cond c (s v) (m.mechanism v (rounds (intervene m b s) k u) u) ≡ cond c (s v) (m'.mechanism v (rounds (intervene m' b s) k u) u)
        go true ih = refl
        go false ih = al.mechanisms v lt (rounds (intervene m b s) k u) u (rounds_within k u w) w
            ∙ follows'.reads v (let e = al.vertices in omega arith) (rounds (intervene m b s) k u) (rounds (intervene m' b s) k u) u u
            (λ p a. ih p (let t = graph.tail_below p v a in let e = follows.vertices in omega arith)) (λ j jl i. refl)

    pub solution_within_range : (u : ℕ → ℕ) → IsWorld m u → IsAssignment m.vertices m.size (solution (intervene m b s) u)
    solution_within_range u w = rounds_within m.vertices u w

    pub solution_alike : (u : ℕ → ℕ) → IsWorld m u → (v : ℕ) → v < m.vertices → solution (intervene m b s) u v ≡ solution (intervene m' b s) u v
    solution_alike u w v lt = rounds_alike m.vertices u w v lt ∙ ap (λ k. rounds (intervene m' b s) k u v) al.vertices

    pub event_alike : (a : ℕ → Bool) → weight_of m b a s ≡ weight_of m' b a s
    event_alike a = sum_alike (λ u. cond (agree m.vertices a (solution (intervene m b s) u) s) (world_weight m u) 0)
        (λ u. cond (agree m'.vertices a (solution (intervene m' b s) u) s) (world_weight m' u) 0)
        (λ u w. ap₂ (λ p q. cond p q 0)
        (all-congr m.vertices (λ v. cond (a v) (eqb (solution (intervene m b s) u v) (s v)) true)
        (λ v. cond (a v) (eqb (solution (intervene m' b s) u v) (s v)) true) (λ v lt. ap (λ r. cond (a v) (eqb r (s v)) true) (solution_alike u w v lt))
        ∙ ap (λ k. agree k a (solution (intervene m' b s) u) s) al.vertices)
        (weight_alike u w))
