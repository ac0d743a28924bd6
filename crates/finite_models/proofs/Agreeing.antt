-- The weight of an event, by the numbers of the worlds.
use Rattle.std.proofs.Common.{ℕ, zero, suc, ◌+◌, ◌≡◌, ◌<◌, ◌≤◌, Bool, true, false, cond, eqb, ◌&&◌, refl, sym, ap, ap₂, ◌∙◌, inl, inr, set, List, []}
use Rattle.std.proofs.Common.{length, get_or, map, IsTrue, arith}
use Rattle.std.proofs.lemmas.Bool.{false_from_ne_true, cases_eq, eqb-true, or_cases}
use Rattle.std.proofs.lemmas.List.{get_or_past, get_or-set_same, get_or-set_other, length-map}
use Rattle.mixed_graph.specs.Vocabulary.{MixedGraph, IsMixedGraph, taken_by}
use Rattle.finite_models.specs.Sums.{sum_below, product_below}
use Rattle.finite_models.specs.Models.{FiniteModel, Fits, IsAssignment, intervene, solution, agree, weight_of, world_weight, world_count, total}
use Rattle.finite_models.specs.Data.{meaning, weights_of}
use Rattle.finite_models.specs.Worlds.{values_of, weight_sum, value_in_world}
use Rattle.finite_models.proofs.CauseValues.{value_below}
use Rattle.finite_models.proofs.Following.{follows_of, follows_intervene}
use Rattle.finite_models.proofs.Ranks.{with_rank}
use Rattle.finite_models.proofs.Solutions.{solution_is, solution_within, agree_gives}
use Rattle.finite_models.proofs.Numbering.{over-numbers, over-products, sum_below-ones, sum_below-le, sum_below-grows}
use Rattle.finite_models.specs.declared.model.Model.{Model}
use Rattle.finite_models.specs.declared.model.Cause.{Cause}

-- the weight of a world where its solution agrees with s on the event, and 0 where it doesn't
abbrev pub counted : MixedGraph → Model → (b a : ℕ → Bool) → (ℕ → ℕ) → ℕ → ℕ
counted g m b a s world = cond (agree g.vertices a (solution (intervene (meaning g m) b s) (value_in_world m.causes.items world)) s)
    (world_weight (meaning g m) (value_in_world m.causes.items world)) 0

no_values : (causes : List Cause) (j : ℕ) → length causes ≤ j → values_of causes j ≡ 0
no_values causes j le = ap length (get_or_past (map (λ c. c.weights.items) causes) j []
    (let e = length-map causes (λ (c : Cause). c.weights.items) in omega arith))

pub weight_of-counted : (g : MixedGraph) (m : Model) (b a : ℕ → Bool) (s : ℕ → ℕ) → weight_of (meaning g m) b a s
    ≡ sum_below (product_below (length m.causes.items) (values_of m.causes.items)) (counted g m b a s)
weight_of-counted g m b a s =
    over-numbers (values_of m.causes.items) (length m.causes.items) (λ u. cond (agree g.vertices a (solution (intervene (meaning g m) b s) u) s)
    (world_weight (meaning g m) u) 0) (no_values m.causes.items)

pub world_count-product : (g : MixedGraph) (m : Model) → world_count (meaning g m) ≡ product_below (length m.causes.items) (values_of m.causes.items)
world_count-product g m =
    over-numbers (values_of m.causes.items) (length m.causes.items) (λ u. 1) (no_values m.causes.items)
    ∙ sum_below-ones (product_below (length m.causes.items) (values_of m.causes.items))

pub total-product : (g : MixedGraph) (m : Model) → total (meaning g m) ≡ product_below (length m.causes.items) (weight_sum m.causes.items)
total-product g m = over-products (values_of m.causes.items) (λ j i. get_or (weights_of m.causes.items j) i 0) (length m.causes.items) (λ j. 0)

total-numbers : (g : MixedGraph) (m : Model) → total (meaning g m) ≡ sum_below (product_below (length m.causes.items) (values_of m.causes.items))
    (λ w. world_weight (meaning g m) (value_in_world m.causes.items w))
total-numbers g m = over-numbers (values_of m.causes.items) (length m.causes.items) (world_weight (meaning g m)) (no_values m.causes.items)

-- what is counted of the first worlds, and the weight of the next, are within the total
pub counted_within : (g : MixedGraph) (m : Model) (b a : ℕ → Bool) (s : ℕ → ℕ) (w : ℕ) → w < product_below (length m.causes.items) (values_of m.causes.items)
    → sum_below w (counted g m b a s) + world_weight (meaning g m) (value_in_world m.causes.items w) ≤ product_below (length m.causes.items)
    (weight_sum m.causes.items)
counted_within g m b a s w lt =
    let p = sum_below-le w (counted g m b a s) (λ i. world_weight (meaning g m) (value_in_world m.causes.items i))
    (λ i l. at_most (agree g.vertices a (solution (intervene (meaning g m) b s) (value_in_world m.causes.items i)) s)
    (world_weight (meaning g m) (value_in_world m.causes.items i))) in
    let q = sum_below-grows (product_below (length m.causes.items) (values_of m.causes.items))
    (λ i. world_weight (meaning g m) (value_in_world m.causes.items i)) (suc w) (omega arith) in
    let t = total-numbers g m in let e = total-product g m in
    within _ _ _ _ _ _ p q t e
  where
    at_most : (c : Bool) (x : ℕ) → cond c x 0 ≤ x
    at_most true x = omega arith
    at_most false x = omega arith

    within : (x y z t n p : ℕ) → x ≤ y → y + z ≤ n → t ≡ n → t ≡ p → x + z ≤ p
    within x y z t n p h k e f = omega arith

-- the value that a mechanism gives where its parents have their solutions is the solution
pub solved_next : (g : MixedGraph) → IsMixedGraph g → (m : FiniteModel) → Fits g m → (b : ℕ → Bool) (s : ℕ → ℕ) → IsAssignment m.vertices m.size s
    → (u values : ℕ → ℕ) (v : ℕ) → v < m.vertices
    → ((p : ℕ) → IsTrue (g.arrow p v) → values p ≡ solution (intervene m b s) u p) → cond (b v) (s v) (m.mechanism v values u) ≡ solution (intervene m b s) u v
solved_next g ok m fit b s within u values v lt h =
    let follows = follows_intervene g m b s within (follows_of g m fit) in
    follows.reads v lt values (solution (intervene m b s) u) u u h (λ j l e. refl)
    ∙ with_rank g ok ((intervene m b s).mechanism v (solution (intervene m b s) u) u) (solution (intervene m b s) u v)
    (λ rank ranked. sym (solution_is g (intervene m b s) rank ranked follows u v lt))

pub agree-congr : (n : ℕ) (a : ℕ → Bool) (x y s : ℕ → ℕ) → ((v : ℕ) → v < n → x v ≡ y v) → agree n a x s ≡ agree n a y s
agree-congr zero a x y s h = refl
agree-congr (suc n) a x y s h = ap₂ (λ p q. p && q) (agree-congr n a x y s (λ v lt. h v (omega arith)))
    (ap (λ k. cond (a n) (eqb k (s n)) true) (h n (omega arith)))

pub disagree : (n : ℕ) (a : ℕ → Bool) (x s : ℕ → ℕ) (v : ℕ) → v < n → a v ≡ true → (x v ≡ s v → ⊥) → agree n a x s ≡ false
disagree n a x s v lt i ne = false_from_ne_true (agree n a x s) (λ e. ne (agree_gives n a x s e v lt i))

-- the next value written is the solution, so the values that are taken are solutions
pub taken_solved : (list values : List ℕ) (i x : ℕ) (t : ℕ → ℕ) → get_or list i 0 < length values → x ≡ t (get_or list i 0)
    → ((p : ℕ) → IsTrue (taken_by list i p) → get_or values p 0 ≡ t p)
    → (p : ℕ) → IsTrue (taken_by list (i + 1) p) → get_or (set values (get_or list i 0) x) p 0 ≡ t p
taken_solved list values i x t lt e h p taken = elim (cases_eq p (get_or list i 0)) [
  | inl same ↦ rw same (get_or-set_same values (get_or list i 0) x 0 lt ∙ e)
  | inr other ↦ get_or-set_other values (get_or list i 0) p x 0 other ∙ h p (elim (or_cases (taken_by list i p) (eqb p (get_or list i 0)) (along taken)) [
    | inl t ↦ t
    | inr q ↦ absurd (other (eqb-true p (get_or list i 0) q))
  ])
]
  where
    along : IsTrue (taken_by list (i + 1) p) → IsTrue (taken_by list (suc i) p)
    along t = let s : i + 1 ≡ suc i = omega arith in rw s at t

-- values below their sizes stay so when one is set to a value below its size
pub kept_in_range : (values sizes : List ℕ) (n v x : ℕ) → x < get_or sizes v 0 → ((p : ℕ) → p < n → get_or values p 0 < get_or sizes p 0) → v < length values
    → (p : ℕ) → p < n → get_or (set values v x) p 0 < get_or sizes p 0
kept_in_range values sizes n v x lt h l p pl = elim (cases_eq p v) [
  | inl same ↦ rw (same, get_or-set_same values v x 0 l) lt
  | inr other ↦ rw get_or-set_other (h p pl)
]

-- the solution of a numbered world is in range
pub solved_below : (g : MixedGraph) (m : Model) → Fits g (meaning g m) → (b : ℕ → Bool) (s : ℕ → ℕ) → IsAssignment g.vertices (meaning g m).size s
    → (world v : ℕ) → v < g.vertices
    → solution (intervene (meaning g m) b s) (value_in_world m.causes.items world) v < get_or m.sizes.items v 0
solved_below g m fit b s within world v lt =
    solution_within g (intervene (meaning g m) b s) (follows_intervene g (meaning g m) b s within (follows_of g (meaning g m) fit))
    (value_in_world m.causes.items world) (value_below m.causes.items fit.positive_weight world) v lt
