-- What the values have to do with fractions, and with models.
use Rattle.std.specs.Prelude.{ℕ, ◌≡◌, ◌≤◌, ◌||◌, ◌==◌, Bool, true, false, Some, None, Ok}
use Rattle.mixed_graph.specs.Vocabulary.{has, MixedGraph, IsMixedGraph, union}
use Rattle.fractions.specs.Vocabulary.{Fraction}
use Rattle.finite_models.specs.Vocabulary.{FiniteModel, Fits, IsAssignment, IsPositiveModel}
use Rattle.prob_expr.specs.Vocabulary.{PlainFormula, Weights, EqualsEffect, effect_on, is_do_free}
use Rattle.quantity.specs.Kinds.{Pair}
use Rattle.quantity.specs.Vocabulary.{Kind}
use Rattle.differences.specs.Vocabulary.{Subtraction}
use Rattle.count_eval.specs.Vocabulary.{AllUsed, IsUsed, IsMatched}
use Rattle.treated_models.specs.Vocabulary.{effect_among}
use Rattle.treated_id.specs.Vocabulary.{IsTreatedTarget}
use Rattle.split_values.specs.Outcomes.{split_outcome}
use Rattle.split_values.specs.Values.{IsNotBelow, split_supported, split_value}

-- over any weights, what a kind gives encloses the value, where that isn't below 0
abbrev pub SplitIsEnclosed : Kind → Subtraction → (Pair → Fraction → Type 0) → Type 0
SplitIsEnclosed kind less encloses = (w : Weights) (x y z : ℕ) (joint : PlainFormula) (s t : ℕ → ℕ) (c : Pair)
    → split_outcome kind less w x y z joint s t ≡ Ok (Some c)
    → (split_supported w x y z joint s t ≡ true) × (IsNotBelow w x y z joint s t → encloses c (split_value w x y z joint s t))

-- and it gives none only where it is
abbrev pub NoneIsBelow : Kind → Subtraction → Type 0
NoneIsBelow kind less = (w : Weights) (x y z : ℕ) (joint : PlainFormula) (s t : ℕ → ℕ) → split_outcome kind less w x y z joint s t ≡ Ok None
    → IsNotBelow w x y z joint s t → ⊥

-- x is one vertex, which acts on no member of z, and the formula equals P(y, z under do(x)) in each positive model of the graph
pub record IsSplitTarget (g : MixedGraph) (x y z : ℕ) (joint : PlainFormula) : Type 0 where
  pub target : IsTreatedTarget g x y z
  pub vertex : ℕ
  pub single : (u : ℕ) → has x u ≡ (u == vertex)
  pub do_free : is_do_free joint ≡ true
  pub equals : EqualsEffect g (effect_on x (union y z)) joint

-- all vertices are used, and those of x have at most two levels
pub record IsObservedSplit (used : ℕ → Bool) (w : Weights) (x y z : ℕ) (joint : PlainFormula) : Type 0 where
  pub x_used : (v : ℕ) → has x v ≡ true → used v ≡ true
  pub y_used : (v : ℕ) → has y v ≡ true → used v ≡ true
  pub z_used : (v : ℕ) → has z v ≡ true → used v ≡ true
  pub defs : AllUsed used joint.defs
  pub main : IsUsed used joint.main
  pub two : (v : ℕ) → has x v ≡ true → w.size v ≤ 2

-- the second levels are those of a model, and the first ones but for x
pub record AreObservedAt (m : FiniteModel) (x : ℕ) (s t : ℕ → ℕ) : Type 0 where
  pub first : IsAssignment m.vertices m.size s
  pub second : IsAssignment m.vertices m.size t
  pub others : (v : ℕ) → has x v ≡ false → t v ≡ s v

-- over weights that match a positive model of the graph, what a kind gives encloses the effect among those for whom x was observed at the second levels
abbrev pub SplitEnclosesAmong : Kind → Subtraction → (Pair → Fraction → Type 0) → Type 0
SplitEnclosesAmong kind less encloses = (g : MixedGraph) → IsMixedGraph g → (m : FiniteModel) → Fits g m → IsPositiveModel m
    → (used : ℕ → Bool) (w : Weights) (all : ℕ) → IsMatched used w all m
    → (x y z : ℕ) (joint : PlainFormula) → IsSplitTarget g x y z joint → IsObservedSplit used w x y z joint
    → (s t : ℕ → ℕ) → AreObservedAt m x s t
    → (c : Pair) → split_outcome kind less w x y z joint s t ≡ Ok (Some c)
    → encloses c (effect_among m (has x) (has y) (λ v. has x v || has z v) s t)

-- so where it would be below 0, no positive model of the graph has such counts
abbrev pub NoneIsUnmatched : Kind → Subtraction → Type 0
NoneIsUnmatched kind less = (g : MixedGraph) → IsMixedGraph g → (m : FiniteModel) → Fits g m → IsPositiveModel m
    → (used : ℕ → Bool) (w : Weights) (all : ℕ) → IsMatched used w all m
    → (x y z : ℕ) (joint : PlainFormula) → IsSplitTarget g x y z joint → IsObservedSplit used w x y z joint
    → (s t : ℕ → ℕ) → AreObservedAt m x s t
    → split_outcome kind less w x y z joint s t ≡ Ok None → ⊥
