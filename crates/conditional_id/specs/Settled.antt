-- When the two models of the joint effect settle that P(y | do(x), given) has no formula either.
use Rattle.std.specs.Prelude.{ℕ, ◌≡◌, ◌⊎◌, true, List}
use Rattle.mixed_graph.specs.Vocabulary.{MixedGraph, IsMixedGraph, union}
use Rattle.finite_models.specs.Vocabulary.{AgreeObserved, FiniteModel, Fits, IsPositiveModel}
use Rattle.prob_expr.specs.Vocabulary.{DifferOnTarget, is_do_free, PlainFormula, PlainTarget, EqualsEffect}
use Rattle.conditional_id.specs.Conditionals.{IsConditionalTarget, IsTurned}

-- P(left | do(doing)) equals a formula without interventions
pub record HasFormula (g : MixedGraph) (doing left : ℕ) : Type 0 where
  pub formula : PlainFormula
  pub do_free : is_do_free formula ≡ true
  pub effect : EqualsEffect g (record { x = doing; y = left; given = 0 }) formula

-- no observation is left, or those that are left have an effect that is known
abbrev pub IsSettled : MixedGraph → (doing left : ℕ) → Type 0
IsSettled g doing left = (left ≡ 0) ⊎ HasFormula g doing left

-- then two models that agree on what is observed and differ on the joint effect differ on the target, under every value of its x
abbrev pub JointSettlesTarget : Type 0
JointSettlesTarget = (g : MixedGraph) → IsMixedGraph g → (t : PlainTarget) → IsConditionalTarget g t → (doing left : ℕ) (moved : List ℕ)
    → IsTurned g t doing left moved → IsSettled g doing left
    → (m₁ m₂ : FiniteModel) → Fits g m₁ → Fits g m₂ → IsPositiveModel m₁ → IsPositiveModel m₂ → AgreeObserved m₁ m₂
    → DifferOnTarget m₁ m₂ (record { x = doing; y = union t.y left; given = 0 }) → DifferOnTarget m₁ m₂ t
