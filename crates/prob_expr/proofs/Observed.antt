-- The value of a formula without interventions depends on what is observed alone.
use Rattle.std.proofs.Common.{ap, ◌∙◌, [], arith}
use Rattle.mixed_graph.specs.Vocabulary.{has}
use Rattle.mixed_graph.proofs.MaskLaws.{has_none}
use Rattle.finite_models.specs.Vocabulary.{FiniteModel, intervene}
use Rattle.finite_models.proofs.Weights.{weight-none}
use Rattle.prob_expr.specs.Experiments.{AgreeUnderAll}
use Rattle.prob_expr.specs.Laws.{EffectIsOverTotal, ObservedFixesValue, FormulaFixesEffect}
use Rattle.prob_expr.proofs.Allowed.{same_value, same_effect}

-- an effect of which nothing is given is over the weight of all worlds
pub effect_is_over_total : EffectIsOverTotal
effect_is_over_total = λ m t s none.
    weight-none (intervene m (has t.x) s) (has t.given) s (λ v. ap (λ n. has n v) none ∙ has_none v)

-- without an experiment there is nothing to agree on
pub no_experiments : (m₁ m₂ : FiniteModel) → AgreeUnderAll [] m₁ m₂
no_experiments m₁ m₂ z e = absurd (grind (arith, e))

pub observed_fixes_value : ObservedFixesValue
observed_fixes_value = λ g ok m₁ m₂ f₁ f₂ p₁ p₂ agreed f u s hs. same_value g ok m₁ m₂ f₁ f₂ p₁ p₂ agreed [] (no_experiments m₁ m₂) f u s hs

-- an effect that a formula without interventions equals is one in positive models that agree on what is observed
pub formula_fixes_effect : FormulaFixesEffect
formula_fixes_effect = λ g ok t f u h m₁ m₂ f₁ f₂ p₁ p₂ agreed s hs. same_effect g ok m₁ m₂ f₁ f₂ p₁ p₂ agreed [] (no_experiments m₁ m₂) t f u h s hs
