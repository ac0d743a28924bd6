-- What two models that differ on an effect exclude.
use Rattle.std.proofs.Common.{ℕ, ◌*◌, ◌≡◌, Bool, true, false, ◌||◌, refl, sym, ap, ap₂, ◌∙◌, []}
use mathlib.Core.Path.{fun_ext}
use Rattle.mixed_graph.specs.Vocabulary.{has}
use Rattle.mixed_graph.proofs.Masks.{has-zero}
use Rattle.finite_models.specs.Vocabulary.{weight_of}
use Rattle.prob_expr.specs.Differences.{UnequalWeights, DifferenceExcludesFormula, ExperimentsExcludeFormula}
use Rattle.prob_expr.proofs.Allowed.{same_effect}
use Rattle.prob_expr.proofs.Observed.{effect_is_over_total, no_experiments}

-- an event with the empty set added is the event
pub without_none : (c : ℕ → Bool) → ◌≡◌ {A = ℕ → Bool} (λ v. c v || has 0 v) c
without_none c = fun_ext (λ v. rw (has-zero v) (last (c v)))
  where
    last : (b : Bool) → (b || false) ≡ b
    last true = refl
    last false = refl

pub unequal_weights : UnequalWeights
unequal_weights = λ m₁ m₂ x y a unequal e. unequal
    (ap₂ (λ p q. p * q) (sym (ap (λ c. weight_of m₁ (has x) c a) (without_none (has y))))
    (sym (effect_is_over_total m₂ (record { x = x; y = y; given = 0 }) a refl))
    ∙ e.products
    ∙ ap₂ (λ p q. p * q) (ap (λ c. weight_of m₂ (has x) c a) (without_none (has y))) (effect_is_over_total m₁ (record { x = x; y = y; given = 0 }) a refl))

pub experiments_exclude_formula : ExperimentsExcludeFormula
experiments_exclude_formula = λ g ok m₁ m₂ f₁ f₂ p₁ p₂ agreed zs under t differ f allowed h.
    let d = differ (λ v. 0) (λ v vl. f₁.positive_size v vl) in
    d.0.unequal (same_effect g ok m₁ m₂ f₁ f₂ p₁ p₂ agreed zs under t f allowed h d.0.at d.0.within)

pub difference_excludes_formula : DifferenceExcludesFormula
difference_excludes_formula = λ g ok m₁ m₂ f₁ f₂ p₁ p₂ agreed t differ f free h.
    experiments_exclude_formula g ok m₁ m₂ f₁ f₂ p₁ p₂ agreed [] (no_experiments m₁ m₂) t differ f free h
