-- The adjustment formula in models that are positive where it needs them to be, and nowhere else (the positivity of Hernan and Robins, Causal Inference,
-- section 3.2, for the values of the set that occur).
use Rattle.std.specs.Prelude.{ℕ, ◌≡◌, ◌≤◌, Bool, true, ◌||◌, IsTrue}
use Rattle.mixed_graph.specs.Vocabulary.{has, MixedGraph, IsMixedGraph}
use Rattle.fractions.specs.Vocabulary.{IsEqual}
use Rattle.finite_models.specs.Vocabulary.{FiniteModel, Fits, IsAssignment, event_weight}
use Rattle.do_rules.specs.Vocabulary.{AreThreeSets}
use Rattle.prob_expr.specs.Vocabulary.{PlainFormula, effect_on, Weights, weights_of, effect}
use Rattle.adjustment.specs.Vocabulary.{IsAdmissible, adjustment_formula}
use Rattle.count_eval.specs.Vocabulary.{IsMatched, is_supported_with_zeros, value_of_with_zeros}

-- P(x given z) is above 0 wherever P(z) is
abbrev pub IsWeaklyPositive : FiniteModel → (x z : ℕ → Bool) → Type 0
IsWeaklyPositive m x z = (s : ℕ → ℕ) → IsAssignment m.vertices m.size s → 1 ≤ event_weight m z s → 1 ≤ event_weight m (λ v. x v || z v) s

-- over these weights the formula has a value by the rule that a product with a factor 0 is 0, and it is the effect of x on y in the model
pub record IsEffectWithZeros (w : Weights) (f : PlainFormula) (m : FiniteModel) (x y : ℕ) (s : ℕ → ℕ) : Type 0 where
  pub supported : is_supported_with_zeros w f s ≡ true
  pub equal : IsEqual (value_of_with_zeros w f s) (effect m (effect_on x y) s)

-- the formula of an admissible set is so in each model that is weakly positive for it
abbrev pub AdmissibleAdjustsWeakly : Type 0
AdmissibleAdjustsWeakly = (g : MixedGraph) → IsMixedGraph g → (x y z : ℕ) → AreThreeSets g.vertices (has x) (has y) (has z)
    → IsAdmissible g (has x) (has y) (has z) → (m : FiniteModel) → Fits g m → IsWeaklyPositive m (has x) (has z)
    → (s : ℕ → ℕ) → IsAssignment m.vertices m.size s → IsEffectWithZeros (weights_of m) (adjustment_formula x y z) m x y s

-- and over any weights that are those of the model up to one factor
abbrev pub AdmissibleAdjustsMatched : Type 0
AdmissibleAdjustsMatched = (g : MixedGraph) → IsMixedGraph g → (x y z : ℕ) → AreThreeSets g.vertices (has x) (has y) (has z)
    → IsAdmissible g (has x) (has y) (has z) → (m : FiniteModel) → Fits g m → IsWeaklyPositive m (has x) (has z)
    → (used : ℕ → Bool) (w : Weights) (all : ℕ) → IsMatched used w all m
    → ((v : ℕ) → IsTrue (has x v || (has y v || has z v)) → used v ≡ true)
    → (s : ℕ → ℕ) → IsAssignment m.vertices m.size s → IsEffectWithZeros w (adjustment_formula x y z) m x y s
