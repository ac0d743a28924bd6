-- What values over counts say of nested effects.
use Rattle.std.specs.Prelude.{ℕ, ◌≡◌, Bool, List, Ok}
use Rattle.mixed_graph.specs.Vocabulary.{has, MixedGraph, IsMixedGraph}
use Rattle.fractions.specs.Vocabulary.{Fraction}
use Rattle.finite_models.specs.Vocabulary.{FiniteModel, Fits, IsAssignment, IsPositiveModel}
use Rattle.prob_expr.specs.Vocabulary.{Weights}
use Rattle.quantity.specs.Kinds.{Pair}
use Rattle.quantity.specs.Vocabulary.{Kind}
use Rattle.count_eval.specs.Vocabulary.{IsMatched}
use Rattle.nested_models.specs.Vocabulary.{nested_effect}
use Rattle.natural_id.specs.Vocabulary.{EqualsNatural, IsFormulaByParts, IsNaturalTarget, PlainPart}
use Rattle.factor_values.specs.Vocabulary.{AreObserved, PlainFactors, factors_outcome}
use Rattle.natural_values.specs.Factors.{natural_factors}

-- these are the factors of the formula that the procedure finds for P(y[x, m[x']] | z), which equals it in each positive model of the graph
pub record AreFactorsNested (g : MixedGraph) (x m y z : ℕ) (e : PlainFactors) : Type 0 where
  pub target : IsNaturalTarget g x m y z
  pub summed : ℕ
  pub parts : List PlainPart
  pub found : IsFormulaByParts g x m y z summed parts
  pub equals : EqualsNatural g x m y z summed parts
  pub factors : e ≡ natural_factors summed z parts

-- over weights that match a positive model of the graph, what a kind gives for such factors covers the nested effect in it
abbrev pub FactorsCoverNested : Kind → (Pair → Fraction → Type 0) → Type 0
FactorsCoverNested kind covers = (g : MixedGraph) → IsMixedGraph g → (w : FiniteModel) → Fits g w → IsPositiveModel w
    → (used : ℕ → Bool) (v : Weights) (all : ℕ) → IsMatched used v all w
    → (x m y z : ℕ) (e : PlainFactors) → AreFactorsNested g x m y z e → AreObserved used e
    → (s t : ℕ → ℕ) → IsAssignment w.vertices w.size s → IsAssignment w.vertices w.size t
    → (c : Pair) → factors_outcome kind v e s t ≡ Ok c → covers c (nested_effect w (has x) (has m) (has y) (has z) s t)
