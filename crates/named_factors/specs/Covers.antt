-- What the values of factors over counts say of effects among the treated.
use Rattle.std.specs.Prelude.{ℕ, ◌≡◌, ◌||◌, Bool, [], Ok}
use Rattle.mixed_graph.specs.Vocabulary.{has, MixedGraph, IsMixedGraph}
use Rattle.fractions.specs.Vocabulary.{Fraction}
use Rattle.finite_models.specs.Vocabulary.{FiniteModel, Fits, IsAssignment, IsPositiveModel}
use Rattle.prob_expr.specs.Tree.{Tree}
use Rattle.prob_expr.specs.Vocabulary.{PlainFormula, Weights}
use Rattle.quantity.specs.Kinds.{Pair}
use Rattle.quantity.specs.Vocabulary.{Kind}
use Rattle.count_eval.specs.Vocabulary.{IsMatched}
use Rattle.treated_models.specs.Vocabulary.{NamesOnce, as_observed, effect_among, with_primes, EqualsAmong}
use Rattle.factor_values.specs.Vocabulary.{AreObserved, PlainFactors, factors_outcome}
use Rattle.named_factors.specs.Named.{AreNamedFactors}
use Rattle.named_factors.specs.Shapes.{IsOverOthers}

-- the formula is this tree alone
abbrev pub alone : Tree → PlainFormula
alone main = record { defs = []; main = main }

-- these are the factors of a formula that equals P(y under do(x) | x and z as observed) in each positive model of the graph
pub record AreFactorsAmong (g : MixedGraph) (x y z : ℕ) (e : PlainFactors) : Type 0 where
  pub main : Tree
  pub over : IsOverOthers g.vertices x main
  pub once : NamesOnce g.vertices x main
  pub equals : EqualsAmong g x y z (alone main)
  pub factors : AreNamedFactors g.vertices x main e

-- Over weights that match a positive model of the graph, what a kind gives for such factors covers the effect among those whose x was observed: at levels of
-- names, where x has the levels at its own names where it is set, and those at its primed names where it was observed.
abbrev pub FactorsCoverAmong : Kind → (Pair → Fraction → Type 0) → Type 0
FactorsCoverAmong kind covers = (g : MixedGraph) → IsMixedGraph g → (m : FiniteModel) → Fits g m → IsPositiveModel m
    → (used : ℕ → Bool) (w : Weights) (all : ℕ) → IsMatched used w all m
    → (x y z : ℕ) (e : PlainFactors) → AreFactorsAmong g x y z e → AreObserved used e
    → (s : ℕ → ℕ) → IsAssignment (with_primes m x).vertices (with_primes m x).size s
    → (c : Pair) → factors_outcome kind w e s (as_observed g.vertices x s) ≡ Ok c
    → covers c (effect_among m (has x) (has y) (λ v. has x v || has z v) s (as_observed m.vertices x s))
