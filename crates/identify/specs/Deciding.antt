-- What there is of an effect, whether or not anybody makes it: a formula, or two models.
use Rattle.std.specs.Prelude.{ℕ, ◌≡◌, true, List, [], ◌∷◌}
use Rattle.mixed_graph.specs.Vocabulary.{MixedGraph, all, has}
use Rattle.finite_models.specs.Vocabulary.{AgreeObserved, FiniteModel, Fits, IsPositiveModel}
use Rattle.hedge.specs.declared.hedge.Hedge.{Hedge}
use Rattle.prob_expr.specs.Vocabulary.{is_do_free, PlainFormula, effect_on, EqualsEffect}
use Rattle.prob_expr.specs.Tree.{Tree}
use Rattle.do_derivation.specs.Vocabulary.{PlainDerivation}
use Rattle.identification_theory.specs.Vocabulary.{AreAncestorsIn, Source, IsFactor, IsStopped}
use Rattle.counter_models.specs.declared.counter_pair.CounterPair.{CounterPair}
use Rattle.counter_models.specs.Vocabulary.{DifferAtEach}
use Rattle.identify.specs.Answers.{IsRightFormula, IsRightHedge}

-- ---- the effect

-- some formula without interventions equals P(y | do(x)) in each positive model of the graph, at each assignment
pub record IsIdentifiable (g : MixedGraph) (x y : ℕ) : Type 0 where
  pub formula : PlainFormula
  pub do_free : is_do_free formula ≡ true
  pub effect : EqualsEffect g (effect_on x y) formula

-- two positive models of the graph agree on all observations, and differ on P(y | do(x)) under every value of x
pub record IsNotIdentifiable (g : MixedGraph) (x y : ℕ) : Type 0 where
  pub first : FiniteModel
  pub second : FiniteModel
  pub first_fits : Fits g first
  pub second_fits : Fits g second
  pub first_positive : IsPositiveModel first
  pub second_positive : IsPositiveModel second
  pub observed : AgreeObserved first second
  pub differ : DifferAtEach first second (has x) (has y)

-- some formula is a right answer, with a derivation
pub record HasRightFormula (g : MixedGraph) (x y : ℕ) : Type 0 where
  pub formula : PlainFormula
  pub derivation : PlainDerivation
  pub right : IsRightFormula g x y formula derivation

-- the hedge is a right answer, with some two models
pub record HasModels (g : MixedGraph) (x y : ℕ) (h : Hedge) : Type 0 where
  pub pair : CounterPair
  pub right : IsRightHedge g x y h pair

-- some hedge is
pub record HasRightHedge (g : MixedGraph) (x y : ℕ) : Type 0 where
  pub hedge : Hedge
  pub models : HasModels g x y hedge

-- ---- the factor of a district

-- the factor of c is there from the set a on, whatever the order, the source and the number of the next definition
abbrev pub IsExpressible : MixedGraph → (c a : ℕ) → Type 0
IsExpressible g c a = (order : List ℕ) (from : Source) (k : ℕ) → (defs : List Tree) × (value : Tree) × IsFactor g order c a from k defs value

-- from its ancestors on
pub record HasFactor (g : MixedGraph) (c : ℕ) : Type 0 where
  pub a : ℕ
  pub ancestors : AreAncestorsIn g (all g.vertices) c a
  pub factor : IsExpressible g c a

-- it stops inside big
pub record IsStoppedFrom (g : MixedGraph) (c big : ℕ) : Type 0 where
  pub a : ℕ
  pub ancestors : AreAncestorsIn g (all g.vertices) c a
  pub stops : IsStopped g c a big

-- so do the factors of all these districts
abbrev pub AreFactorable : MixedGraph → List ℕ → Type 0
AreFactorable g [] = Unit {0}
AreFactorable g (c ∷ cs) = HasFactor g c × AreFactorable g cs
