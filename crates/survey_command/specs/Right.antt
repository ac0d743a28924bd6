-- Which answers of `survey` are right: between how many two vertices of a large graph the effect of the first on the second can be computed from observations.
use Rattle.std.specs.Prelude.{ℕ, ◌≡◌, ◌<◌, Bool, true, false, not, ◌&&◌, ◌==◌, Result, Ok, Err}
use Rattle.mixed_graph.specs.Vocabulary.{MixedGraph, one}
use Rattle.hedge.specs.declared.hedge.Hedge.{Hedge}
use Rattle.hedge.specs.Vocabulary.{IsHedge}
use Rattle.prob_expr.specs.Vocabulary.{PlainFormula}
use Rattle.do_derivation.specs.Vocabulary.{PlainDerivation}
use Rattle.identify.specs.Vocabulary.{IsRightFormula}
use Rattle.targets.specs.declared.fault.TargetFault.{TargetFault}
use Rattle.survey_command.specs.Counts.{pairs_from, arrow_count, spouse_count}
use Rattle.survey_command.specs.Drawn.{drawn_graph}
use Rattle.survey_command.specs.declared.answer.Survey.{Survey}

-- the effect of a on b has a hedge, so observations don't tell it
abbrev pub HasHedge : MixedGraph → (a b : ℕ) → Type 0
HasHedge g a b = (h : Hedge) × IsHedge g (one a) (one b) h

-- the effect of a on b has a right formula with its derivation, so observations tell it
pub record HasFormula (g : MixedGraph) (a b : ℕ) : Type 0 where
  pub formula : PlainFormula
  pub derivation : PlainDerivation
  pub right : IsRightFormula g (one a) (one b) formula derivation

-- a and b are two vertices of the graph
pub record AreTwo (g : MixedGraph) (a b : ℕ) : Type 0 where
  pub first : a < g.vertices
  pub second : b < g.vertices
  pub differ : a ≡ b → ⊥

-- how many ordered pairs of two of n vertices pass the test
abbrev pub count_of_pairs : ℕ → (ℕ → ℕ → Bool) → ℕ
count_of_pairs n test = pairs_from n (λ a b. not (a == b) && test a b) n

-- Some test tells for each ordered pair of two vertices whether the effect of the first on the second has a hedge. Where it has none it has a right formula.
-- The answer has how many pairs have a formula, and how many have a hedge, and the sizes of the graph that the seed draws.
pub record IsSurvey (seed : ℕ) (g : MixedGraph) (a : Survey) : Type 0 where
  pub is_hedged : ℕ → ℕ → Bool
  pub hedged : (u v : ℕ) → AreTwo g u v → is_hedged u v ≡ true → HasHedge g u v
  pub unhedged : (u v : ℕ) → AreTwo g u v → is_hedged u v ≡ false → HasHedge g u v → ⊥
  pub identified : (u v : ℕ) → AreTwo g u v → is_hedged u v ≡ false → HasFormula g u v
  pub seed_is : a.seed ≡ seed
  pub vertices : a.vertices ≡ g.vertices
  pub directed : a.directed ≡ arrow_count g
  pub bidirected : a.bidirected ≡ spouse_count g
  pub formulas : a.tally.formulas ≡ count_of_pairs g.vertices (λ u v. not (is_hedged u v))
  pub hedges : a.tally.hedges ≡ count_of_pairs g.vertices is_hedged

-- the answer is always the survey of the graph that the seed draws
abbrev pub IsSurveyAnswer : (seed : ℕ) → Result Survey TargetFault → Type 0
IsSurveyAnswer seed (Ok a) = IsSurvey seed (drawn_graph seed) a
IsSurveyAnswer seed (Err fault) = ⊥
