-- What one round toward a factor comes to.
use Rattle.std.specs.Prelude.{ℕ, ◌≡◌, ◌≢◌, List, []}
use Rattle.mixed_graph.specs.Vocabulary.{MixedGraph, minus}
use Rattle.hedge.specs.Vocabulary.{IsDistrict}
use Rattle.prob_expr.specs.Tree.{sum}
use Rattle.prob_expr.specs.View.{view}
use Rattle.do_derivation.specs.Vocabulary.{steps_view}
use Rattle.identification_theory.specs.Vocabulary.{AreAncestorsIn, Source, IsFactor, IsStopped, cut_steps, AreFactorSteps}
use Rattle.identify.specs.declared.factors.body.Body.{Body}
use Rattle.identify.specs.declared.factors.district_factor.FactorFault.{FactorFault}
use Rattle.identify.specs.declared.factors.district_factor.FactorFault.TheVariants.{Stopped, NoMemory}
use Rattle.identify.specs.declared.factors.rounds.Round.{Round}
use Rattle.identify.specs.declared.factors.rounds.Round.TheVariants.{Done, Further}
use Rattle.identify.specs.declared.wanted.Wanted.{Wanted}
use Rattle.identify.specs.declared.wanted.Wanted.TheVariants.{Derivation}
use Rattle.identify.specs.Bodies.{IsBodyOf}

-- the second is the sum over z of the first, and where a derivation is wanted its steps go there
pub record IsSummed (wanted : Wanted) (z : ℕ) (whole found : Body) : Type 0 where
  pub value : view found.value ≡ sum z (view whole.value)
  pub steps : wanted ≡ Derivation → steps_view found.steps.items ≡ cut_steps z (steps_view whole.steps.items)

-- the factor of c from the set a is there, and needs no definition
pub record IsDone (wanted : Wanted) (g : MixedGraph) (order : List ℕ) (c a : ℕ) (from : Source) (found : Body) : Type 0 where
  pub factor : (k : ℕ) → IsFactor g order c a from k [] (view found.value)
  pub steps : wanted ≡ Derivation → (k : ℕ) → AreFactorSteps g order c a from k [] (steps_view found.steps.items)

-- The district t of c in a is larger than c, and so is its part a2 that leads to c, which isn't t: the sum of the factor of t down to a2.
pub record IsFurther (wanted : Wanted) (g : MixedGraph) (order : List ℕ) (c a : ℕ) (from : Source) (a2 : ℕ) (found : Body) : Type 0 where
  pub t : ℕ
  pub district : IsDistrict g a c t
  pub larger : t ≢ c
  pub leads : AreAncestorsIn g t c a2
  pub smaller : a2 ≢ t
  pub more : a2 ≢ c
  pub whole : Body
  pub is_whole : IsBodyOf wanted g order from a t whole
  pub is_summed : IsSummed wanted (minus t a2) whole found

-- what a round for c from the set a comes to
abbrev pub IsRound : Wanted → MixedGraph → List ℕ → (c a : ℕ) → Source → Round → Type 0
IsRound wanted g order c a from (Done body) = IsDone wanted g order c a from body
IsRound wanted g order c a from (Further a2 body) = IsFurther wanted g order c a from a2.bits body

-- why a round for c from the set a comes to nothing
abbrev pub IsRoundFault : MixedGraph → (c a : ℕ) → FactorFault → Type 0
IsRoundFault g c a (Stopped t) = IsStopped g c a t.bits
IsRoundFault g c a NoMemory = Unit {0}
