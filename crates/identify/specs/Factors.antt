-- The factor of a district, as the code gives it.
use Rattle.std.specs.Prelude.{ℕ, ◌≡◌, List, map}
use Rattle.mixed_graph.specs.Vocabulary.{MixedGraph, all}
use Rattle.prob_expr.specs.View.{view}
use Rattle.do_derivation.specs.Vocabulary.{steps_view, lemma_view}
use Rattle.identification_theory.specs.Vocabulary.{AreAncestorsIn, Source, IsFactor, IsStopped, AreFactorSteps}
use Rattle.identify.specs.declared.factors.district_factor.Factor.{Factor}
use Rattle.identify.specs.declared.factors.district_factor.FactorFault.{FactorFault}
use Rattle.identify.specs.declared.factors.district_factor.FactorFault.TheVariants.{Stopped, NoMemory}
use Rattle.identify.specs.declared.wanted.Wanted.{Wanted}
use Rattle.identify.specs.declared.wanted.Wanted.TheVariants.{Derivation}

-- f is the factor of c by this order, read from the distribution of the ancestors of c under an intervention on z, with its definitions from number k
-- on, and where a derivation is wanted with that
pub record IsMadeFactor (wanted : Wanted) (g : MixedGraph) (order : List ℕ) (z c k : ℕ) (f : Factor) : Type 0 where
  pub a : ℕ
  pub ancestors : AreAncestorsIn g (all g.vertices) c a
  pub factor : IsFactor g order c a (Source.Under z) k (map view f.defs.items) (view f.value)
  pub steps : wanted ≡ Derivation → AreFactorSteps g order c a (Source.Under z) k (map lemma_view f.lemmas.items) (steps_view f.steps.items)

-- the same read from the observed distribution
abbrev pub IsFactorOf : Wanted → MixedGraph → List ℕ → (c k : ℕ) → Factor → Type 0
IsFactorOf wanted g order c k f = IsMadeFactor wanted g order 0 c k f

-- the procedure for c, from the ancestors of c on, stops at t
pub record StopsAtSet (g : MixedGraph) (c t : ℕ) : Type 0 where
  pub a : ℕ
  pub ancestors : AreAncestorsIn g (all g.vertices) c a
  pub stop : IsStopped g c a t

-- why c has no factor
abbrev pub IsFactorFault : MixedGraph → (c : ℕ) → FactorFault → Type 0
IsFactorFault g c (Stopped t) = StopsAtSet g c t.bits
IsFactorFault g c NoMemory = Unit {0}
