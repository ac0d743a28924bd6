-- Which answers to the effect of x on y are right, in the observed graph q.
use Rattle.std.specs.Prelude.{◌≡◌, Bool, false, Option, Some, None}
use Rattle.mixed_graph.specs.Vocabulary.{MixedGraph}
use Rattle.do_derivation.specs.declared.steps.Derivation.{Derivation}
use Rattle.do_derivation.specs.Vocabulary.{PlainDerivation, derivation_view}
use Rattle.effect_answers.specs.declared.hedges.EffectHedge.{EffectHedge}
use Rattle.effect_answers.specs.Hedges.{IsFoundHedge, HasArrays}
use Rattle.effect_answers.specs.Certificates.{IsReadBack}
use Rattle.effect_answers.specs.HedgeTelling.{hedge_certificate}

-- the derivation that is kept is this one; none is where no certificate is asked for
abbrev pub IsKept : (certified : Bool) → Option Derivation → PlainDerivation → Type 0
IsKept certified (Some e) d = derivation_view e ≡ d
IsKept certified None d = certified ≡ false

-- it is a hedge for the effect of x on y with two models that show that there is no formula, and its certificate is read back
pub record IsEffectHedge (q : MixedGraph) (a : EffectHedge) : Type 0 where
  pub found : IsFoundHedge q a.sets.x.bits a.sets.y.bits a.hedge a.pair
  pub arrays : HasArrays a.hedge
  pub reads_back : IsReadBack q.vertices (hedge_certificate a)
