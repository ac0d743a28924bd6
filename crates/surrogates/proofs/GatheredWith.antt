-- The factors of further districts over experiments go on behind those of the first ones.
use Rattle.std.proofs.Common.{ℕ, ◌+◌, ◌≡◌, List, length, map, sym, ap, subst}
use Rattle.std.specs.Prelude.{Result, Ok, Err, IfOk, IfErr}
use Rattle.std.proofs.lemmas.List.{length-map}
use Rattle.mixed_graph.specs.Vocabulary.{MixedGraph}
use Rattle.prob_expr.specs.View.{view}
use Rattle.identify.specs.declared.factors.district_factor.Factor.{Factor}
use Rattle.identify.specs.declared.factors.district_factor.FactorFault.{FactorFault}
use Rattle.identify.specs.declared.factors.district_factor.FactorFault.TheVariants.{Stopped}
use Rattle.identify.specs.declared.factors.district_factor.FactorFault.TheVariants.{NoMemory}
use Rattle.identify.specs.declared.answer.Factors.{Factors}
use Rattle.identify.proofs.GatheredFactors.{Continues, Gathered, GoesOn, gathered_derived}
use Rattle.surrogates.specs.Surrogates.{AreDerivedWith, StopsWith}
use Rattle.surrogates.specs.Gathered.{AreFactorsWith}
use Rattle.surrogates.specs.Tries.{IsFirstTried, IsBlockedFactor}

tried_continues : (g : MixedGraph) (zs : List ℕ) (c k : ℕ) (f : Factor) → IsFirstTried g zs c k f → Continues (AreDerivedWith g zs) (StopsWith g zs) c k f
tried_continues g zs c k f is = record {
  few = is.tried.few;
  derived = λ ts es fs ls rest h. AreDerivedWith.next is.first is.tried.derived (subst (λ z. AreDerivedWith g zs z ts es fs ls rest) number h);
  stopped = λ ts small big h. StopsWith.after is.first is.tried.derived.made (subst (λ z. StopsWith g zs z ts small big) number h);
}
  where
    number : k + length f.defs.items ≡ k + length (map view f.defs.items)
    number = ap (λ z. k + z) (sym (length-map f.defs.items view))

pub tried_goes_on : (g : MixedGraph) (zs : List ℕ) (c k : ℕ) (r : Result Factor FactorFault) → IfOk r (IsFirstTried g zs c k)
    → IfErr r (IsBlockedFactor g zs c) → GoesOn (AreDerivedWith g zs) (StopsWith g zs) c k r
tried_goes_on g zs c k (Ok f) is fault = tried_continues g zs c k f is
tried_goes_on g zs c k (Err (Stopped big)) is fault = λ ts. StopsWith.first fault.0 fault.1
tried_goes_on g zs c k (Err NoMemory) is fault = tt

pub factors_of : (g : MixedGraph) (zs ts : List ℕ) (made : Factors) → Gathered (AreDerivedWith g zs) (StopsWith g zs) ts made → AreFactorsWith g zs ts made
factors_of g zs ts made s = record {
  derived = gathered_derived (AreDerivedWith g zs) (StopsWith g zs) (λ k. AreDerivedWith.none) ts made s;
  counted = s.listed;
  few = s.few;
}
