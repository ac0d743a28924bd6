-- The faults of a set by a criterion are those of the query of `adjust`.
use Rattle.std.proofs.Common.{ℕ, Bool, true, false, List, inl, inr}
use Rattle.mixed_graph.specs.Vocabulary.{MixedGraph}
use Rattle.targets.specs.declared.fault.TargetFault.{TargetFault}
use Rattle.targets.specs.declared.fault.TargetFault.TheVariants.{NotOneX, NoMemory}
use Rattle.targets.specs.declared.query.Sets.{Sets}
use Rattle.targets.specs.Vocabulary.{Lists, AreSets, IsTargetFault, OrMemory}
use Rattle.adjust_command.specs.declared.criteria.Verdict.TheVariants.{NotOne}
use Rattle.adjust_command.specs.Vocabulary.{IsNotDecided, IsAdjustFault, IsVerdict}
use Rattle.adjust_command.specs.Queries.{Query}
use Rattle.evaluate_command.specs.Ways.{criterion_query}

-- a fault of lists is one of the query
pub listed_fault : (query : Query) (l : Lists) (f : TargetFault) → OrMemory (IsTargetFault l) f → OrMemory (IsAdjustFault query l) f
listed_fault query l NoMemory h = tt
listed_fault query l f h = inl h

undecided : (back_door : Bool) (q : MixedGraph) (set : List (List ℕ)) (s : Sets) → IsVerdict back_door q s.x.bits s.y.bits s.given.bits NotOne
    → IsNotDecided (criterion_query back_door set) s NotOneX
undecided false q set s h = absurd h
undecided true q set s h = h

-- exposures that aren't one vertex are one
pub not_one_fault : (back_door : Bool) (q : MixedGraph) (set : List (List ℕ)) (l : Lists) (s : Sets) → AreSets l s.x.bits s.y.bits s.given.bits
    → IsVerdict back_door q s.x.bits s.y.bits s.given.bits NotOne → IsAdjustFault (criterion_query back_door set) l NotOneX
not_one_fault back_door q set l s named h = inr (record { sets = s; named = named; refused = undecided back_door q set s h })
