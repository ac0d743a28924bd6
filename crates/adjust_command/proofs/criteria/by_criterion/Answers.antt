use Rattle.std.proofs.Common.{Bool, true, false, refl, subst}
use Rattle.mixed_graph.specs.Vocabulary.{MixedGraph, graph_of}
use Rattle.targets.specs.declared.query.Sets.{Sets}
use Rattle.targets.specs.declared.fault.TargetFault.TheVariants.{NotOneX}
use Rattle.adjust_command.specs.Right.{IsNotJudged}
use Rattle.adjust_command.specs.Verdicts.{IsVerdict}
use Rattle.adjust_command.specs.declared.criteria.Verdict.TheVariants.{NotOne}
use Rattle.adjust_command.proofs.criteria.by_criterion.Goals as goal

not_one : (back_door : Bool) (q : MixedGraph) (s : Sets) → IsVerdict back_door q s.x.bits s.y.bits s.given.bits NotOne → IsNotJudged back_door s NotOneX
not_one true q s h = h
not_one false q s h = h

pub returns-in-Meets-clause-answer : goal.returns-in-Meets-clause-answer
returns-in-Meets-clause-answer c =
    let s = c.args.sets in
    (refl, subst (IsVerdict c.args.by_back_door (graph_of c.args.graph.now) s.x.bits s.y.bits s.given.bits) c.in-Meets.is c.judge.ensures)

pub returns-in-Breaks-clause-answer : goal.returns-in-Breaks-clause-answer
returns-in-Breaks-clause-answer c =
    let s = c.args.sets in
    (refl, subst (IsVerdict c.args.by_back_door (graph_of c.args.graph.now) s.x.bits s.y.bits s.given.bits) c.in-Breaks.is c.judge.ensures)

pub returns-in-NotOne-clause-fault : goal.returns-in-NotOne-clause-fault
returns-in-NotOne-clause-fault c =
    let s = c.args.sets in
    not_one c.args.by_back_door (graph_of c.args.graph.now) s
    (subst (IsVerdict c.args.by_back_door (graph_of c.args.graph.now) s.x.bits s.y.bits s.given.bits) c.in-NotOne.is c.judge.ensures)
