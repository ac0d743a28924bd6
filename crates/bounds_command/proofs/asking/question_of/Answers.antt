use Rattle.std.proofs.Common.{◌++◌, ◌∙◌, sym, subst, refl}
use Rattle.mixed_graph.specs.Vocabulary.{texts}
use Rattle.targets.specs.Vocabulary.{IsNameFault}
use Rattle.diagram.specs.Vocabulary.{lent}
use Rattle.bounds_command.specs.Asking.{bound_lists}
use Rattle.further_lists.proofs.NameFaults.{query_fault, later_named}
use Rattle.further_lists.proofs.WalkedNames.{walked_names}
use Rattle.bounds_command.proofs.asking.question_of.Goals as goal

pub returns-in-Err-clause-fault : goal.returns-in-Err-clause-fault
returns-in-Err-clause-fault c =
    let l = bound_lists c.args.diagram.now (lent c.args.x) (lent c.args.y) (texts c.args.given.now) (texts c.args.instruments.now) (texts c.args.strata.now) in
    query_fault l.query (l.instruments ++ l.strata) c.in-Err.fault c.in-Err.ensures.fault

pub returns-in-Ok-walk_two-clause-question : goal.returns-in-Ok-walk_two-clause-question
returns-in-Ok-walk_two-clause-question c =
    let l = bound_lists c.args.diagram.now (lent c.args.x) (lent c.args.y) (texts c.args.given.now) (texts c.args.instruments.now) (texts c.args.strata.now) in
    let s = c.in-Ok.sets in
    record {
      query = c.in-Ok.ensures.sets;
      no_fault = sym (walked_names l.query s.x.bits s.y.bits s.given.bits c.walked-walked.result.bits c.in-Ok.ensures.sets c.walked-walked.ensures
          (l.instruments ++ l.strata))
          ∙ c.in-Ok-walk_two.ensures.none;
      instruments = c.in-Ok-walk_two.ensures.first;
      strata = c.in-Ok-walk_two.ensures.second;
      method = refl;
    }

pub returns-in-Err-walk_two-clause-fault : goal.returns-in-Err-walk_two-clause-fault
returns-in-Err-walk_two-clause-fault c =
    let l = bound_lists c.args.diagram.now (lent c.args.x) (lent c.args.y) (texts c.args.given.now) (texts c.args.instruments.now) (texts c.args.strata.now) in
    let s = c.in-Ok.sets in
    later_named l.query (l.instruments ++ l.strata) s.x.bits s.y.bits s.given.bits c.in-Err-walk_two.fault c.in-Ok.ensures.sets
    (subst (λ o. IsNameFault o c.in-Err-walk_two.fault) (walked_names l.query s.x.bits s.y.bits s.given.bits c.walked-walked.result.bits c.in-Ok.ensures.sets
    c.walked-walked.ensures (l.instruments ++ l.strata))
    c.in-Err-walk_two.ensures.fault)
