use Rattle.std.proofs.Common.{◌≡◌, ◌∙◌, sym, subst, length, rules}
use Rattle.mixed_graph.specs.Vocabulary.{texts}
use Rattle.targets.specs.Vocabulary.{IsNameFault}
use Rattle.targets.proofs.Walking.{texts-none}
use Rattle.diagram.specs.Vocabulary.{lent}
use Rattle.natural_command.specs.Asking.{natural_lists}
use Rattle.further_lists.proofs.NameFaults.{query_fault, later_named}
use Rattle.further_lists.proofs.WalkedNames.{walked_names}
use Rattle.natural_command.proofs.asking.question_of.Goals as goal

pub returns-in-Err-clause-fault : goal.returns-in-Err-clause-fault
returns-in-Err-clause-fault c =
    let l = natural_lists c.args.diagram.now (lent c.args.x) (lent c.args.y) (texts c.args.through.now) (texts c.args.given.now) in
    query_fault l.query l.through c.in-Err.fault c.in-Err.ensures.fault

pub returns-in-Err-walk-clause-fault : goal.returns-in-Err-walk-clause-fault
returns-in-Err-walk-clause-fault c =
    let l = natural_lists c.args.diagram.now (lent c.args.x) (lent c.args.y) (texts c.args.through.now) (texts c.args.given.now) in
    let s = c.in-Ok.sets in
    later_named l.query l.through s.x.bits s.y.bits s.given.bits c.in-Err-walk.fault c.in-Ok.ensures.sets
    (subst (λ o. IsNameFault o c.in-Err-walk.fault) (walked_names l.query s.x.bits s.y.bits s.given.bits c.walked-walked.result.bits c.in-Ok.ensures.sets
    c.walked-walked.ensures l.through)
    c.in-Err-walk.ensures.fault)

pub returns-clause-question : goal.returns-clause-question
returns-clause-question c =
    let l = natural_lists c.args.diagram.now (lent c.args.x) (lent c.args.y) (texts c.args.through.now) (texts c.args.given.now) in
    let s = c.in-Ok.sets in
    let some : length c.args.through.now ≡ 0 → ⊥ = search rules in
    record {
      query = c.in-Ok.ensures.sets;
      no_fault = sym (walked_names l.query s.x.bits s.y.bits s.given.bits c.walked-walked.result.bits c.in-Ok.ensures.sets
          c.walked-walked.ensures l.through)
          ∙ c.in-Ok-walk.ensures.none;
      some = λ e. some (texts-none c.args.through.now e);
      through = c.in-Ok-walk.ensures.set;
    }
