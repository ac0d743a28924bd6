use Rattle.std.proofs.Common.{sym, subst, ◌∙◌}
use Rattle.mixed_graph.specs.Vocabulary.{texts}
use Rattle.targets.specs.Targets.{IsNameFault, walked_in}
use Rattle.targets.proofs.Walking.{fault_first}
use Rattle.targets.proofs.Queries.{first_fault-append, after_list}
use Rattle.targets.proofs.walk_two.Goals as goal

pub returns-in-Err-clause-fault : goal.returns-in-Err-clause-fault
returns-in-Err-clause-fault c =
    let all = c.args.all.now in let observed = c.args.observed.now in
    subst (λ o. IsNameFault o c.in-Err.fault) (sym (first_fault-append all observed (walked_in observed c.args.walked.bits) (texts c.args.first.now)
    (texts c.args.second.now)))
    (fault_first _ _ c.in-Err.fault c.in-Err.ensures.fault)

pub returns-in-Err-walk-clause-fault : goal.returns-in-Err-walk-clause-fault
returns-in-Err-walk-clause-fault c =
    subst (λ o. IsNameFault o c.in-Err-walk.fault)
    (sym (after_list c.args.all.now c.args.observed.now c.args.walked.bits c.in-Ok.set.bits c.union.result.bits (texts c.args.first.now)
    (texts c.args.second.now) c.in-Ok.ensures.none c.in-Ok.ensures.set c.union.ensures.members))
    c.in-Err-walk.ensures.fault

pub returns-in-Ok-walk-clause-none : goal.returns-in-Ok-walk-clause-none
returns-in-Ok-walk-clause-none c =
    after_list c.args.all.now c.args.observed.now c.args.walked.bits c.in-Ok.set.bits c.union.result.bits (texts c.args.first.now) (texts c.args.second.now)
    c.in-Ok.ensures.none c.in-Ok.ensures.set c.union.ensures.members
    ∙ c.in-Ok-walk.ensures.none
