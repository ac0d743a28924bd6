use Rattle.std.proofs.Common.{◌+◌, drop, map, sym, ap, subst, ◌∙◌, arith}
use Rattle.std.proofs.Math.ListN.{drop_of_length-le}
use Rattle.mixed_graph.specs.Vocabulary.{texts}
use Rattle.prob_expr.specs.Vocabulary.{masks_of}
use Rattle.command_words.specs.Vocabulary.{names_in}
use Rattle.targets.specs.Vocabulary.{first_fault, walked_in, IsNameFault, IsListedSet}
use Rattle.targets.proofs.Queries.{from_empty}
use Rattle.experiment_lists.proofs.Walked.{AreWalked, walked_more, walked_done, fault_next, lists-drop, masks_pushed}
use Rattle.experiment_lists.proofs.sets.experiment_sets.Goals as goal

pub returns-in-Err-clause-fault : goal.returns-in-Err-clause-fault
returns-in-Err-clause-fault c =
    let all = c.args.all.now in let observed = c.args.observed.now in let lists = map names_in c.args.experiments.now in
    let rest = map names_in (drop (c.loop-experiment.experiment-index + 1) c.args.experiments.now) in
    let at = lists-drop c.args.experiments.now c.loop-experiment.experiment-index c.experiment-item.result c.loop-experiment-test.true
    (sym c.experiment-item.is) in
    fault_next all observed lists rest (masks_of c.loop-experiment.sets.items) (names_in c.experiment-item.result) c.empty.result.bits c.empty.ensures.members
    (subst (AreWalked all observed lists (masks_of c.loop-experiment.sets.items)) at c.loop-experiment.invariant) c.in-Err.fault
    (subst (λ t. IsNameFault (first_fault all observed (walked_in observed c.empty.result.bits) t) c.in-Err.fault) (ap texts c.as_slice.ensures.value)
    c.in-Err.ensures.fault)

pub loop-experiment-preserved : goal.loop-experiment-preserved
loop-experiment-preserved c =
    let all = c.args.all.now in let observed = c.args.observed.now in let lists = map names_in c.args.experiments.now in
    let rest = map names_in (drop (c.loop-experiment.experiment-index + 1) c.args.experiments.now) in
    let e = names_in c.experiment-item.result in
    let at = lists-drop c.args.experiments.now c.loop-experiment.experiment-index c.experiment-item.result c.loop-experiment-test.true
    (sym c.experiment-item.is) in
    walked_more all observed lists rest (masks_of c.loop-experiment.sets.items) (masks_of c.push.new.self.items) e c.in-Ok.set.bits
    (masks_pushed c.push.new.self.items c.loop-experiment.sets.items c.in-Ok.set c.in-Ok-push.ensures.items)
    (from_empty all observed c.empty.result.bits c.empty.ensures.members e
    ∙ ap (first_fault all observed (walked_in observed c.empty.result.bits)) (sym (ap texts c.as_slice.ensures.value)) ∙ c.in-Ok.ensures.none)
    (subst (λ t. IsListedSet observed t c.in-Ok.set.bits) (ap texts c.as_slice.ensures.value) c.in-Ok.ensures.set)
    (subst (AreWalked all observed lists (masks_of c.loop-experiment.sets.items)) at c.loop-experiment.invariant)

pub returns-clause-sets : goal.returns-clause-sets
returns-clause-sets c =
    let rest = map names_in (drop c.loop-experiment.experiment-index c.args.experiments.now) in
    walked_done c.args.all.now c.args.observed.now (map names_in c.args.experiments.now) rest (masks_of c.loop-experiment.sets.items)
    (ap (map names_in) (drop_of_length-le c.args.experiments.now (omega arith))) c.loop-experiment.invariant
