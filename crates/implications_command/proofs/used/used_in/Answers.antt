use Rattle.std.proofs.Common.{ap, ◌∙◌, arith, length, ◌≤◌}
use Rattle.mixed_graph.specs.Vocabulary.{union}
use Rattle.implications_command.proofs.Using.{used_step, used_end}
use Rattle.implications_command.proofs.used.used_in.Goals as goal

pub loop-i-preserved : goal.loop-i-preserved
loop-i-preserved c =
    used_step c.loop-i.all.bits c.union-all.result.bits c.args.list.now c.loop-i.i-index _ (omega arith)
    (c.union-all.ensures.mask ∙ ap (λ x. union c.loop-i.all.bits x) c.used_for.ensures)
    ∙ c.loop-i.invariant

pub returns : goal.returns
returns c =
    let le : length c.args.list.now ≤ c.loop-i.i-index = omega arith in
    used_end c.loop-i.all.bits c.args.list.now c.loop-i.i-index le ∙ c.loop-i.invariant
