use Rattle.std.proofs.Common.{sym, ◌∙◌, arith}
use Rattle.count_table.proofs.TableSteps.{levels_skip}
use Rattle.count_table.proofs.counts.levels_at.Goals as goal

pub loop-i-preserved : goal.loop-i-preserved
loop-i-preserved c =
    sym (levels_skip c.args.vertices.now c.args.levels.now c.args.v c.loop-i.i c.loop-i-test.true (omega (arith, c.loop-i-test.true, c.requires))
    c.if-vertices-i.false) ∙ c.loop-i.invariant
