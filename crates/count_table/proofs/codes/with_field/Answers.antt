use Rattle.std.proofs.Common.{arith}
use Rattle.count_table.proofs.TableSteps.{level_done}
use Rattle.count_table.proofs.codes.with_field.Goals as goal

pub levels-preserved : goal.levels-preserved
levels-preserved c = level_done c.args.levels c.levels.k c.codes.code-index c.args.codes.now c.codes.made.items (omega (arith, c.codes-test.false))
    c.codes.invariant
