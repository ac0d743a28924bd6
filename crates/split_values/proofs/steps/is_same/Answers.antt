use Rattle.std.proofs.Common.{◌∙◌, sym, arith}
use Rattle.count_eval.specs.Vocabulary.{cell_of}
use Rattle.split_values.proofs.Same.{same_never}
use Rattle.split_values.proofs.steps.is_same.Goals as goal

pub returns-then-first-v : goal.returns-then-first-v
returns-then-first-v c =
    sym (same_never c.args.n c.loop-v.v c.args.x.bits (cell_of c.args.first.now) (cell_of c.args.second.now) (omega (arith, c.loop-v-test.true))
    (sym c.has.ensures ∙ c.if-has.true) c.if-first-v.true)
