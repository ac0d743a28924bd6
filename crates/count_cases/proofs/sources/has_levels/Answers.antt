use Rattle.std.proofs.Common.{arith}
use Rattle.mixed_graph.specs.Vocabulary.{has}
use Rattle.mixed_graph.proofs.Masks.{below_64}
use Rattle.count_cases.proofs.sources.has_levels.Goals as goal

pub returns : goal.returns
returns c found u member = c.loop-v.invariant u (let lt = below_64 c.args.of.bits u (omega arith) member in omega (arith, lt, c.loop-v-test.false)) member
