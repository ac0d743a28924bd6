use Rattle.std.proofs.Common.{arith}
use Rattle.mixed_graph.proofs.Masks.{below_64}
use Rattle.evaluate_treated.proofs.levels.are_two_levels.Goals as goal

pub returns-clause-yes : goal.returns-clause-yes
returns-clause-yes c = λ v member.
    c.loop-v.invariant v (let lt = below_64 c.args.x.bits v (omega arith) member in omega (arith, lt, c.loop-v-test.false)) member
