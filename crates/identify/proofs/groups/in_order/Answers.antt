use Rattle.std.proofs.Common.{length-take, arith}
use Rattle.identify.proofs.groups.in_order.Goals as goal

pub members_in-requires-clause-long : goal.members_in-requires-clause-long
members_in-requires-clause-long c = (let n = length-take c.args.order.now.count c.args.order.now.list in let few = c.args.order.now.in_range in
    omega (arith, n, few))
