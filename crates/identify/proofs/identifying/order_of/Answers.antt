use Rattle.std.proofs.Common.{◌≡◌, length, arith, rules}
use Rattle.mixed_graph.specs.Vocabulary.{graph_of}
use Rattle.identify.proofs.Orders.{listed_order}
use Rattle.identify.proofs.identifying.order_of.Goals as goal

pub returns-clause-listed : goal.returns-clause-listed
returns-clause-listed c =
    let long : length c.order.result.list ≡ 64 = search rules in
    listed_order (graph_of c.args.g.now) c.order.result.list c.order.result.count (let few = c.order.result.in_range in omega (arith, few, long))
    c.order.ensures
