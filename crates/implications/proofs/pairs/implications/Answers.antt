use Rattle.std.proofs.Common.{inl, arith}
use Rattle.mixed_graph.specs.Vocabulary.{graph_of}
use Rattle.implications.proofs.Listing.{each_independent, separable_is_independent}
use Rattle.implications.proofs.pairs.implications.Goals as goal

pub returns-clause-independent : goal.returns-clause-independent
returns-clause-independent c = each_independent (graph_of c.args.g.now) c.args.g.now.valid c.lower.list.items c.lower.invariant.each

pub returns-clause-complete : goal.returns-clause-complete
returns-clause-complete c = λ a b i.
    let s = (separable_is_independent (graph_of c.args.g.now) c.args.g.now.valid a b).1 i in
    c.lower.invariant.all a b (inl (let o = s.order in let v = s.vertex in let end = c.lower-test.false in omega (arith, o, v, end))) s
