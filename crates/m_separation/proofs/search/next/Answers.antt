use Rattle.std.proofs.Common.{◌∙◌, sym}
use Rattle.mixed_graph.specs.Vocabulary.{has, graph_of}
use Rattle.m_separation.specs.States.{mask_of}
use Rattle.m_separation.proofs.Nexts.{next_is}
use Rattle.m_separation.proofs.search.next.Goals as goal

pub returns : goal.returns
returns c = next_is (graph_of c.args.g.now) c.args.g.now.valid (has c.args.w.bits) (has c.args.above.bits) c.requires (mask_of c.args.from)
    (mask_of c.passing.result) (mask_of c.passing-2.result) (mask_of (record { tails = c.joined.result; heads = c.union.result }))
    c.vertices-through.result.bits c.vertices-turning.result.bits c.joined-2.result.bits c.joined-3.result.bits
    c.passing.ensures c.passing-2.ensures c.vertices-through.ensures c.vertices-turning.ensures
    (λ u. (
      λ i. (let s = (c.joined.ensures u).0 i in (s.0, s.1, sym (c.args.g.now.agree u s.0) ∙ s.2)),
      λ s. (c.joined.ensures u).1 (s.0, s.1, c.args.g.now.agree u s.0 ∙ s.2),
    ))
    c.joined-2.ensures c.joined-3.ensures c.union.ensures.members
