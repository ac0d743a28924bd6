use Rattle.std.proofs.Common.{◌||◌, ◌∙◌, sym, ap}
use Rattle.mixed_graph.specs.Vocabulary.{has, graph_of}
use Rattle.implications.proofs.LinkLaws.{linked_is}
use Rattle.implications.proofs.links.linked.Goals as goal

pub returns : goal.returns
returns c = λ u. linked_is (graph_of c.args.g.now) (has c.args.w.bits) (has c.args.from.bits) (has c.difference.result.bits)
    (has c.joined-spouses.result.bits) (has c.joined.result.bits) (has c.difference-parents.result.bits) (has c.joined-children.result.bits)
    (has c.union-2.result.bits) u (c.joined-spouses.ensures u) (
      λ i. (let s = (c.joined.ensures u).0 i in (s.0, s.1, sym (c.args.g.now.agree u s.0) ∙ s.2)),
      λ s. (c.joined.ensures u).1 (s.0, s.1, c.args.g.now.agree u s.0 ∙ s.2),
    )
    (c.joined-children.ensures u) (c.difference-parents.ensures.members u) c.difference.ensures.members
    (c.union-2.ensures.members u ∙ ap (λ t. t || has c.joined-children.result.bits u) (c.union.ensures.members u))
