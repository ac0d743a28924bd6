use Rattle.std.proofs.Common.{sym, ◌∙◌}
use Rattle.mixed_graph.proofs.mixed.Graph.parents_of.Goals as goal

pub returns : goal.returns
returns c = λ u. (
  λ i. (let s = (c.joined.ensures u).0 i in (s.0, s.1, sym (c.args.self.now.agree u s.0) ∙ s.2)),
  λ s. (c.joined.ensures u).1 (s.0, s.1, c.args.self.now.agree u s.0 ∙ s.2),
)
