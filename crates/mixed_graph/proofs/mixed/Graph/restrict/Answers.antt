use Rattle.std.proofs.Common.{◌≡◌, sym, subst, ◌∙◌}
use Rattle.mixed_graph.specs.Bits.{has}
use Rattle.mixed_graph.specs.Graphs.{IsMixedGraph, graph_from, restricted}
use Rattle.mixed_graph.specs.Shown.{graph_of}
use Rattle.mixed_graph.proofs.PairMasks.{and_swap}
use Rattle.mixed_graph.proofs.Restricting.{same_graph, IsMixedGraph-restricted}
use Rattle.mixed_graph.proofs.mixed.Graph.restrict.Goals as goal
use Rattle.mixed_graph.proofs.mixed.Graph.restrict.Goals.{After-kept-3}

is_restricted : (c : After-kept-3) →
    graph_from c.args.self.now.n c.kept-2.result c.kept-3.result ≡ restricted (graph_of c.args.self.now) (has c.args.tails.bits) (has c.args.heads.bits)
    (has c.args.ends.bits)
is_restricted c = same_graph c.args.self.now.n _ _ _ _ c.kept-2.ensures c.kept-3.ensures

pub invariant_of-result : goal.invariant_of-result
invariant_of-result c = record {
  small = c.args.self.now.small;
  agree = λ a b. c.kept.ensures b a
      ∙ (let e = c.args.self.now.agree a b in let s = and_swap (has c.args.heads.bits b) (has c.args.tails.bits a) in cc)
      ∙ sym (c.kept-2.ensures a b);
  valid = subst IsMixedGraph (sym (is_restricted (goal.at.invariant_of-result c).After-kept-3))
      (IsMixedGraph-restricted (graph_of c.args.self.now) (has c.args.tails.bits) (has c.args.heads.bits) (has c.args.ends.bits) c.args.self.now.valid);
}

pub returns : goal.returns
returns c = is_restricted (goal.at.returns c).After-kept-3
