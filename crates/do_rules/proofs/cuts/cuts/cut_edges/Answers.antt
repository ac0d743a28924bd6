use Rattle.std.proofs.Common.{◌≡◌, not, ◌&&◌, get_or, sym, subst, ap, ◌∙◌}
use Rattle.mixed_graph.specs.Vocabulary.{has, IsMixedGraph, graph_from, graph_of}
use Rattle.mixed_graph.proofs.Restricting.{same_graph}
use Rattle.do_rules.specs.Cuts.{cut_edges}
use Rattle.do_rules.proofs.Cutting.{not_either, IsMixedGraph-cut_edges}
use Rattle.do_rules.proofs.cuts.cuts.cut_edges.Goals as goal
use Rattle.do_rules.proofs.cuts.cuts.cut_edges.Goals.{After-without-4}

is_cut : (c : After-without-4) → graph_from c.args.g.now.n c.without-2.result c.without-4.result
    ≡ cut_edges (graph_of c.args.g.now) c.args.e.now.out c.args.e.now.both
is_cut c = same_graph c.args.g.now.n _ _ _ _ c.without-2.ensures
    (λ u v. c.without-4.ensures u v
    ∙ ap (λ p. p && not (has (get_or c.transposed-2.result u 0) v)) (c.without-3.ensures u v)
    ∙ ap (λ p. (has (get_or c.args.g.now.spouses u 0) v && not (has (get_or c.args.e.now.both u 0) v)) && not p) (c.transposed-2.ensures v u)
    ∙ not_either (has (get_or c.args.g.now.spouses u 0) v) (has (get_or c.args.e.now.both u 0) v) (has (get_or c.args.e.now.both v 0) u))

pub invariant_of-result : goal.invariant_of-result
invariant_of-result c = record {
  small = c.args.g.now.small;
  agree = λ u v. c.without.ensures v u
      ∙ (let e = c.args.g.now.agree u v in let t = c.transposed.ensures u v in cc)
      ∙ sym (c.without-2.ensures u v);
  valid = subst IsMixedGraph (sym (is_cut (goal.at.invariant_of-result c).After-without-4))
      (IsMixedGraph-cut_edges (graph_of c.args.g.now) c.args.e.now.out c.args.e.now.both c.args.g.now.valid);
}

pub returns : goal.returns
returns c = is_cut (goal.at.returns c).After-without-4
