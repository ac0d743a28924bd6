use Rattle.std.proofs.Common.{◌≡◌, not, ap, ◌∙◌, arith, sym, subst, length, get_or}
use Rattle.mixed_graph.specs.Vocabulary.{has, IsMixedGraph, graph_from, graph_of}
use Rattle.mixed_graph.proofs.Restricting.{same_graph}
use Rattle.mixed_graph.proofs.Members.{length-members-le}
use Rattle.latent_projection.specs.Renumbering.{observed_below, renumbered}
use Rattle.latent_projection.proofs.Numbering.{IsMixedGraph-renumbered}
use Rattle.latent_projection.proofs.numbers.drop_latent.Goals as goal
use Rattle.latent_projection.proofs.numbers.drop_latent.Goals.{After-observed_rows-3}

is_renumbered : (c : After-observed_rows-3) → graph_from c.count_observed.result c.observed_rows-2.result c.observed_rows-3.result
    ≡ renumbered (graph_of c.args.g.now) (observed_below (has c.args.latent.bits) c.args.g.now.n)
is_renumbered c = ap (λ n. graph_from n c.observed_rows-2.result c.observed_rows-3.result) c.count_observed.ensures
    ∙ same_graph (length (observed_below (has c.args.latent.bits) c.args.g.now.n)) _ _ _ _ c.observed_rows-2.ensures c.observed_rows-3.ensures

pub invariant_of-result : goal.invariant_of-result
invariant_of-result c = record {
  small = let p = c.count_observed.ensures in let q = length-members-le (λ v. not (has c.args.latent.bits v)) c.args.g.now.n in let s = c.args.g.now.small in
      omega (arith, p, q, s);
  agree = λ u v.
      let vs = observed_below (has c.args.latent.bits) c.args.g.now.n in
      c.observed_rows.ensures v u ∙ (let e = c.args.g.now.agree (get_or vs u 0) (get_or vs v 0) in grind arith) ∙ sym (c.observed_rows-2.ensures u v);
  valid = subst IsMixedGraph (sym (is_renumbered (goal.at.invariant_of-result c).After-observed_rows-3))
      (IsMixedGraph-renumbered (graph_of c.args.g.now) (observed_below (has c.args.latent.bits) c.args.g.now.n) c.args.g.now.valid);
}

pub returns : goal.returns
returns c = is_renumbered (goal.at.returns c).After-observed_rows-3
