use Rattle.std.proofs.Common.{◌≡◌, sym, subst, ◌∙◌, arith}
use Rattle.mixed_graph.specs.Vocabulary.{IsMixedGraph, graph_from, graph_of}
use Rattle.mixed_graph.proofs.Restricting.{same_graph}
use Rattle.latent_projection.specs.Removal.{without}
use Rattle.latent_projection.proofs.Removals.{graph_without}
use Rattle.latent_projection.proofs.latents.remove.Goals as goal
use Rattle.latent_projection.proofs.latents.remove.Goals.{After-spouses_past}

is_without : (c : After-spouses_past) → graph_from c.args.g.now.n c.arrows_past-2.result c.spouses_past.result ≡ without (graph_of c.args.g.now) c.args.k
is_without c = same_graph c.args.g.now.n _ _ _ _ c.arrows_past-2.ensures c.spouses_past.ensures

pub invariant_of-result : goal.invariant_of-result
invariant_of-result c = record {
  small = c.args.g.now.small;
  agree = λ u v. c.arrows_past.ensures v u
      ∙ (let direct = c.args.g.now.agree u v in let out = c.args.g.now.agree c.args.k v in let in_k = c.args.g.now.agree u c.args.k in grind arith)
      ∙ sym (c.arrows_past-2.ensures u v);
  valid = subst IsMixedGraph (sym (is_without (goal.at.invariant_of-result c).After-spouses_past))
      (graph_without (graph_of c.args.g.now) c.args.k c.args.g.now.valid);
}

pub returns : goal.returns
returns c = is_without (goal.at.returns c).After-spouses_past
