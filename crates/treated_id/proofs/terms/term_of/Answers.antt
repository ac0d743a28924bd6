use Rattle.std.proofs.Common.{◌≡◌, ap, ap₂, ◌∙◌, ◌&&◌, not, rules}
use Rattle.mixed_graph.specs.declared.sets.VSet.{VSet}
use Rattle.mixed_graph.specs.Vocabulary.{graph_of}
use Rattle.prob_expr.specs.View.{view}
use Rattle.prob_expr.specs.declared.expr.Expr.{Prob}
use Rattle.prob_expr.specs.declared.expr.Expr.{the_lemmas}
use Rattle.prob_expr.specs.Tree.{prob}
use Rattle.treated_id.proofs.Listing.{pillow_is}
use Rattle.treated_id.proofs.terms.term_of.Goals as goal

view-Prob : (a b d : VSet) → view (Prob a b d) ≡ prob a.bits b.bits d.bits
view-Prob a b d = search (rules, the_lemmas)

pub returns : goal.returns
returns c = (
  c.names_of.result.bits,
  view-Prob c.one-2.result (record { bits = 0 }) c.names_of.result ∙ ap (λ k. prob k 0 c.names_of.result.bits) c.one-2.ensures.mask,
  record {
    near = c.district_of-near.result.bits;
    district = c.district_of-near.ensures.district;
    pillow = c.difference-pillow.result.bits;
    is_pillow = pillow_is (graph_of c.args.g.now) c.district_of-near.result.bits c.parents_of.result.bits c.difference-pillow.result.bits c.args.v
        c.parents_of.ensures
        (λ u. c.difference-pillow.ensures.members u ∙ ap₂ (λ a b. a && not b) (c.union.ensures.members u) (c.one.ensures.members u));
    names = c.names_of.ensures;
  },
)
