use Rattle.std.proofs.Common.{◌+◌, ◌∙◌, IsTrue, List, sym, ap, subst, arith}
use Rattle.std.specs.Prelude.{◌↔◌}
use Rattle.mixed_graph.specs.declared.sets.VSet.{VSet}
use Rattle.mixed_graph.specs.Vocabulary.{has, Within, graph_of}
use Rattle.finite_models.specs.declared.model.Cause.{Cause}
use Rattle.finite_models.proofs.Places.{children_of-at}
use Rattle.hidden_models.specs.Lists.{AreListed}
use Rattle.hidden_models.specs.Reaching.{IsReachedFrom, IsReachOf}
use Rattle.hidden_models.proofs.ListLaws.{listed-more}
use Rattle.hidden_models.proofs.reaching.reached_sets.Goals as goal

pub reach-set-requires : goal.reach-set-requires
reach-set-requires c = subst (λ b. Within c.args.g.now.n (has b)) (children_of-at c.args.causes.now c.loop-j.j c.index-causes-j.result (omega arith)
    c.index-causes-j.is ∙ ap (λ (x : Cause). x.children.bits) c.index-causes-j.is) (c.requires c.loop-j.j (omega arith))

pub loop-j-preserved : goal.loop-j-preserved
loop-j-preserved c =
    let e = children_of-at c.args.causes.now c.loop-j.j c.index-causes-j.result (omega arith) c.index-causes-j.is in
    subst (λ (xs : List VSet). AreListed (IsReachOf (graph_of c.args.g.now) (has c.args.latent.bits) c.args.causes.now) xs (c.loop-j.j + 1))
    (sym c.in_ok-push.ensures.items)
    (listed-more (IsReachOf (graph_of c.args.g.now) (has c.args.latent.bits) c.args.causes.now)
    c.loop-j.sets.items c.loop-j.j c.reach-set.result c.loop-j.invariant
    (record {
      fits = c.reach-set.ensures.fits;
      tells = λ v. subst (λ b. IsTrue (has c.reach-set.result.bits v) ↔ IsReachedFrom (graph_of c.args.g.now) (has c.args.latent.bits) (has b) v)
          (ap (λ (x : Cause). x.children.bits) (sym c.index-causes-j.is) ∙ sym e) (c.reach-set.ensures.tells v);
    }))
