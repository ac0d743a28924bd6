use Rattle.std.proofs.Common.{◌≡◌, ◌<◌, ◌≤◌, ◌+◌, ◌∙◌, sym, ap, length, get_or, arith}
use Rattle.std.proofs.lemmas.Bool.{cond-true, cond-false}
use Rattle.mixed_graph.specs.Vocabulary.{has, graph_of}
use Rattle.finite_models.specs.Sums.{sum_below, product_below}
use Rattle.finite_models.specs.Models.{agree, intervene, solution}
use Rattle.finite_models.specs.Data.{meaning}
use Rattle.finite_models.specs.Worlds.{values_of, weight_sum, value_in_world}
use Rattle.finite_models.proofs.Agreeing.{counted, counted_within, agree-congr, weight_of-counted}
use Rattle.finite_models.proofs.Numbering.{sum_next}
use Rattle.finite_models.proofs.weighing.agreeing_weight.Goals as goal
use Rattle.finite_models.proofs.weighing.agreeing_weight.Goals.{then-agrees, else-agrees}

pub overflow_add-sum : goal.overflow_add-sum
overflow_add-sum c =
    let lt : c.loop-world.world < product_below (length c.args.m.now.causes.items) (values_of c.args.m.now.causes.items) = omega (arith, c.requires.worlds) in
    let le = counted_within (graph_of c.args.g.now) c.args.m.now (has c.args.do_set.bits) (has c.args.event.bits) (λ v. get_or c.args.at.now v 0)
    c.loop-world.world lt in
    let here : c.loop-world.sum + c.world_weight-sum.result ≤ product_below (length c.args.m.now.causes.items) (weight_sum c.args.m.now.causes.items) =
    rw (c.loop-world.invariant, c.world_weight-sum.ensures) le in
    let t = c.requires.fits in
    omega arith

pub loop-world-preserved : goal.loop-world-preserved
loop-world-preserved c =
    let next = sum_next c.loop-world.world (counted (graph_of c.args.g.now) c.args.m.now (has c.args.do_set.bits) (has c.args.event.bits)
    (λ v. get_or c.args.at.now v 0)) c.loop-world.sum in
    let same : c.agrees.result ≡ agree c.args.g.now.n (has c.args.event.bits)
    (solution (intervene (meaning (graph_of c.args.g.now) c.args.m.now) (has c.args.do_set.bits) (λ v. get_or c.args.at.now v 0))
    (value_in_world c.args.m.now.causes.items c.loop-world.world)) (λ v. get_or c.args.at.now v 0) =
    c.agrees.ensures
    ∙ ap (λ n. agree n (has c.args.event.bits) (λ v. get_or c.solve-values.result v 0) (λ v. get_or c.args.at.now v 0)) c.requires.length
    ∙ agree-congr c.args.g.now.n (has c.args.event.bits) (λ v. get_or c.solve-values.result v 0) _ (λ v. get_or c.args.at.now v 0) c.solve-values.ensures in
    elim c.if-agrees.branch [
      | then-agrees w ↦ w.sum-is ∙ next w.world_weight-sum.result c.loop-world.invariant
          (w.world_weight-sum.ensures ∙ sym (cond-true _ _ _ (sym same ∙ w.if-agrees.true)))
      | else-agrees w ↦ w.sum-is ∙ (let z : c.loop-world.sum ≡ c.loop-world.sum + 0 = omega arith in z)
          ∙ next 0 c.loop-world.invariant (sym (cond-false _ _ _ (sym same ∙ w.if-agrees.false)))
    ]

pub returns : goal.returns
returns c =
    let e : c.loop-world.world ≡ product_below (length c.args.m.now.causes.items) (values_of c.args.m.now.causes.items) = omega (arith, c.requires.worlds) in
    c.loop-world.invariant
    ∙ ap (λ n. sum_below n (counted (graph_of c.args.g.now) c.args.m.now (has c.args.do_set.bits) (has c.args.event.bits) (λ v. get_or c.args.at.now v 0))) e
    ∙ sym (weight_of-counted (graph_of c.args.g.now) c.args.m.now (has c.args.do_set.bits) (has c.args.event.bits) (λ v. get_or c.args.at.now v 0))
