use Rattle.std.proofs.Common.{◌<◌, ◌∙◌, ap, refl, sym, length, get_or, arith}
use Rattle.mixed_graph.specs.Vocabulary.{has}
use Rattle.finite_models.specs.Vocabulary.{children_of, values_of}
use Rattle.finite_models.proofs.CauseValues.{values_at}
use Rattle.finite_models.proofs.Places.{children_of-at}
use Rattle.finite_models.proofs.TablePlaces.{fits_next, place_next}
use Rattle.hidden_models.proofs.evaluation.causes_place.Goals as goal

pub with_digit-place-requires : goal.with_digit-place-requires
with_digit-place-requires c =
    let lt : c.loop-j.j < length c.args.m.now.causes.items = (let k = c.args.m.now.causes.ok in omega arith) in
    let e = values_at c.args.m.now.causes.items c.loop-j.j c.index-c.result.now c.len.result lt c.index-c.ensures
    (let k = c.index-c.result.now.weights.ok in omega arith) in
    fits_next (length c.args.m.now.causes.items) (λ j. has (children_of c.args.m.now.causes.items j) c.args.v) (values_of c.args.m.now.causes.items)
    (λ j. get_or c.args.world.now j 0)
    c.args.start c.loop-j.j c.loop-j.place c.len.result (get_or c.args.world.now c.loop-j.j 0) _ c.has.result lt
    c.requires.world.below c.requires.fits c.loop-j.invariant
    (c.has.ensures ∙ ap (λ b. has b c.args.v) (sym (children_of-at c.args.m.now.causes.items c.loop-j.j c.index-c.result.now lt c.index-c.ensures)))
    e refl

pub loop-j-preserved : goal.loop-j-preserved
loop-j-preserved c =
    let lt : c.loop-j.j < length c.args.m.now.causes.items = (let k = c.args.m.now.causes.ok in omega arith) in
    let e = values_at c.args.m.now.causes.items c.loop-j.j c.index-c.result.now c.len.result lt c.index-c.ensures
    (let k = c.index-c.result.now.weights.ok in omega arith) in
    c.with_digit-place.ensures
    ∙ place_next c.loop-j.j (λ j. has (children_of c.args.m.now.causes.items j) c.args.v) (values_of c.args.m.now.causes.items)
    (λ j. get_or c.args.world.now j 0)
    c.args.start c.loop-j.place c.len.result (get_or c.args.world.now c.loop-j.j 0) c.has.result c.loop-j.invariant
    (c.has.ensures ∙ ap (λ b. has b c.args.v) (sym (children_of-at c.args.m.now.causes.items c.loop-j.j c.index-c.result.now lt c.index-c.ensures)))
    e refl
