use Rattle.std.proofs.Common.{◌<◌, ◌%◌, ◌∙◌, ap, ap₂, sym, length, arith}
use Rattle.mixed_graph.specs.Vocabulary.{has}
use Rattle.finite_models.specs.Data.{children_of}
use Rattle.finite_models.specs.Worlds.{values_of, value_in_world}
use Rattle.finite_models.proofs.CauseValues.{values_at, positive_values, value_below}
use Rattle.finite_models.proofs.Numbering.{rest_next}
use Rattle.finite_models.proofs.Places.{children_of-at}
use Rattle.finite_models.proofs.TablePlaces.{fits_next, place_next}
use Rattle.finite_models.proofs.outputs.causes_place.Goals as goal

pub nonzero_rem-rest : goal.nonzero_rem-rest
nonzero_rem-rest c =
    let lt : c.loop-j.j < length c.args.m.now.causes.items = (let k = c.args.m.now.causes.ok in omega arith) in
    let e = values_at c.args.m.now.causes.items c.loop-j.j c.index-c.result.now c.len-base.result lt c.index-c.ensures
    (let k = c.index-c.result.now.weights.ok in omega arith) in
    let p = positive_values c.args.m.now.causes.items c.requires.weight c.loop-j.j lt in
    omega arith

pub with_digit-place-requires : goal.with_digit-place-requires
with_digit-place-requires c =
    let lt : c.loop-j.j < length c.args.m.now.causes.items = (let k = c.args.m.now.causes.ok in omega arith) in
    let e = values_at c.args.m.now.causes.items c.loop-j.j c.index-c.result.now c.len-base.result lt c.index-c.ensures
    (let k = c.index-c.result.now.weights.ok in omega arith) in
    fits_next (length c.args.m.now.causes.items) (λ j. has (children_of c.args.m.now.causes.items j) c.args.v) (values_of c.args.m.now.causes.items)
    (value_in_world c.args.m.now.causes.items c.args.world)
    c.args.start c.loop-j.j c.loop-j.place c.len-base.result (c.loop-j.rest % c.len-base.result) _ c.has.result lt
    (value_below c.args.m.now.causes.items c.requires.weight c.args.world) c.requires.fits c.loop-j.invariant.place
    (c.has.ensures ∙ ap (λ b. has b c.args.v) (sym (children_of-at c.args.m.now.causes.items c.loop-j.j c.index-c.result.now lt c.index-c.ensures)))
    e (ap₂ (λ a b. a % b) c.loop-j.invariant.rest e)

pub nonzero_div-rest : goal.nonzero_div-rest
nonzero_div-rest c =
    let lt : c.loop-j.j < length c.args.m.now.causes.items = (let k = c.args.m.now.causes.ok in omega arith) in
    let e = values_at c.args.m.now.causes.items c.loop-j.j c.index-c.result.now c.len-base.result lt c.index-c.ensures
    (let k = c.index-c.result.now.weights.ok in omega arith) in
    let p = positive_values c.args.m.now.causes.items c.requires.weight c.loop-j.j lt in
    omega arith

pub loop-j-preserved : goal.loop-j-preserved
loop-j-preserved c =
    let lt : c.loop-j.j < length c.args.m.now.causes.items = (let k = c.args.m.now.causes.ok in omega arith) in
    let e = values_at c.args.m.now.causes.items c.loop-j.j c.index-c.result.now c.len-base.result lt c.index-c.ensures
    (let k = c.index-c.result.now.weights.ok in omega arith) in
    record {
      rest = rest_next (values_of c.args.m.now.causes.items) c.args.world c.loop-j.j c.loop-j.rest c.len-base.result e c.loop-j.invariant.rest;
      place = c.with_digit-place.ensures
          ∙ place_next c.loop-j.j (λ j. has (children_of c.args.m.now.causes.items j) c.args.v) (values_of c.args.m.now.causes.items)
          (value_in_world c.args.m.now.causes.items c.args.world)
          c.args.start c.loop-j.place c.len-base.result (c.loop-j.rest % c.len-base.result) c.has.result c.loop-j.invariant.place
          (c.has.ensures ∙ ap (λ b. has b c.args.v) (sym (children_of-at c.args.m.now.causes.items c.loop-j.j c.index-c.result.now lt c.index-c.ensures)))
          e (ap₂ (λ a b. a % b) c.loop-j.invariant.rest e);
    }
