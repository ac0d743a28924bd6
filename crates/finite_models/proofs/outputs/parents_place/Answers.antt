use Rattle.std.proofs.Common.{◌≡◌, ◌<◌, ◌+◌, ◌*◌, ◌^◌, ◌∙◌, refl, length, get_or, arith}
use Rattle.std.proofs.lemmas.List.{get_or_read}
use Rattle.mixed_graph.specs.Vocabulary.{graph_of}
use Rattle.finite_models.specs.Tables.{radix, radix_range}
use Rattle.finite_models.proofs.TablePlaces.{fits_next}
use Rattle.finite_models.proofs.outputs.parents_place.Goals as goal

pub with_digit-place-requires : goal.with_digit-place-requires
with_digit-place-requires c =
    let lt : c.loop-p.p < length c.args.m.now.sizes.items = (let k = c.args.m.now.sizes.ok in omega arith) in
    let top : (0 + 1) * radix_range c.args.g.now.n (λ p. (graph_of c.args.g.now).arrow p c.args.v) (λ p. get_or c.args.m.now.sizes.items p 0) < 2 ^ 64 =
    omega (arith, c.requires.fits) in
    let so_far : c.loop-p.place ≡ 0 * radix_range c.loop-p.p (λ p. (graph_of c.args.g.now).arrow p c.args.v) (λ p. get_or c.args.m.now.sizes.items p 0) +
    radix c.loop-p.p (λ p. (graph_of c.args.g.now).arrow p c.args.v) (λ p. get_or c.args.m.now.sizes.items p 0) (λ p. get_or c.args.values.now p 0) =
    omega (arith, c.loop-p.invariant) in
    fits_next c.args.g.now.n (λ p. (graph_of c.args.g.now).arrow p c.args.v) (λ p. get_or c.args.m.now.sizes.items p 0) (λ p. get_or c.args.values.now p 0)
    0 c.loop-p.p c.loop-p.place c.index.result.now (get_or c.args.values.now c.loop-p.p 0) _ c.has.result (let e = c.requires.sizes in omega arith)
    c.requires.in_range top so_far (c.has.ensures ∙ c.parents-row.ensures.members c.loop-p.p)
    (get_or_read c.args.m.now.sizes.items c.loop-p.p _ lt c.index.ensures 0) refl
