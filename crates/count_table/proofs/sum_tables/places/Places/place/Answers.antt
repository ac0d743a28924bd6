use Rattle.std.proofs.Common.{ℕ, ◌+◌, ◌*◌, ◌^◌, ◌≡◌, ◌<◌, ap, sym, subst, refl, ◌∙◌, get_or, map, arith}
use Rattle.std.proofs.lemmas.List.{get_or_read, length-map}
use Rattle.count_table.specs.Cells.{place_of}
use Rattle.count_table.proofs.CellLists.{place_of-lt}
use Rattle.count_table.specs.Axes.{Axes, HasCell, place_at}
use Rattle.count_table.proofs.Lists.{same-map}
use Rattle.count_table.proofs.Placing.{IsPlacedNext, same_place, placing_next, placing_end}
use Rattle.count_table.proofs.sum_tables.places.Places.place.Goals as goal
use Rattle.count_table.proofs.sum_tables.places.Places.place.Goals.{After-index, After-index-in-loop-i}

-- the place as a whole is small
small : (c : After-index) → place_of c.self.inside.sizes.items (map (λ v. get_or c.args.at.now v 0) c.self.inside.vertices.items) < 2 ^ 20
small c =
    let ready = subst (λ (a : Axes). HasCell a c.args.at.now) (sym c.self.view_is) c.requires in
    let few = c.self.invariant.axes.few in
    let lt = place_of-lt c.self.inside.sizes.items (map (λ v. get_or c.args.at.now v 0) c.self.inside.vertices.items) ready.cell in
    omega (arith, lt, few)

-- the next level, where v is the vertex i
next : (c : After-index) (v : ℕ) → v ≡ get_or c.self.inside.vertices.items c.loop-i.i 0
    → IsPlacedNext c.self.inside.sizes.items (map (λ v. get_or c.args.at.now v 0) c.self.inside.vertices.items) c.loop-i.i
    (c.loop-i.place * c.index.result.now + get_or c.args.at.now v 0)
    (place_of c.self.inside.sizes.items (map (λ v. get_or c.args.at.now v 0) c.self.inside.vertices.items))
next c v e =
    let ns = c.self.inside.sizes.items in
    let matched = c.self.invariant.axes.matched in
    placing_next c.self.inside.vertices.items ns c.args.at.now c.loop-i.i c.loop-i.place
    (place_of ns (map (λ v. get_or c.args.at.now v 0) c.self.inside.vertices.items)) c.index.result.now v
    (omega arith) matched (get_or_read ns c.loop-i.i c.index.result.now (omega arith) c.index.ensures 0) e c.loop-i.invariant

vertex : (c : After-index-in-loop-i) → c.index-in-loop-i.result.now ≡ get_or c.self.inside.vertices.items c.loop-i.i 0
vertex c = get_or_read c.self.inside.vertices.items c.loop-i.i c.index-in-loop-i.result.now (omega arith) c.index-in-loop-i.ensures 0

pub overflow_mul-place : goal.overflow_mul-place
overflow_mul-place c =
    let here = (goal.at.overflow_mul-place c).After-index in
    let fits = (next here (get_or c.self.inside.vertices.items c.loop-i.i 0) refl).fits in
    let most = small here in
    omega (arith, fits, most)

pub overflow_add-place : goal.overflow_add-place
overflow_add-place c =
    let here = (goal.at.overflow_add-place c).After-index in
    let fits = (next here c.index-in-loop-i.result.now (vertex (goal.at.overflow_add-place c).After-index-in-loop-i)).fits in
    let most = small here in
    omega (arith, fits, most)

pub loop-i-preserved : goal.loop-i-preserved
loop-i-preserved c = (next (goal.at.loop-i-preserved c).After-index c.index-in-loop-i.result.now
    (vertex (goal.at.loop-i-preserved c).After-index-in-loop-i)).more

pub returns-clause-place : goal.returns-clause-place
returns-clause-place c =
    let ns = c.self.inside.sizes.items in
    let xs = map (λ v. get_or c.args.at.now v 0) c.self.inside.vertices.items in
    let long = length-map c.self.inside.vertices.items (λ v. get_or c.args.at.now v 0) in
    let matched = c.self.invariant.axes.matched in
    placing_end ns xs c.loop-i.i c.loop-i.place (place_of ns xs) (omega (arith, matched)) (omega (arith, long)) c.loop-i.invariant
    ∙ ap (λ (a : Axes). place_at a (λ v. get_or c.args.at.now v 0)) c.self.view_is

pub returns-clause-within : goal.returns-clause-within
returns-clause-within c =
    let e = returns-clause-place c in
    let small = place_of-lt c.args.self.now.sizes (map (λ v. get_or c.args.at.now v 0) c.args.self.now.vertices) c.requires.cell in
    omega (arith, e, small)

pub returns-clause-alone : goal.returns-clause-alone
returns-clause-alone c other cell same =
    let e = returns-clause-place c in
    same-map other (λ v. get_or c.args.at.now v 0) c.args.self.now.vertices
    (same_place c.args.self.now.sizes (map other c.args.self.now.vertices) (map (λ v. get_or c.args.at.now v 0) c.args.self.now.vertices) cell c.requires.cell
    (same ∙ e))
