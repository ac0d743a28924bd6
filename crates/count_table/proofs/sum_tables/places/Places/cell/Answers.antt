use Rattle.std.proofs.Common.{◌≡◌, ◌≢◌, ◌<◌, ◌≤◌, ◌-◌, ◌/◌, ◌%◌, sym, subst, refl, get_or, map, set, All, arith}
use Rattle.std.proofs.lemmas.List.{get_or_read}
use Rattle.count_table.specs.Cells.{place_of, IsCell}
use Rattle.count_table.specs.Axes.{Axes, HasCell, place_at, cells_over}
use Rattle.count_table.proofs.Placing.{IsUnplacing, unplacing_start, unplacing_more, unplacing_end}
use Rattle.count_table.proofs.sum_tables.places.Places.cell.Goals as goal
use Rattle.count_table.proofs.sum_tables.places.Places.cell.Goals.{After-loop-i}

pub loop-i-init : goal.loop-i-init
loop-i-init c = unplacing_start c.self.inside.vertices.items c.self.inside.sizes.items _ c.len-i.result c.args.place refl (omega arith)
    c.self.invariant.axes.matched

pub loop-i-preserved : goal.loop-i-preserved
loop-i-preserved c =
    let vs = c.self.inside.vertices.items in
    let ns = c.self.inside.sizes.items in
    let axes = c.self.invariant.axes in
    let within = c.loop-i.invariant.within in
    let matched = axes.matched in
    let size = get_or_read ns (c.loop-i.i - 1) c.index.result.now (omega (arith, within, matched, c.loop-i-test.true)) c.index.ensures 0 in
    let vertex = get_or_read vs (c.loop-i.i - 1) c.index-in-loop-i.result.now (omega (arith, within, c.loop-i-test.true)) c.index-in-loop-i.ensures 0 in
    let some = axes.each (c.loop-i.i - 1) 0 (omega (arith, within, matched, c.loop-i-test.true)) in
    subst (λ v. IsUnplacing vs ns (set c.loop-i.cell v (c.loop-i.rest % c.index.result.now)) (c.loop-i.i - 1) (c.loop-i.rest / c.index.result.now)
    c.args.place) (sym vertex)
    (unplacing_more vs ns c.loop-i.cell c.loop-i.i (c.loop-i.i - 1) c.index.result.now c.loop-i.rest c.args.place
    (omega (arith, c.loop-i-test.true)) matched axes.in_range axes.ascending size (omega (arith, size, some)) c.loop-i.invariant)

-- the cell has the place, and a level of each vertex
ended : (c : After-loop-i) → c.loop-i.i ≤ 0 → (place_of c.self.inside.sizes.items (map (λ v. get_or c.loop-i.cell v 0) c.self.inside.vertices.items)
    ≡ c.args.place)
    × IsCell c.self.inside.sizes.items (map (λ v. get_or c.loop-i.cell v 0) c.self.inside.vertices.items)
ended c none = unplacing_end c.self.inside.vertices.items c.self.inside.sizes.items c.loop-i.cell c.loop-i.i c.loop-i.rest c.args.place none
    (subst (λ (a : Axes). c.args.place < cells_over a) (sym c.self.view_is) c.requires) c.loop-i.invariant

pub returns-clause-cell : goal.returns-clause-cell
returns-clause-cell c =
    let cell = (ended (goal.at.returns-clause-cell c).After-loop-i (omega (arith, c.loop-i-test.false))).1 in
    let long = c.loop-i.invariant.long in
    subst (λ (a : Axes). HasCell a c.loop-i.cell) c.self.view_is (record {
      there = λ k d less. (let b = c.self.invariant.axes.in_range k d less in omega (arith, b, long));
      cell = cell;
    })

pub returns-clause-place : goal.returns-clause-place
returns-clause-place c =
    subst (λ (a : Axes). place_at a (λ v. get_or c.loop-i.cell v 0) ≡ c.args.place) c.self.view_is
    (ended (goal.at.returns-clause-place c).After-loop-i (omega (arith, c.loop-i-test.false))).0

pub returns-clause-outside : goal.returns-clause-outside
returns-clause-outside c v none = c.loop-i.invariant.outside v (subst (λ (a : Axes). All (λ u. u ≢ v) a.vertices) (sym c.self.view_is) none)
