use Rattle.std.proofs.Common.{ℕ, ◌≡◌, ◌+◌, ◌*◌, ◌^◌, ◌<◌, List, [], length, get_or, ap, ◌∙◌, arith}
use Rattle.std.proofs.lemmas.List.{length-map}
use Rattle.count_rows.specs.Vocabulary.{Field}
use Rattle.count_table.specs.Cells.{sizes_of, place_of}
use Rattle.count_table.proofs.CellLists.{place_of-lt}
use Rattle.count_table.proofs.TableSteps.{IsPlacedMore, place_more, placed_end, item_length, IsCell-length}
use Rattle.count_table.proofs.cells.place_of_cell.Goals as goal
use Rattle.count_table.proofs.cells.place_of_cell.Goals.{After-count}

long : (levels : List (List Field)) (cell : List ℕ) → length cell ≡ length (sizes_of levels) → length cell ≡ length levels
long levels cell e = e ∙ length-map levels (λ (ys : List Field). length ys)

-- the number of levels of the field i
levels : (c : After-count) → c.count.result ≡ length (get_or c.args.levels.now c.loop-i.i [])
levels c = item_length c.args.levels.now c.loop-i.i c.count.result c.index-levels-i.result c.loop-i-test.true c.index-levels-i.is c.count.ensures.count

-- what its number does
next : (c : After-count) → IsPlacedMore c.args.levels.now c.args.cell.now c.loop-i.i c.loop-i.place (place_of (sizes_of c.args.levels.now) c.args.cell.now)
next c =
    let same = long c.args.levels.now c.args.cell.now (IsCell-length (sizes_of c.args.levels.now) c.args.cell.now c.requires.cell) in
    place_more c.args.levels.now c.args.cell.now c.loop-i.i c.loop-i.place (place_of (sizes_of c.args.levels.now) c.args.cell.now) c.loop-i-test.true
    (omega (arith, same, c.loop-i-test.true)) c.loop-i.invariant

room : (c : After-count) → c.loop-i.place * c.count.result + get_or c.args.cell.now c.loop-i.i 0 < 2 ^ 20
room c =
    let small = place_of-lt (sizes_of c.args.levels.now) c.args.cell.now c.requires.cell in
    let fits = (next c).fits in
    let e = ap (λ k. c.loop-i.place * k) (levels c) in
    omega (arith, fits, e, small, c.requires.few)

pub overflow_mul-place : goal.overflow_mul-place
overflow_mul-place c = let fits = room (goal.at.overflow_mul-place c).After-count in omega (arith, fits)

pub overflow_add-place : goal.overflow_add-place
overflow_add-place c = let fits = room (goal.at.overflow_add-place c).After-count in omega (arith, fits)

pub loop-i-preserved : goal.loop-i-preserved
loop-i-preserved c = rw (levels (goal.at.loop-i-preserved c).After-count) (next (goal.at.loop-i-preserved c).After-count).more

pub returns-clause-place : goal.returns-clause-place
returns-clause-place c = placed_end c.args.levels.now c.args.cell.now c.loop-i.i c.loop-i.place (place_of (sizes_of c.args.levels.now) c.args.cell.now)
    (omega (arith, c.loop-i-test.false)) c.loop-i.invariant

pub returns-clause-within : goal.returns-clause-within
returns-clause-within c =
    let e = placed_end c.args.levels.now c.args.cell.now c.loop-i.i c.loop-i.place (place_of (sizes_of c.args.levels.now) c.args.cell.now)
    (omega (arith, c.loop-i-test.false)) c.loop-i.invariant in
    let small = place_of-lt (sizes_of c.args.levels.now) c.args.cell.now c.requires.cell in
    omega (arith, e, small)
