use Rattle.std.proofs.Common.{ℕ, ◌≡◌, ◌<◌, All, length, get_or, map, arith}
use Rattle.count_rows.specs.Vocabulary.{AreLevels, cell_count}
use Rattle.count_table.specs.Cells.{cells_of, sizes_of, rows_from, count_at}
use Rattle.count_table.specs.Codes.{code_of_cell}
use Rattle.count_table.proofs.RowLists.{counted_alike}
use Rattle.count_table.proofs.ReadRows.{are_kept}
use Rattle.count_table.proofs.counts.Counts.of_rows.Goals as goal

pub invariant_of-result : goal.invariant_of-result
invariant_of-result c =
    let levels = c.args.tally.levels.items in
    let differ : All AreLevels levels = rw c.as_slice.ensures.value at c.in_ok-cells.ensures.differ in
    let long : length c.in_ok-cells.cells.items ≡ cell_count levels = rw c.as_slice.ensures.value at c.in_ok-cells.ensures.length in
    let filled : (i : ℕ) → i < cell_count levels → get_or c.in_ok-cells.cells.items i 0
    ≡ count_at (sizes_of levels) (rows_from (length levels) c.args.tally.cells.items c.args.tally.counts.items) i =
    rw (c.as_slice.ensures.value, c.as_slice-2.ensures.value, c.as_slice-3.ensures.value) at c.in_ok-cells.ensures.counts in
    let coded : c.in_ok-codes.codes.items ≡ map (code_of_cell (sizes_of levels)) (cells_of (sizes_of levels)) =
    rw c.as_slice-4.ensures.value at c.in_ok-codes.ensures in
    are_kept c.args.used.bits c.args.vertices.items levels c.args.tally.cells.items c.args.tally.counts.items c.in_ok-cells.cells.items
    c.in_ok-codes.codes.items
    c.requires.members c.requires.some (omega arith) c.requires.matched differ c.requires.rows long filled coded

pub returns-clause-rows : goal.returns-clause-rows
returns-clause-rows c of at =
    let levels = c.args.tally.levels.items in
    let long : length c.in_ok-cells.cells.items ≡ cell_count levels = rw c.as_slice.ensures.value at c.in_ok-cells.ensures.length in
    let filled : (i : ℕ) → i < cell_count levels → get_or c.in_ok-cells.cells.items i 0
    ≡ count_at (sizes_of levels) (rows_from (length levels) c.args.tally.cells.items c.args.tally.counts.items) i =
    rw (c.as_slice.ensures.value, c.as_slice-2.ensures.value, c.as_slice-3.ensures.value) at c.in_ok-cells.ensures.counts in
    counted_alike c.args.vertices.items (sizes_of levels) (rows_from (length levels) c.args.tally.cells.items c.args.tally.counts.items)
    c.in_ok-cells.cells.items of at c.requires.rows.cells long filled
