use Rattle.std.proofs.Common.{sym, ap, map, ◌∙◌}
use Rattle.count_rows.specs.Vocabulary.{Row, Table}
use Rattle.count_table.specs.Cells.{cells_of, sizes_of}
use Rattle.count_table.proofs.CellLists.{length-cells_of}
use Rattle.count_table.proofs.RowLists.{counts-rows_with}
use Rattle.count_table.proofs.counts.Counts.cells.Goals as goal

pub returns-clause-counts : goal.returns-clause-counts
returns-clause-counts c =
    let sizes = sizes_of c.self.inside.levels.items in
    c.as_slice.ensures.value
    ∙ sym (counts-rows_with (cells_of sizes) c.self.inside.cells.items (length-cells_of sizes ∙ sym c.self.invariant.counted))
    ∙ ap (λ (t : Table). map (λ (r : Row). r.count) t.rows) c.self.view_is
