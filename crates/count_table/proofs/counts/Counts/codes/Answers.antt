use Rattle.std.proofs.Common.{◌≤◌, sym, ap, subst, map, ◌∙◌}
use Rattle.count_rows.specs.Vocabulary.{Row, Table}
use Rattle.count_table.specs.Cells.{cells_of, sizes_of}
use Rattle.count_table.specs.Codes.{code_bits, code_of_cell}
use Rattle.count_table.proofs.CellLists.{length-cells_of}
use Rattle.count_table.proofs.CodeLaws.{bits-few}
use Rattle.count_table.proofs.RowLists.{codes-rows_with}
use Rattle.count_table.proofs.TableSteps.{sized-few}
use Rattle.count_table.proofs.counts.Counts.codes.Goals as goal

pub returns-clause-codes : goal.returns-clause-codes
returns-clause-codes c =
    let sizes = sizes_of c.self.inside.levels.items in
    c.as_slice.ensures.value ∙ c.self.invariant.coded
    ∙ sym (codes-rows_with (code_of_cell sizes) (cells_of sizes) c.self.inside.cells.items (length-cells_of sizes ∙ sym c.self.invariant.counted))
    ∙ ap (λ (t : Table). map (λ (r : Row). code_of_cell (sizes_of t.levels) r.cell) t.rows) c.self.view_is

pub returns-clause-few : goal.returns-clause-few
returns-clause-few c =
    let are = c.self.invariant.table in
    subst (λ (t : Table). code_bits (sizes_of t.levels) ≤ 40) c.self.view_is
    (bits-few (sizes_of c.self.inside.levels.items) (sized-few c.self.inside.levels.items (record { each = are.each; few = are.few })) are.few)
