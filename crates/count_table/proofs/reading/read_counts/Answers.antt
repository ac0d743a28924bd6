use Rattle.std.proofs.Common.{ℕ, ◌∙◌, List, ap, Bor}
use Rattle.std.specs.Prelude.{option_map}
use Rattle.count_rows.specs.Vocabulary.{records_of, rows_of, Row, counted, used_names}
use Rattle.count_table.specs.Reading.{layout_in}
use Rattle.count_table.proofs.ReadRows.{read_are_rows, rows-read}
use Rattle.count_table.proofs.reading.read_counts.Goals as goal

pub of_rows-requires-clause-rows : goal.of_rows-requires-clause-rows
of_rows-requires-clause-rows c =
    read_are_rows (records_of c.args.text.now) (used_names c.args.names.now c.args.used.bits)
    (option_map {T = Bor (List ℕ)} {U = List ℕ} (λ s. s.now) c.args.count_column)
    c.in-Ok-read_rows.tally c.in-Ok-read_rows.ensures.rows c.in-Ok-read_rows.tally.small c.in-Ok-read_rows.ensures.fit

pub returns-in-Ok-of_rows-clause-table : goal.returns-in-Ok-of_rows-clause-table
returns-in-Ok-of_rows-clause-table c =
    let held = c.in-Ok-read_rows.ensures.rows in
    record {
      vertices = c.in-Ok-of_rows.ensures.vertices ∙ c.in-Ok.ensures;
      levels = c.in-Ok-of_rows.ensures.levels ∙ held.levels;
      rows = λ of at. c.in-Ok-of_rows.ensures.rows of at
          ∙ ap (λ (rows : List Row). counted c.in-Ok-of_rows.counts.vertices rows of at)
          (rows-read (layout_in (records_of c.args.text.now) c.args.names.now c.args.used.bits
          (option_map {T = Bor (List ℕ)} {U = List ℕ} (λ s. s.now) c.args.count_column)) (rows_of (records_of c.args.text.now))
          c.in-Ok-read_rows.tally held);
    }
