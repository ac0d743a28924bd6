use Rattle.std.proofs.Common.{◌≡◌, ◌∷◌, ◌+◌, [], List, None, length}
use Rattle.count_rows.specs.Records.{Record}
use Rattle.count_rows.specs.Faults.{rows_fault}
use Rattle.count_rows.specs.Reader.{HasRead}
use Rattle.count_rows.specs.Tally.{layout_from, HoldsRecords}
use Rattle.count_rows.proofs.rows.read_rows_under.Given as goal

abbrev pub invariant-loop-number : goal.invariant-loop-number
invariant-loop-number l = record {
  width : length l.tally.levels.items ≡ length l.columns.places.items;
  so_far : (header : Record) → HasRead l.fn.text (header ∷ []) l.fn.start → l.fn.width ≡ length header →
      (rows : List Record) × HasRead l.fn.text (header ∷ rows) l.at × HoldsRecords (layout_from l.columns) rows l.tally
      × (rows_fault (length header) (layout_from l.columns) [] rows ≡ None) × (l.number ≡ length rows + 1);
}
