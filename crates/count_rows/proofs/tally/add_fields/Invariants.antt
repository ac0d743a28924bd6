use Rattle.std.proofs.Common.{◌≡◌, ◌<◌, ◌≤◌, ◌++◌, ℕ, [], get_or}
use Rattle.mixed_graph.specs.Vocabulary.{with_name, index_of}
use Rattle.count_rows.specs.Records.{field_in}
use Rattle.count_rows.specs.Rows.{list_below}
use Rattle.count_rows.proofs.tally.add_fields.Given as goal

abbrev pub invariant-loop-i : goal.invariant-loop-i
invariant-loop-i l = record {
  before : (k : ℕ) → k < l.i → get_or l.levels k [] ≡ with_name (get_or l.fn.levels k []) (field_in (get_or l.places k 0) l.row);
  behind : (k : ℕ) → l.i ≤ k → get_or l.levels k [] ≡ get_or l.fn.levels k [];
  cells : l.cells.items ≡ l.fn.cells.items ++ list_below l.i (λ k. index_of (get_or l.fn.levels k []) (field_in (get_or l.places k 0) l.row));
}
