-- What a text of CSV gives.
use Rattle.std.specs.Prelude.{ℕ, ◌≡◌, List, Bool, Option}
use Rattle.mixed_graph.specs.Vocabulary.{has, members_below}
use Rattle.count_rows.specs.declared.fault.CountFault.{CountFault}
use Rattle.count_rows.specs.Vocabulary.{Field, Record, Layout, records_of, header_of, rows_of, layout_of, levels_of, Table, counted, rows_in, records_fault, used_names}

-- the columns of the used vertices and of the counts in the header of these records
abbrev pub layout_in : List Record → List Field → ℕ → Option Field → Layout
layout_in records names used count = layout_of (header_of records) (used_names names used) count

-- The table of a text: the used vertices, the levels of each in order of first appearance, and on each set of vertices and each
-- assignment the same sum of counts as the records behind the header.
pub record IsTableOf (text : List ℕ) (names : List Field) (used : ℕ) (count : Option Field) (t : Table) : Type 0 where
  pub vertices : t.vertices ≡ members_below (has used) 64
  pub levels : t.levels ≡ levels_of (layout_in (records_of text) names used count) (rows_of (records_of text))
  pub rows : (of : ℕ → Bool) (at : ℕ → ℕ) → counted t.vertices t.rows of at ≡ counted t.vertices
      (rows_in (layout_in (records_of text) names used count) (rows_of (records_of text))) of at

-- why a text gives no table
abbrev pub text_fault : List ℕ → List Field → ℕ → Option Field → Option CountFault
text_fault text names used count = records_fault (records_of text) (used_names names used) count
