-- What the bytes of counts are, for the vertices that are used: the text of a table.
use Rattle.std.specs.Prelude.{ℕ, ◌≡◌, ◌≤◌, List, length, Option, None}
use Rattle.count_rows.specs.Vocabulary.{Field, Table}
use Rattle.count_table.specs.Vocabulary.{IsTableOf, text_fault}

-- the bytes are the text of this table of the used vertices, and at most 67,108,864
pub record HoldsCounts (names : List (List ℕ)) (used : ℕ) (count : Option Field) (bytes : List ℕ) (t : Table) : Type 0 where
  pub small : length bytes ≤ 67108864
  pub fits : text_fault bytes names used count ≡ None
  pub reads : IsTableOf bytes names used count t
