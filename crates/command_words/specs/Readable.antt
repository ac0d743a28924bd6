-- The tables that `clap` reads.
use Rattle.std.specs.Prelude.{◌≡◌, true, List, [], ◌∷◌, Some}
use Rattle.std.specs.List.{list_all}
use Rattle.clap.specs.Walk.{Row as Entry}
use Rattle.clap.specs.Simple.{is_simple, subcommand_of}
use Rattle.clap.specs.Takes.{takes}
use Rattle.command_words.specs.Form.{Text, Row, Use, row_named, IsCall, is_clear}
use Rattle.command_words.specs.App.{app_of_table}
use Rattle.command_words.specs.Gives.{GivesUses}

-- what `clap` finds in words of the form: their command, and below it the values of the uses
pub record FindsValues (table : List Row) (words : List Text) (row : Row) (uses : List Use) : Type 0 where
  pub rows : List Entry
  pub found : subcommand_of (app_of_table table) words ≡ Some (row.name, rows)
  pub gives : GivesUses row uses rows

-- each row is clear, and `clap` takes all words of the form and finds their values
pub record IsReadable (table : List Row) : Type 0 where
  pub clear : list_all is_clear table ≡ true
  pub simple : is_simple (app_of_table table) ≡ true
  pub taken : (words : List Text) (row : Row) (uses : List Use) → IsCall table words row uses → takes (app_of_table table) words ≡ true
  pub finds : (words : List Text) (row : Row) (uses : List Use) → IsCall table words row uses → FindsValues table words row uses

-- each row is clear, and `clap` reads the words of each by a table of this row alone
pub record AreReadable (table : List Row) : Type 0 where
  pub clear : list_all is_clear table ≡ true
  pub each : (row : Row) → row_named table row.name ≡ Some row → IsReadable (row ∷ [])
