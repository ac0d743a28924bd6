-- What a parse of `clap` gives on words of the form.
use Rattle.std.specs.Prelude.{◌≡◌, true, List, Some, codes, if◌then◌else◌}
use Rattle.clap.specs.Walk.{Row as Entry, first_of, one_of}
use Rattle.clap.specs.Simple.{subcommand_rows_of}
use Rattle.clap.specs.declared.parser.matches.ArgMatches.{ArgMatches}
use Rattle.command_words.specs.declared.values.values.Values.{Values}
use Rattle.command_words.specs.Form.{Text, Row, Use, is_among, is_allowed, value_names, positional_names, value_of, has_flag, word_of}

-- what is found below the command are the values of the uses
pub record GivesUses (row : Row) (uses : List Use) (rows : List Entry) : Type 0 where
  pub options : (x : Text) → is_among (value_names row) x ≡ true → first_of x rows ≡ value_of uses x
  pub flags : (x : Text) → is_among row.flags x ≡ true → one_of x rows ≡ Some (if has_flag uses x then codes "true" else codes "false")
  pub positionals : (n : Text) → is_among (positional_names row) n ≡ true → first_of n rows ≡ word_of row uses n

-- the matches are those of the command, and hold the values of the uses, which the command allows
pub record GivesCall (row : Row) (uses : List Use) (matches : ArgMatches) : Type 0 where
  pub rows : List Entry
  pub found : subcommand_rows_of matches ≡ Some (row.name, rows)
  pub gives : GivesUses row uses rows
  pub allowed : is_allowed row uses ≡ true

-- what the values of words hold
abbrev pub HoldsCall : Row → List Use → Values → Type 0
HoldsCall row uses values = GivesCall row uses values.matches
