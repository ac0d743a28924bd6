-- The command that `clap` is given, by the table.
use Rattle.std.specs.Prelude.{true, List, [], ◌++◌, Some, codes, fold, map}
use Rattle.clap.specs.Walk.{Rule}
use Rattle.clap.specs.Simple.{App, Shape, new_rule, new_shape, with_subcommand}
use Rattle.clap.specs.declared.builder.action.ArgAction.TheVariants.{SetTrue}
use Rattle.command_words.specs.Form.{Text, Row}
use Rattle.command_words.specs.declared.values.program.Kind.{Kind}
use Rattle.command_words.specs.declared.values.program.Kind.TheVariants as kind

-- a positional without brackets
abbrev pub positional_rule : Text → Rule
positional_rule n = record (new_rule n) { required = true }

-- a positional in brackets
abbrev pub optional_rule : Text → Rule
optional_rule n = new_rule n

-- an option without brackets
abbrev pub required_rule : Text → Rule
required_rule n = record (new_rule n) { long = Some n; required = true }

-- an option in brackets
abbrev pub option_rule : Text → Rule
option_rule n = record (new_rule n) { long = Some n }

-- a flag
abbrev pub flag_rule : Text → Rule
flag_rule n = record (new_rule n) { long = Some n; action = Some SetTrue }

-- the argument of a kind and a name
abbrev pub kind_rule : Kind → Text → Rule
kind_rule kind.Positional = positional_rule
kind_rule kind.Extra = optional_rule
kind_rule kind.Needed = required_rule
kind_rule kind.Choice = option_rule
kind_rule kind.Flag = flag_rule

-- the arguments of a command
abbrev pub rules_of_row : Row → List Rule
rules_of_row row = map positional_rule row.positionals ++ (map optional_rule row.optional
    ++ (map required_rule row.required ++ (map option_rule row.options ++ map flag_rule row.flags)))

-- a command with its arguments
abbrev pub shape_of_row : Row → Shape
shape_of_row row = record (new_shape row.name) { rules = rules_of_row row }

-- the same by itself
abbrev pub app_of_row : Row → App
app_of_row row = record { top = shape_of_row row; subs = [] }

-- the program, before it has commands
abbrev pub start : App
start = record { top = record (new_shape (codes "causal")) { no_binary_name = true }; subs = [] }

-- the program with its commands
abbrev pub app_of_table : List Row → App
app_of_table table = fold (λ a row. with_subcommand a (shape_of_row row)) start table
