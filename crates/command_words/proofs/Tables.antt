-- A table is readable where what `clap` makes of its rows computes to what is wanted.
use Rattle.std.proofs.Common.{◌≡◌, ◌∙◌, ap, true, List, [], ◌∷◌, map}
use Rattle.std.specs.Prelude.{find, unwrap_or}
use Rattle.std.specs.List.{list_all, flat_map}
use Rattle.clap.specs.Walk.{answers_to, rows_after, nothing_held, stop_after}
use Rattle.clap.specs.Simple.{App, Shape, built, new_shape, label_of, names_of, entered, is_simple, subcommand_of}
use Rattle.clap.specs.Takes.{takes, built_takes}
use Rattle.command_words.specs.Form.{Text, Row, spelled, is_clear}
use Rattle.command_words.specs.App.{app_of_table}
use Rattle.command_words.specs.Readable.{IsReadable}
use Rattle.command_words.proofs.Top.{seen, wanted, TopIsFree, found_below, gives_uses, takes_words}

-- the program as `clap` builds it
abbrev pub above : List Row → App
above table = built (app_of_table table)

-- the command of a row, as it is built
abbrev pub leaf : List Row → Row → Shape
leaf table row = unwrap_or (find (λ t. answers_to row.name (label_of t)) (above table).subs) (new_shape [])

module _ (table : List Row) (clear : list_all is_clear table ≡ true) (simple : is_simple (app_of_table table) ≡ true) (free : TopIsFree (above table).top)
    (all : map (seen (above table) (leaf table)) table ≡ map (wanted (leaf table)) table)
    (takes_by : (words : List Text) → takes (app_of_table table) words ≡ built_takes (above table) nothing_held words)
    (command_by : (words : List Text) → subcommand_of (app_of_table table) words
    ≡ entered (above table) (stop_after (above table).top.rules (names_of (above table)) words)) where
  -- each row is clear, and `clap` takes all words of the form and finds their values
  pub readable : IsReadable table
  readable = record {
    clear = clear;
    simple = simple;
    taken = λ words row uses call.
        ap (takes (app_of_table table)) call.spelling
        ∙ takes_by (row.name ∷ flat_map spelled uses) ∙ takes_words (above table) (leaf table) free table all row uses call.command call.allowed;
    finds = λ words row uses call. record {
      rows = rows_after (leaf table row).rules [] (flat_map spelled uses);
      found = ap (subcommand_of (app_of_table table)) call.spelling
          ∙ command_by (row.name ∷ flat_map spelled uses) ∙ found_below (above table) (leaf table) free table all row uses call.command call.allowed;
      gives = gives_uses (above table) (leaf table) free table all row uses call.command call.allowed;
    };
  }
