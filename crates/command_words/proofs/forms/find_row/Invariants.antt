use Rattle.std.proofs.Common.{◌≡◌, drop, map}
use Rattle.command_words.specs.Form.{row_named}
use Rattle.command_words.specs.Views.{row_of}
use Rattle.command_words.proofs.forms.find_row.Given as goal

abbrev pub invariant-loop-row : goal.invariant-loop-row
invariant-loop-row l = row_named (map row_of l.fn.table) l.name ≡ row_named (map row_of (drop l.row-index l.table)) l.name
