-- A row of the table by itself.
use Rattle.std.proofs.Common.{◌≡◌, Bool, true, false, List, [], ◌∷◌, Some, map, refl, subst}
use Rattle.std.specs.Str.{bytes_eq}
use Rattle.command_words.specs.Form.{Text, Row, Use, row_named, IsCall}
use Rattle.command_words.proofs.Texts.{same_bytes}

-- words of a call are so by the table of its row alone
pub alone : (table : List Row) (words : List Text) (row : Row) (uses : List Use) → IsCall table words row uses → IsCall (row ∷ []) words row uses
alone table words row uses call = record { command = rw (same_bytes row.name) refl; spelling = call.spelling; allowed = call.allowed }

-- what is so of each row is so of the one that has a name
pub each_named : {Command : Type 0} (row_for : Command → Row) (P : Row → Type 0) → ((c : Command) → P (row_for c)) → (commands : List Command)
    → (name : Text) (row : Row) → row_named (map row_for commands) name ≡ Some row → P row
each_named row_for P each [] name row e = cc e
each_named row_for P each (c ∷ commands) name row e = go (bytes_eq (row_for c).name name) refl (each_named row_for P each commands name row)
  where
    go : (t : Bool) → bytes_eq (row_for c).name name ≡ t → (row_named (map row_for commands) name ≡ Some row → P row) → P row
    go true same next = let found : Some (row_for c) ≡ Some row = rw same at e in let is : row_for c ≡ row = cc found in subst P is (each c)
    go false other next = next (rw other at e)
