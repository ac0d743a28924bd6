-- Words name one subject: a file, and two lists that may be left out.
use Rattle.std.proofs.Common.{◌≡◌, ℕ, List, Option, sym, ◌∙◌}
use Rattle.std.specs.Prelude.{codes}
use Rattle.std.proofs.lemmas.Option.{same_Some}
use Rattle.command_words.specs.Vocabulary.{Row, Text, Use, value_of}
use Rattle.command_words.specs.Values.{IsSubject}
use Rattle.command_words.proofs.OneValue.{one_listed}

pub one_subject : (row : Row) (uses : List Use) (file other : Text) (x y v w : Option (List (List ℕ))) → IsSubject row uses file x y
    → IsSubject row uses other v w → (other ≡ file) × (v ≡ x) × (w ≡ y)
one_subject row uses file other x y v w s t = (
  same_Some other file (sym t.is_file ∙ s.is_file),
  one_listed (value_of uses (codes "x")) x v s.is_x t.is_x,
  one_listed (value_of uses (codes "y")) y w s.is_y t.is_y,
)
