-- Two inputs stay two where a word of them is named again.
use Rattle.std.proofs.Common.{◌≡◌, ◌∙◌, Option, Some, sym, subst}
use Rattle.std.proofs.lemmas.Option.{same_Some}
use Rattle.command_words.specs.Form.{Text}
use Rattle.command_words.specs.Values.{AreTwoInputs}

-- where the same value is the file, the two are two inputs with it
pub with_file : (o : Option Text) (f file second : Text) → o ≡ Some f → o ≡ Some file → AreTwoInputs f second → AreTwoInputs file second
with_file o f file second p q = subst (λ x. AreTwoInputs x second) (same_Some f file (sym p ∙ q))

-- so where the same value is the second input
pub with_second : (o : Option Text) (file s second : Text) → o ≡ Some s → o ≡ Some second → AreTwoInputs file s → AreTwoInputs file second
with_second o file s second p q = subst (λ y. AreTwoInputs file y) (same_Some s second (sym p ∙ q))
