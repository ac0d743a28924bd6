-- That the form of an answer doesn't change its outcome.
use Rattle.std.specs.Prelude.{ℕ, Bool, List}
use Rattle.diagram.specs.Vocabulary.{Names}
use Rattle.replies.specs.OneOutcome.{OneOutcome}
use Rattle.replies.specs.Vocabulary.{IsAnswerOn}
use Rattle.told.specs.declared.form.Form.{Form}
use Rattle.told.specs.Vocabulary.{Tells}
use Rattle.natural_command.specs.Faults.{natural_refusal}
use Rattle.natural_command.specs.Right.{IsNaturalAnswer}
use Rattle.natural_command.specs.Telling.{natural_telling}

-- answers on the bytes of a file in any two forms, of which one may be certified, have one outcome
abbrev pub FormsAgree : Type 0
FormsAgree = (bytes : List ℕ) (x y : Names) (through given : List (List ℕ)) → OneOutcome (IsAnswerOn bytes (λ d o told. (certified : Bool) × (form : Form)
    × Tells natural_telling natural_refusal (IsNaturalAnswer certified d x y through given) form d.observed.names o told))
