-- That the form of an answer doesn't change its outcome.
use Rattle.std.specs.Prelude.{ℕ, Bool, List}
use Rattle.diagram.specs.Vocabulary.{Names}
use Rattle.replies.specs.OneOutcome.{OneOutcome}
use Rattle.replies.specs.Vocabulary.{IsAnswerOn}
use Rattle.told.specs.declared.form.Form.{Form}
use Rattle.told.specs.Vocabulary.{Tells}
use Rattle.treated_command.specs.Faults.{treated_refusal}
use Rattle.treated_command.specs.Right.{IsTreatedAnswer}
use Rattle.treated_command.specs.Telling.{treated_telling}

-- answers on the bytes of a file in any two forms, of which one may be a certificate, have one outcome
abbrev pub FormsAgree : Type 0
FormsAgree = (bytes : List ℕ) (x y : Names) (given : List (List ℕ)) → OneOutcome (IsAnswerOn bytes (λ d o told. (certified : Bool) × (form : Form)
    × Tells treated_telling treated_refusal (IsTreatedAnswer certified d x y given) form d.observed.names o told))
