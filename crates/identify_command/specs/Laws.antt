-- That the form of an answer doesn't change its outcome.
use Rattle.std.specs.Prelude.{ℕ, Bool, List}
use Rattle.diagram.specs.Vocabulary.{Names}
use Rattle.replies.specs.OneOutcome.{OneOutcome}
use Rattle.replies.specs.Vocabulary.{IsAnswerOn}
use Rattle.told.specs.declared.form.Form.{Form}
use Rattle.told.specs.Vocabulary.{target_refusal, Tells}
use Rattle.identify_command.specs.Right.{IsIdentifyAnswer}
use Rattle.identify_command.specs.Telling.{identify_telling}

-- answers on the bytes of a file in any two forms, of which one may be short or certified, have one outcome
abbrev pub FormsAgree : Type 0
FormsAgree = (bytes : List ℕ) (x y given : Names) → OneOutcome (IsAnswerOn bytes (λ d o told. (short : Bool) × (certified : Bool) × (form : Form)
    × Tells identify_telling target_refusal (IsIdentifyAnswer short certified d x y given) form d.observed.names o told))
