-- What the first diagram gives.
use Rattle.std.specs.Prelude.{Option}
use Rattle.diagram.specs.declared.diagram.Diagram.{Diagram}
use Rattle.replies.specs.Vocabulary.{told_of}
use Rattle.told.specs.declared.form.Form.{Form}
use Rattle.told.specs.Vocabulary.{target_refusal, Tells}
use Rattle.equivalent_command.specs.Requests.{Query}
use Rattle.equivalent_command.specs.Right.{IsAcceptedFirst, IsForFirst}
use Rattle.equivalent_command.specs.Telling.{equivalent_telling}
use Rattle.equivalent_command.specs.declared.accepting.Acceptance.{Acceptance}
use Rattle.equivalent_command.specs.declared.accepting.Acceptance.TheVariants.{Refused, Accepted}

-- the reply to a first diagram that is refused, the same in each form; or the sets with which it is accepted
abbrev pub IsAcceptance : Diagram → Option Query → Acceptance → Type 0
IsAcceptance d l (Refused reply) = (form : Form)
    → Tells equivalent_telling target_refusal (IsForFirst d l) form d.observed.names reply.outcome (told_of reply)
IsAcceptance d l (Accepted s) = IsAcceptedFirst d l s
