-- What the lists of experiments give on a diagram, to a command that is told so.
use Rattle.prob_expr.specs.Vocabulary.{masks_of}
use Rattle.diagram.specs.declared.diagram.Diagram.{Diagram}
use Rattle.replies.specs.Vocabulary.{told_of}
use Rattle.told.specs.declared.form.Form.{Form}
use Rattle.told.specs.Telling.{Telling}
use Rattle.told.specs.Vocabulary.{target_refusal, Tells}
use Rattle.experiment_lists.specs.Vocabulary.{Lists}
use Rattle.check_command.specs.Right.{AreExperimentsOn, IsForFirst}
use Rattle.check_command.specs.declared.accepting.Acceptance.{Acceptance}
use Rattle.check_command.specs.declared.accepting.Acceptance.TheVariants.{Refused, Accepted}

-- the reply that refuses the lists, the same in each form; or the sets that they name
abbrev pub IsAcceptance : {A : Type 0} → Telling A → Diagram → Lists → Acceptance → Type 0
IsAcceptance t d experiments (Refused reply) = (form : Form)
    → Tells t target_refusal (IsForFirst d experiments) form d.observed.names reply.outcome (told_of reply)
IsAcceptance t d experiments (Accepted sets) = AreExperimentsOn d.read.names d.observed.names experiments (masks_of sets.items)
