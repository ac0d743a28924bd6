-- A command whose answers are values.
use Rattle.std.specs.Prelude.{List, Result}
use Rattle.command_words.specs.Vocabulary.{Text, Use}
use Rattle.targets.specs.declared.fault.TargetFault.{TargetFault}
use Rattle.diagram.specs.declared.diagram.Diagram.{Diagram}
use Rattle.replies.specs.Vocabulary.{CommandForm, on_file}
use Rattle.told.specs.declared.form.Form.{Form}
use Rattle.told.specs.Telling.{Telling, Tells}
use Rattle.told.specs.Refusals.{target_refusal}

-- a command on the diagram of a file, by which of its answers are right of a request and a diagram, and what is told of an answer
abbrev pub told_on_file : (Request : Type 0) → (List Use → Request → Type 0) → (Request → Form) → (Request → Text) → {A : Type 0} → Telling A
    → (Request → Diagram → Result A TargetFault → Type 0) → CommandForm
told_on_file Request asks form file t right =
    on_file Request asks (λ q. (form q).format) file (λ q d. Tells t target_refusal (right q d) (form q) d.observed.names)
