-- A command on two inputs whose answers are values.
use Rattle.std.specs.Prelude.{ℕ, List, Option, Result}
use Rattle.command_words.specs.Vocabulary.{Text, Use}
use Rattle.targets.specs.declared.fault.TargetFault.{TargetFault}
use Rattle.diagram.specs.declared.diagram.Diagram.{Diagram}
use Rattle.replies.specs.Vocabulary.{CommandForm, on_two_inputs}
use Rattle.told.specs.declared.form.Form.{Form}
use Rattle.told.specs.Telling.{Telling, Refusal, Tells}
use Rattle.told.specs.Refusals.{target_refusal}

-- A command on the diagram of a file and on a second input: which answers are right on the diagram alone; what is kept of a diagram that is accepted for the
-- second input; and which answers are right with that and the bytes of the second input.
abbrev pub told_on_two_inputs : (Request : Type 0) → (List Use → Request → Type 0) → (Request → Form) → (Request → Text) → (Request → Option Text)
    → {A F K : Type 0} → Telling A → Refusal F → (Request → Diagram → Result A TargetFault → Type 0) → (Request → Diagram → K → Type 0)
    → (Request → Diagram → K → List ℕ → Result A F → Type 0) → CommandForm
told_on_two_inputs Request asks form file second {A} {F} {K} t f alone keeps right =
    on_two_inputs Request asks (λ q. (form q).format) file second
    (λ q d. Tells t target_refusal (alone q d) (form q) d.observed.names)
    (λ q d. (k : K) × keeps q d k)
    (λ q d other o told. (k : K) × keeps q d k × Tells t f (right q d k other) (form q) d.observed.names o told)
