-- The command `evaluate --natural`.
use Rattle.std.specs.Prelude.{Bool, Option, Some}
use Rattle.command_words.specs.Vocabulary.{Text}
use Rattle.replies.specs.Vocabulary.{CommandForm, on_two_inputs, Remainder}
use Rattle.told.specs.declared.form.Form.{Form}
use Rattle.told.specs.Vocabulary.{Tells}
use Rattle.natural_command.specs.Vocabulary.{natural_refusal, natural_telling}
use Rattle.evaluate_command.specs.Vocabulary.{values_refusal}
use Rattle.evaluate_natural.specs.Effects.{PlainNested, Identifies, IsIdentified}
use Rattle.evaluate_natural.specs.First.{IsForDiagram}
use Rattle.evaluate_natural.specs.Requests.{Request, IsRequest}
use Rattle.evaluate_natural.specs.Right.{IsForCounts}
use Rattle.evaluate_natural.specs.Telling.{nested_telling}

-- its request and its answers: that of `natural` where there is no formula, and else the values over the counts
abbrev pub evaluate_natural_command : CommandForm
evaluate_natural_command = on_two_inputs Request IsRequest (λ q. q.effect.form.format) (λ q. q.effect.file) (λ q. Some q.counts)
    (λ q d. Tells natural_telling natural_refusal (IsForDiagram d q.effect) q.effect.form d.observed.names)
    (λ q d. (e : PlainNested) × Identifies d q.effect e)
    (λ q d other o told. (e : PlainNested) × Identifies d q.effect e
    × Tells nested_telling values_refusal (IsForCounts q.exact e q.count other) q.effect.form e.names o told)

-- what is left once the effect has a formula: its values over the counts, whose column may have a name, in exact fractions or in bounds
abbrev pub evaluate_natural_left : Form → PlainNested → (counts : Text) (count : Option Text) (exact : Bool) → Remainder
evaluate_natural_left form e counts count exact = record {
  second = counts;
  limit = 67108864;
  known = IsIdentified e;
  answer = λ other. Tells nested_telling values_refusal (IsForCounts exact e count other) form e.names;
}
