-- The command `evaluate --treated`.
use Rattle.std.specs.Prelude.{Bool, Option, Some}
use Rattle.command_words.specs.Vocabulary.{Text}
use Rattle.replies.specs.Vocabulary.{CommandForm, on_two_inputs, Remainder}
use Rattle.told.specs.declared.form.Form.{Form}
use Rattle.told.specs.Vocabulary.{Tells}
use Rattle.treated_command.specs.Vocabulary.{treated_refusal, treated_telling}
use Rattle.evaluate_command.specs.Vocabulary.{values_refusal}
use Rattle.evaluate_treated.specs.Effects.{PlainAmong, Identifies, IsHeld}
use Rattle.evaluate_treated.specs.First.{IsForDiagram}
use Rattle.evaluate_treated.specs.Requests.{Request, IsRequest}
use Rattle.evaluate_treated.specs.Right.{IsForCounts}
use Rattle.evaluate_treated.specs.declared.identified.Way.{Way}
use Rattle.evaluate_treated.specs.Telling.{among_telling}

-- its request and its answers: that of `treated` where no values are had, and else those over the counts
abbrev pub evaluate_treated_command : CommandForm
evaluate_treated_command = on_two_inputs Request IsRequest (λ q. q.effect.form.format) (λ q. q.effect.file) (λ q. Some q.counts)
    (λ q d. Tells treated_telling treated_refusal (IsForDiagram d q.effect) q.effect.form d.observed.names)
    (λ q d. (e : PlainAmong) × Identifies d q.effect e)
    (λ q d other o told. (e : PlainAmong) × Identifies d q.effect e
    × Tells among_telling values_refusal (IsForCounts q.exact e q.count other) q.effect.form e.names o told)

-- what is left once values may be had: the answer over the counts, whose column may have a name, in exact fractions or in bounds
abbrev pub evaluate_treated_left : Form → PlainAmong → Way → (counts : Text) (count : Option Text) (exact : Bool) → Remainder
evaluate_treated_left form e way counts count exact = record {
  second = counts;
  limit = 67108864;
  known = IsHeld e way;
  answer = λ other. Tells among_telling values_refusal (IsForCounts exact e count other) form e.names;
}
