-- The command `evaluate`.
use Rattle.std.specs.Prelude.{Bool, Option, Some}
use Rattle.command_words.specs.Vocabulary.{Text}
use Rattle.replies.specs.declared.format.Format.{Format}
use Rattle.replies.specs.Vocabulary.{CommandForm, on_two_inputs_where, Remainder}
use Rattle.told.specs.Vocabulary.{plain_form, target_refusal, Tells}
use Rattle.evaluate_command.specs.Effects.{PlainEffect, IsIdentified, Identifies}
use Rattle.evaluate_command.specs.Telling.{evaluate_telling}
use Rattle.evaluate_command.specs.First.{IsForDiagram}
use Rattle.evaluate_command.specs.Requests.{Request, IsRequest}
use Rattle.evaluate_command.specs.Right.{IsForCounts}
use Rattle.evaluate_command.specs.ValuesFaults.{values_refusal}
use Rattle.evaluate_command.specs.Ways.{FixesFormula}

-- its request and its answers, which have one outcome where one formula is found in the way that is asked for
abbrev pub evaluate_command : CommandForm
evaluate_command = on_two_inputs_where Request IsRequest (λ q. q.format) (λ q. q.file) (λ q. Some q.counts)
    (λ q d. Tells evaluate_telling target_refusal (IsForDiagram q.way d q.x q.y) (plain_form q.format) d.observed.names)
    (λ q d. (e : PlainEffect) × Identifies q.way d q.x q.y e)
    (λ q d other o told. (e : PlainEffect) × Identifies q.way d q.x q.y e
    × Tells evaluate_telling values_refusal (IsForCounts q.exact q.zero q.matched e q.count other) (plain_form q.format) e.names o told)
    (λ q. FixesFormula q.way)

-- what is left once the effect has a formula: its values over the counts, whose column may have a name, in exact fractions or in bounds, by one of
-- the two rules for products, and where it is asked for the pair by which no model has the counts
abbrev pub evaluate_left : Format → PlainEffect → (counts : Text) (count : Option Text) (exact zero matched : Bool) → Remainder
evaluate_left format e counts count exact zero matched = record {
  second = counts;
  limit = 67108864;
  known = IsIdentified e;
  answer = λ other. Tells evaluate_telling values_refusal (IsForCounts exact zero matched e count other) (plain_form format) e.names;
}
