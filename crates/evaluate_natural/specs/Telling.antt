-- What is told of values.
use Rattle.replies.specs.declared.outcome.Outcome.TheVariants.{Yes}
use Rattle.told.specs.Telling.{Telling}
use Rattle.evaluate_natural.specs.Lines.{values_lines}
use Rattle.evaluate_natural.specs.Objects.{answer_members}
use Rattle.evaluate_natural.specs.declared.answer.Answer.{Answer}

-- yes, with a line or an object for each cell
abbrev pub nested_telling : Telling Answer
nested_telling = record {
  outcome = λ a. Yes;
  text = λ w names a. values_lines names a;
  members = λ w names a. answer_members names a;
}
