-- What is told of an answer of `evaluate`.
use Rattle.std.specs.Prelude.{ℕ, List}
use Rattle.json.specs.Json.{Json}
use Rattle.prob_expr.specs.Vocabulary.{target_view}
use Rattle.replies.specs.declared.outcome.Outcome.{Outcome}
use Rattle.replies.specs.declared.outcome.Outcome.TheVariants.{Yes, No}
use Rattle.told.specs.declared.form.Writing.{Writing}
use Rattle.told.specs.Telling.{Telling}
use Rattle.effect_answers.specs.Vocabulary.{hedge_text, joint_text, hedge_object, joint_object}
use Rattle.adjust_command.specs.Vocabulary.{not_admissible_text, not_admissible_members}
use Rattle.evaluate_command.specs.Listings.{values_lines, effect_object}
use Rattle.evaluate_command.specs.declared.answer.Answer.{Answer}
use Rattle.evaluate_command.specs.declared.answer.Answer.TheVariants.{Values, Hedge, Joint, NotAdmissible}

-- yes with values
abbrev pub outcome_of : Answer → Outcome
outcome_of (Values a) = Yes
outcome_of (Hedge h) = No
outcome_of (Joint t settled h) = No
outcome_of (NotAdmissible s fault) = No

-- the text
abbrev pub answer_text : Writing → List (List ℕ) → Answer → List ℕ
answer_text w names (Values a) = values_lines names a
answer_text w names (Hedge h) = hedge_text w names h
answer_text w names (Joint t settled h) = joint_text w names (target_view t) h
answer_text w names (NotAdmissible s fault) = not_admissible_text names s.given.bits fault

-- the members of the object
abbrev pub answer_members : Writing → List (List ℕ) → Answer → List (List ℕ × Json)
answer_members w names (Values a) = effect_object names a a.values
answer_members w names (Hedge h) = hedge_object w names h
answer_members w names (Joint t settled h) = joint_object w names (target_view t) settled h
answer_members w names (NotAdmissible s fault) = not_admissible_members names s.x.bits s.y.bits s.given.bits fault

-- all of these
abbrev pub evaluate_telling : Telling Answer
evaluate_telling = record { outcome = outcome_of; text = answer_text; members = answer_members }
