-- What is told of an answer of `surrogate`.
use Rattle.std.specs.Prelude.{ℕ, List}
use Rattle.json.specs.Json.{Json}
use Rattle.prob_expr.specs.Vocabulary.{masks_of, effect_on}
use Rattle.replies.specs.declared.outcome.Outcome.{Outcome}
use Rattle.replies.specs.declared.outcome.Outcome.TheVariants.{Yes, No}
use Rattle.told.specs.declared.form.Writing.{Writing}
use Rattle.told.specs.Telling.{Telling}
use Rattle.effect_answers.specs.Vocabulary.{formula_text}
use Rattle.surrogate_command.specs.declared.answer.Answer.{Answer}
use Rattle.surrogate_command.specs.declared.answer.Answer.TheVariants.{Formula, Unfound, Blocked}
use Rattle.surrogate_command.specs.Lines.{stop_answer}
use Rattle.surrogate_command.specs.Parts.{blocked_text, found_object, unfound_object, blocked_object}

-- yes with a formula
abbrev pub surrogate_outcome : Answer → Outcome
surrogate_outcome (Formula s f) = Yes
surrogate_outcome (Unfound s district h) = No
surrogate_outcome (Blocked s district h) = No

-- the text
abbrev pub surrogate_text : Writing → List (List ℕ) → Answer → List ℕ
surrogate_text w names (Formula s f) = formula_text w names f
surrogate_text w names (Unfound s district h) = stop_answer names s.x.bits s.y.bits district.bits h
surrogate_text w names (Blocked s district h) = blocked_text w names s.x.bits s.y.bits district.bits h

-- the members of the object
abbrev pub surrogate_object : Writing → List (List ℕ) → Answer → List (List ℕ × Json)
surrogate_object w names (Formula s f) = found_object w names (masks_of s.experiments.items) f
surrogate_object w names (Unfound s district h) = unfound_object names (masks_of s.experiments.items) (effect_on s.x.bits s.y.bits) district.bits h
surrogate_object w names (Blocked s district h) = blocked_object w names (masks_of s.experiments.items) (effect_on s.x.bits s.y.bits) district.bits h

-- all of these
abbrev pub surrogate_telling : Telling Answer
surrogate_telling = record { outcome = surrogate_outcome; text = surrogate_text; members = surrogate_object }
