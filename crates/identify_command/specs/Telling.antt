-- What is told of an answer of `identify`.
use Rattle.std.specs.Prelude.{ℕ, List}
use Rattle.json.specs.Json.{Json}
use Rattle.prob_expr.specs.Vocabulary.{target_view}
use Rattle.replies.specs.declared.outcome.Outcome.{Outcome}
use Rattle.replies.specs.declared.outcome.Outcome.TheVariants.{Yes, No}
use Rattle.told.specs.declared.form.Writing.{Writing}
use Rattle.told.specs.Telling.{Telling}
use Rattle.effect_answers.specs.Vocabulary.{formula_text, formula_object, hedge_text, joint_text, hedge_object, joint_object}
use Rattle.identify_command.specs.declared.answer.Answer.{Answer}
use Rattle.identify_command.specs.declared.answer.Answer.TheVariants.{Formula, Hedge, Joint}

-- yes with a formula
abbrev pub identify_outcome : Answer → Outcome
identify_outcome (Formula f) = Yes
identify_outcome (Hedge h) = No
identify_outcome (Joint t settled h) = No

-- the text
abbrev pub identify_text : Writing → List (List ℕ) → Answer → List ℕ
identify_text w names (Formula f) = formula_text w names f
identify_text w names (Hedge h) = hedge_text w names h
identify_text w names (Joint t settled h) = joint_text w names (target_view t) h

-- the members of the object
abbrev pub identify_object : Writing → List (List ℕ) → Answer → List (List ℕ × Json)
identify_object w names (Formula f) = formula_object w names f
identify_object w names (Hedge h) = hedge_object w names h
identify_object w names (Joint t settled h) = joint_object w names (target_view t) settled h

-- all of these
abbrev pub identify_telling : Telling Answer
identify_telling = record { outcome = identify_outcome; text = identify_text; members = identify_object }
