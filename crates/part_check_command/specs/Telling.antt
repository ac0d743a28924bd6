-- What is told of a certificate: of one in parts its effect and its parts, or why they are refused; of any other what `check_command` tells.
use Rattle.std.specs.Prelude.{ℕ, List}
use Rattle.json.specs.Json.{Json}
use Rattle.replies.specs.declared.outcome.Outcome.{Outcome}
use Rattle.replies.specs.declared.outcome.Outcome.TheVariants.{Yes, No}
use Rattle.told.specs.declared.form.Writing.{Writing}
use Rattle.told.specs.Telling.{Telling}
use Rattle.check_command.specs.Vocabulary.{check_telling}
use Rattle.part_check_command.specs.Lines as lines
use Rattle.part_check_command.specs.Objects as objects
use Rattle.part_check_command.specs.declared.answer.Answer.{Answer}
use Rattle.part_check_command.specs.declared.answer.Answer.TheVariants.{Whole, Treated, Natural, RefusedTreated, RefusedNatural}

-- yes where it is accepted
abbrev pub outcome_of : Answer → Outcome
outcome_of (Whole a) = check_telling.outcome a
outcome_of (Treated a f) = Yes
outcome_of (Natural a f) = Yes
outcome_of (RefusedTreated fault lemmas) = No
outcome_of (RefusedNatural fault lemmas) = No

-- the lines
abbrev pub answer_text : Writing → List (List ℕ) → Answer → List ℕ
answer_text w names (Whole a) = check_telling.text w names a
answer_text w names (Treated a f) = lines.treated_text names a f
answer_text w names (Natural a f) = lines.natural_text names a f
answer_text w names (RefusedTreated fault lemmas) = lines.refused_treated_text names lemmas fault
answer_text w names (RefusedNatural fault lemmas) = lines.refused_natural_text names lemmas fault

-- the members of the object
abbrev pub answer_members : Writing → List (List ℕ) → Answer → List (List ℕ × Json)
answer_members w names (Whole a) = check_telling.members w names a
answer_members w names (Treated a f) = objects.treated_members names a f
answer_members w names (Natural a f) = objects.natural_members names a f
answer_members w names (RefusedTreated fault lemmas) = objects.refused_members (objects.treated_fault_members names lemmas fault)
answer_members w names (RefusedNatural fault lemmas) = objects.refused_members (objects.natural_fault_members names lemmas fault)

-- all of these
abbrev pub part_check_telling : Telling Answer
part_check_telling = record { outcome = outcome_of; text = answer_text; members = answer_members }
