-- What is told of a certificate whose derivation is explained: of an accepted formula its moves, of all else what `check` tells.
use Rattle.std.specs.Prelude.{ℕ, List}
use Rattle.json.specs.Json.{Json}
use Rattle.prob_expr.specs.Vocabulary.{target_view, formula_view}
use Rattle.replies.specs.declared.outcome.Outcome.{Outcome}
use Rattle.replies.specs.declared.outcome.Outcome.TheVariants.{Yes}
use Rattle.told.specs.declared.form.Writing.{Writing}
use Rattle.told.specs.Telling.{Telling}
use Rattle.check_command.specs.Vocabulary.{check_telling}
use Rattle.steps_command.specs.Texts.{parts_text}
use Rattle.steps_command.specs.Objects.{explained_members}
use Rattle.steps_command.specs.declared.answer.Answer.{Answer}
use Rattle.steps_command.specs.declared.answer.Answer.TheVariants.{Explained, Checked}

-- yes where it is accepted
abbrev pub outcome_of : Answer → Outcome
outcome_of (Explained f parts) = Yes
outcome_of (Checked a) = check_telling.outcome a

-- the lines
abbrev pub answer_text : Writing → List (List ℕ) → Answer → List ℕ
answer_text w names (Explained f parts) = parts_text names parts.items
answer_text w names (Checked a) = check_telling.text w names a

-- the members of the object
abbrev pub answer_members : Writing → List (List ℕ) → Answer → List (List ℕ × Json)
answer_members w names (Explained f parts) = explained_members names (target_view f.target) (formula_view f.formula) parts.items
answer_members w names (Checked a) = check_telling.members w names a

-- all of these
abbrev pub steps_telling : Telling Answer
steps_telling = record { outcome = outcome_of; text = answer_text; members = answer_members }
