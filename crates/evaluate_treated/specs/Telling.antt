-- What is told over counts.
use Rattle.std.specs.Prelude.{ℕ, List}
use Rattle.json.specs.Json.{Json}
use Rattle.replies.specs.declared.outcome.Outcome.{Outcome}
use Rattle.replies.specs.declared.outcome.Outcome.TheVariants.{Yes, No}
use Rattle.told.specs.declared.form.Writing.{Writing}
use Rattle.told.specs.Telling.{Telling}
use Rattle.treated_command.specs.Vocabulary.{treated_telling}
use Rattle.evaluate_treated.specs.Lines.{no_model_text, values_lines}
use Rattle.evaluate_treated.specs.Objects.{no_model_members, values_members}
use Rattle.evaluate_treated.specs.declared.answer.Answer.{Answer}
use Rattle.evaluate_treated.specs.declared.answer.Answer.TheVariants.{Values, NoModel, Path}

-- yes where there are values
abbrev pub among_outcome : Answer → Outcome
among_outcome (Values a) = Yes
among_outcome (NoModel a) = No
among_outcome (Path a) = No

-- the text: a line for each cell, or that no model has the counts, or what `treated` tells
abbrev pub among_text : Writing → List (List ℕ) → Answer → List ℕ
among_text w names (Values a) = values_lines names a
among_text w names (NoModel a) = no_model_text names a
among_text w names (Path a) = treated_telling.text w names a.now

-- the members of the object
abbrev pub among_members : Writing → List (List ℕ) → Answer → List (List ℕ × Json)
among_members w names (Values a) = values_members names a
among_members w names (NoModel a) = no_model_members names a
among_members w names (Path a) = treated_telling.members w names a.now

-- all of these
abbrev pub among_telling : Telling Answer
among_telling = record { outcome = among_outcome; text = among_text; members = among_members }
