-- What is told of the bounds of an effect over counts.
use Rattle.std.specs.Prelude.{ℕ, List}
use Rattle.std.specs.List.{flat_map}
use Rattle.json.specs.Json.{Json}
use Rattle.replies.specs.declared.outcome.Outcome.{Outcome}
use Rattle.replies.specs.declared.outcome.Outcome.TheVariants.{Yes, No}
use Rattle.told.specs.Telling.{Telling}
use Rattle.bound_values.specs.declared.found.Found.{Found}
use Rattle.bound_values.specs.declared.found.Found.TheVariants.{Crossed, Bounded}
use Rattle.bounds_command.specs.declared.answer.Answer.{Answer}
use Rattle.bounds_command.specs.Lines.{bounds_line, crossing_lines}
use Rattle.bounds_command.specs.Objects.{bounds_members, crossing_members}

-- yes where no bounds cross
abbrev pub found_outcome : Found → Outcome
found_outcome (Bounded bounds) = Yes
found_outcome (Crossed c) = No

-- the lines of the cells, or of the crossing
abbrev pub found_text : List (List ℕ) → Answer → Found → List ℕ
found_text names a (Bounded bounds) = flat_map (bounds_line names a.counts a.question) bounds.items
found_text names a (Crossed c) = crossing_lines names a.counts a.question c

-- the members of the object
abbrev pub found_members : List (List ℕ) → Answer → Found → List (List ℕ × Json)
found_members names a (Bounded bounds) = bounds_members names a.counts a.question a.exact bounds.items
found_members names a (Crossed c) = crossing_members names a.counts a.question c

-- all of these
abbrev pub bounds_telling : Telling Answer
bounds_telling = record {
  outcome = λ a. found_outcome a.found;
  text = λ w names a. found_text names a a.found;
  members = λ w names a. found_members names a a.found;
}
