-- What is told of the pairs of a graph.
use Rattle.std.specs.Prelude.{ℕ, List, [], map, codes}
use Rattle.std.specs.List.{flat_map}
use Rattle.json.specs.Json.{Json}
use Rattle.replies.specs.declared.outcome.Outcome.{Outcome}
use Rattle.replies.specs.declared.outcome.Outcome.TheVariants.{Yes, No}
use Rattle.told.specs.Telling.{Telling}
use Rattle.implications_command.specs.Lines.{none_line, pair_lines, measured_lines}
use Rattle.implications_command.specs.Objects.{listed_members, pair_json, differences_members}
use Rattle.implications_command.specs.declared.answer.Answer.{Answer}
use Rattle.implications_command.specs.declared.answer.Answer.TheVariants.{NoPairs, Pairs, Differences}

-- yes where there are pairs
abbrev pub outcome_of : Answer → Outcome
outcome_of NoPairs = No
outcome_of (Pairs list) = Yes
outcome_of (Differences t measured) = Yes

-- a line for each pair, and another for its difference
abbrev pub answer_text : List (List ℕ) → Answer → List ℕ
answer_text names NoPairs = none_line
answer_text names (Pairs list) = pair_lines names list.items
answer_text names (Differences t measured) = flat_map (measured_lines names t) measured.items

-- the members of the object
abbrev pub answer_members : List (List ℕ) → Answer → List (List ℕ × Json)
answer_members names NoPairs = listed_members (codes "none") []
answer_members names (Pairs list) = listed_members (codes "implications") (map (pair_json names) list.items)
answer_members names (Differences t measured) = differences_members names t measured.items

-- all of these
abbrev pub implications_telling : Telling Answer
implications_telling = record { outcome = outcome_of; text = λ w. answer_text; members = λ w. answer_members }
