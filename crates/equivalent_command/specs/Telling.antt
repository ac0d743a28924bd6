-- What is told of two graphs.
use Rattle.std.specs.Prelude.{ℕ, true, false, List, [], ◌∷◌, ◌++◌, codes}
use Rattle.json.specs.Json.{Json, string}
use Rattle.replies.specs.declared.outcome.Outcome.{Outcome}
use Rattle.replies.specs.declared.outcome.Outcome.TheVariants.{Yes, No}
use Rattle.told.specs.Telling.{Telling}
use Rattle.equivalent_command.specs.Lines.{equivalent_text, separated_text, connected_text, edge_text, collider_text}
use Rattle.equivalent_command.specs.Objects.{asked_members, paths_members, different_members}
use Rattle.equivalent_command.specs.declared.answer.Answer.{Answer}
use Rattle.equivalent_command.specs.declared.answer.Answer.TheVariants.{Alike, Separated, Connected, Edge, Collider}

-- no where one of the graphs has something alone
abbrev pub outcome_of : Answer → Outcome
outcome_of Alike = Yes
outcome_of (Separated sets) = Yes
outcome_of (Connected sets first second) = Yes
outcome_of (Edge d) = No
outcome_of (Collider d m) = No

-- the lines
abbrev pub answer_text : List (List ℕ) → Answer → List ℕ
answer_text names Alike = equivalent_text
answer_text names (Separated sets) = separated_text names sets
answer_text names (Connected sets first second) = connected_text names first second
answer_text names (Edge d) = edge_text names d
answer_text names (Collider d m) = collider_text names d m

-- the members of the object
abbrev pub answer_members : List (List ℕ) → Answer → List (List ℕ × Json)
answer_members names Alike = (codes "answer", string (codes "equivalent")) ∷ []
answer_members names (Separated sets) = asked_members names sets true
answer_members names (Connected sets first second) = asked_members names sets false ++ paths_members names first second
answer_members names (Edge d) = different_members (codes "edge") names (d.a ∷ d.b ∷ []) d
answer_members names (Collider d m) = different_members (codes "collider") names (d.a ∷ m ∷ d.b ∷ []) d

-- all of these
abbrev pub equivalent_telling : Telling Answer
equivalent_telling = record { outcome = outcome_of; text = λ w. answer_text; members = λ w. answer_members }
