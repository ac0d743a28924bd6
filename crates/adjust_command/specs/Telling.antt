-- What is told of sets that may be adjusted for.
use Rattle.std.specs.Prelude.{ℕ, false, List, [], codes}
use Rattle.json.specs.Json.{Json}
use Rattle.replies.specs.declared.outcome.Outcome.{Outcome}
use Rattle.replies.specs.declared.outcome.Outcome.TheVariants.{Yes, No}
use Rattle.told.specs.Telling.{Telling}
use Rattle.adjust_command.specs.Lines.{admissible_text, not_admissible_text, listing_text}
use Rattle.adjust_command.specs.Objects.{admissible_members, not_admissible_members, listing_members}
use Rattle.adjust_command.specs.declared.answer.Answer.{Answer}
use Rattle.adjust_command.specs.declared.answer.Answer.TheVariants.{Admissible, NotAdmissible, Listed, NoSet}

-- yes where a set may be adjusted for
abbrev pub outcome_of : Answer → Outcome
outcome_of (Admissible s) = Yes
outcome_of (NotAdmissible s fault) = No
outcome_of (Listed s sets more) = Yes
outcome_of (NoSet s) = No

-- the lines
abbrev pub answer_text : List (List ℕ) → Answer → List ℕ
answer_text names (Admissible s) = admissible_text names s.x.bits s.y.bits s.given.bits
answer_text names (NotAdmissible s fault) = not_admissible_text names s.given.bits fault
answer_text names (Listed s sets more) = listing_text names sets.items more
answer_text names (NoSet s) = codes "none\n"

-- the members of the object
abbrev pub answer_members : List (List ℕ) → Answer → List (List ℕ × Json)
answer_members names (Admissible s) = admissible_members names s.x.bits s.y.bits s.given.bits
answer_members names (NotAdmissible s fault) = not_admissible_members names s.x.bits s.y.bits s.given.bits fault
answer_members names (Listed s sets more) = listing_members (codes "sets") names s.x.bits s.y.bits sets.items more
answer_members names (NoSet s) = listing_members (codes "none") names s.x.bits s.y.bits [] false

-- all of these
abbrev pub adjust_telling : Telling Answer
adjust_telling = record { outcome = outcome_of; text = λ w. answer_text; members = λ w. answer_members }
