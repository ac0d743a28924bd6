-- What is told of the instruments of an effect.
use Rattle.std.specs.Prelude.{ℕ, List, [], codes}
use Rattle.json.specs.Json.{Json}
use Rattle.replies.specs.declared.outcome.Outcome.{Outcome}
use Rattle.replies.specs.declared.outcome.Outcome.TheVariants.{Yes, No}
use Rattle.told.specs.Telling.{Telling}
use Rattle.instruments_command.specs.Lines.{listing_text}
use Rattle.instruments_command.specs.Objects.{listing_members}
use Rattle.instruments_command.specs.declared.answer.Answer.{Answer}
use Rattle.instruments_command.specs.declared.answer.Answer.TheVariants.{Listed, NoInstrument}

-- yes where there is one
abbrev pub outcome_of : Answer → Outcome
outcome_of (Listed s list) = Yes
outcome_of (NoInstrument s) = No

-- the lines
abbrev pub answer_text : List (List ℕ) → Answer → List ℕ
answer_text names (Listed s list) = listing_text names list.items
answer_text names (NoInstrument s) = codes "none\n"

-- the members of the object
abbrev pub answer_members : List (List ℕ) → Answer → List (List ℕ × Json)
answer_members names (Listed s list) = listing_members (codes "instruments") names s.x.bits s.y.bits list.items
answer_members names (NoInstrument s) = listing_members (codes "none") names s.x.bits s.y.bits []

-- all of these
abbrev pub instruments_telling : Telling Answer
instruments_telling = record { outcome = outcome_of; text = λ w. answer_text; members = λ w. answer_members }
