-- What is told of a separation.
use Rattle.std.specs.Prelude.{ℕ, List, [], ◌∷◌, ◌++◌, codes}
use Rattle.json.specs.Json.{Json}
use Rattle.answer_json.specs.Vocabulary.{path_json}
use Rattle.replies.specs.declared.outcome.Outcome.{Outcome}
use Rattle.replies.specs.declared.outcome.Outcome.TheVariants.{Yes, No}
use Rattle.replies.specs.Vocabulary.{open_text}
use Rattle.told.specs.Telling.{Telling}
use Rattle.separation_commands.specs.declared.separate.answer.Answer.{Answer}
use Rattle.separation_commands.specs.declared.separate.answer.Answer.TheVariants.{Separated, Connected}
use Rattle.separation_commands.specs.SeparateSentences.{sentence_text, sets_members}

-- yes where the sets are separated
abbrev pub separate_outcome : Answer → Outcome
separate_outcome (Separated sets) = Yes
separate_outcome (Connected sets path) = No

-- a line with the sets, and another with the open path
abbrev pub separate_text : List (List ℕ) → Answer → List ℕ
separate_text names (Separated sets) = sentence_text (codes "separated: ") names sets
separate_text names (Connected sets path) = sentence_text (codes "not separated: ") names sets ++ open_text names path.vertices path.marks path.count

-- the members of the object
abbrev pub separate_members : List (List ℕ) → Answer → List (List ℕ × Json)
separate_members names (Separated sets) = sets_members (codes "separated") names sets
separate_members names (Connected sets path) = sets_members (codes "not separated") names sets
    ++ (codes "open", path_json names path.vertices path.marks path.count) ∷ []

-- all of these
abbrev pub separate_telling : Telling Answer
separate_telling = record { outcome = separate_outcome; text = λ w. separate_text; members = λ w. separate_members }
