-- The other way round: which status a run has to have.
use Rattle.std.specs.Prelude.{ℕ, ◌≡◌, ◌⊎◌, true, false, List, Some}
use Rattle.causal_io.specs.Vocabulary.{Rose}
use Rattle.command_words.specs.Vocabulary.{Text}
use Rattle.replies.specs.declared.outcome.Outcome.{Outcome}
use Rattle.replies.specs.Vocabulary.{code_of, IsAnswered}
use Rattle.replies.specs.Told.{Told}
use Rattle.command_run.specs.Commands.{CommandSet, Request, Asks, AskOnce, IsFixed}
use Rattle.command_run.specs.Run.{Run, Answers, by_words, by_file, by_both, ReadsName}

-- no count of failures rose: of the inputs that a request of the words reads, or of the writes
pub record NothingFailed (s : CommandSet) (r : Run) : Type 0 where
  pub reads : (q : Request s) → Asks s r.words q → (name : Text) → ReadsName s r q name → Rose (r.read_faults name) (r.read_faults_after name) → ⊥
  pub writes : Rose r.out.faults r.out.faults_after → ⊥

-- the status is that of the defined answer to what the words ask for
pub record Answered (s : CommandSet) (r : Run) (code : ℕ) : Type 0 where
  pub outcome : Outcome
  pub told : Told
  pub status : code ≡ code_of outcome
  pub answered : IsAnswered outcome
  pub answers : Answers s r outcome told

-- each input that a request of the words reads tells what it holds
abbrev pub InputsAreKnown : CommandSet → Run → Type 0
InputsAreKnown s r = (q : Request s) → Asks s r.words q → (name : Text) → ReadsName s r q name → r.lacks name ≡ false → (bytes : List ℕ)
    × (r.held name ≡ Some bytes)

-- the request fixes the outcome of the answer: it does so unless the answer is on both inputs and by what the program chose
abbrev pub IsFixedAnswer : (s : CommandSet) (r : Run) (o : Outcome) (told : Told) → Answers s r o told → Type 0
IsFixedAnswer s r o told (by_words a) = Unit {0}
IsFixedAnswer s r o told (by_file a) = Unit {0}
IsFixedAnswer s r o told (by_both a) = IsFixed s a.request

-- whatever is the defined answer, the status is that of its outcome; or memory was refused
abbrev pub IsExact : CommandSet → Run → ℕ → Type 0
IsExact s r code = (o : Outcome) (told : Told) (answer : Answers s r o told) → IsFixedAnswer s r o told answer → (code ≡ code_of o) ⊎ (code ≡ 8)

-- Where the words ask for nothing, the status is 2; where they ask for something and nothing failed, it is that of a defined answer, and, where the
-- inputs are told, of each defined answer that is fixed; where these are told, and one that is read is lacked, it is 6. Or memory was refused.
pub record Complete (s : CommandSet) (r : Run) (code : ℕ) : Type 0 where
  pub refused : ((q : Request s) → Asks s r.words q → ⊥) → (code ≡ 2) ⊎ (code ≡ 8)
  pub answered : (q : Request s) → Asks s r.words q → NothingFailed s r → Answered s r code ⊎ (code ≡ 8)
  pub exact : InputsAreKnown s r → NothingFailed s r → IsExact s r code
  pub lacked : InputsAreKnown s r → (q : Request s) → Asks s r.words q → (name : Text) → ReadsName s r q name → r.lacks name ≡ true → (code ≡ 6) ⊎ (code ≡ 8)

-- words ask for one call at most
abbrev pub WordsAskOnce : CommandSet → Type 0
WordsAskOnce s = (words : List Text) → AskOnce s words
