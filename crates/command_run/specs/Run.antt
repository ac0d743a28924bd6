-- How a run ends.
use Rattle.std.specs.Prelude.{ℕ, ◌≡◌, ◌≤◌, Bool, false, List, [], length, take, Option, Some, None, IfSome}
use Rattle.std.specs.Option.{option_or}
use Rattle.std.specs.Io.KnownBytes.{Appends}
use Rattle.causal_io.specs.Vocabulary.{Rose, IsReadOnce}
use Rattle.command_words.specs.Vocabulary.{Text}
use Rattle.replies.specs.declared.outcome.Outcome.{Outcome}
use Rattle.replies.specs.declared.outcome.Outcome.TheVariants.{Yes, No, Words, Graph, Second, Evaluation, Read, Write, Memory}
use Rattle.replies.specs.declared.format.Format.{Format}
use Rattle.replies.specs.Vocabulary.{code_of, IsAnswered}
use Rattle.replies.specs.declared.format.Format.TheVariants as formats
use Rattle.replies.specs.Told.{Told}
use Rattle.command_run.specs.Commands.{CommandSet, Request, Asks, HasFormat, file_of, second_of}
use Rattle.command_run.specs.Lines.{words_line, read_line, write_line, memory_line}
use Rattle.command_run.specs.Answers.{WordsAnswer, Defined, Continues, DefinedWith}
use Rattle.command_run.specs.Shown.{shown}

-- an output before and after a run: what was written, where it tells, and its count of faults
pub record Stream : Type 0 where
  pub before : Option (List ℕ)
  pub after : Option (List ℕ)
  pub faults : ℕ
  pub faults_after : ℕ

-- an output with what was written and its faults, before and after
abbrev pub stream_of : (before after : Option (List ℕ)) (faults faults_after : ℕ) → Stream
stream_of before after faults faults_after = record { before = before; after = after; faults = faults; faults_after = faults_after }

-- what a run was given: the words; the text that stands for their file, which isn't read then, where one is kept; what is held and lacked under each
-- name, with the counts of faults before and after; and `out`
pub record Run : Type 0 where
  pub words : List Text
  pub kept : Option (List ℕ)
  pub held : Text → Option (List ℕ)
  pub lacks : Text → Bool
  pub read_faults : Text → ℕ
  pub read_faults_after : Text → ℕ
  pub out : Stream

-- the run on these words, over an input with what it holds and lacks and its counts of faults before and after, and an output, where this text is kept
abbrev pub run_with : (kept : Option (List ℕ)) (words : List Text) (held : Text → Option (List ℕ)) (lacks : Text → Bool) (faults faults_after : Text → ℕ)
    (out : Stream) → Run
run_with kept words held lacks faults faults_after out = record {
  words = words;
  kept = kept;
  held = held;
  lacks = lacks;
  read_faults = faults;
  read_faults_after = faults_after;
  out = out;
}

-- the same where none is kept
abbrev pub run_on : (words : List Text) (held : Text → Option (List ℕ)) (lacks : Text → Bool) (faults faults_after : Text → ℕ) (out : Stream) → Run
run_on words held lacks faults faults_after out = run_with None words held lacks faults faults_after out

-- the words ask for a request without an input, and this is its answer
pub record AnswersWords (s : CommandSet) (words : List Text) (o : Outcome) (told : Told) : Type 0 where
  pub request : Request s
  pub asks : Asks s words request
  pub answer : WordsAnswer s request o told

-- the words ask for a request whose file was read, and on the bytes that it holds, or on the text that stands for it, this is the defined answer
pub record AnswersFile (s : CommandSet) (r : Run) (o : Outcome) (told : Told) : Type 0 where
  pub request : Request s
  pub asks : Asks s r.words request
  pub file : Text
  pub names_it : file_of s request ≡ Some file
  pub there : r.kept ≡ None → r.lacks file ≡ false
  pub defined : IfSome (option_or r.kept (r.held file)) (λ bytes. Defined s request bytes o told)

-- The words ask for a request whose file was read and accepted, and whose second input was read, and on the bytes of both this is the defined answer. What
-- was read of the second input is all that it holds, where it tells.
pub record AnswersBoth (s : CommandSet) (r : Run) (o : Outcome) (told : Told) : Type 0 where
  pub request : Request s
  pub asks : Asks s r.words request
  pub file : Text
  pub names_it : file_of s request ≡ Some file
  pub second : Text
  pub names_second : second_of s request ≡ Some second
  pub there : r.kept ≡ None → r.lacks file ≡ false
  pub second_there : r.lacks second ≡ false
  pub accepted : IfSome (option_or r.kept (r.held file)) (λ bytes. Continues s request bytes)
  pub other : List ℕ
  pub all : IfSome (r.held second) (λ all. other ≡ all)
  pub defined : IfSome (option_or r.kept (r.held file)) (λ bytes. DefinedWith s request bytes other o told)

-- the defined answer: by the words alone, by the file alone, or by both inputs
pub data Answers (s : CommandSet) (r : Run) (o : Outcome) (told : Told) : Type 0 where
  by_words : AnswersWords s r.words o told → Answers s r o told
  by_file : AnswersFile s r o told → Answers s r o told
  by_both : AnswersBoth s r o told → Answers s r o told

-- an answer was written whole
pub record Written (s : CommandSet) (r : Run) (o : Outcome) (told : Told) : Type 0 where
  pub answers : Answers s r o told
  pub whole : Appends r.out.before r.out.after told.text

-- an input was refused by this line; its object was written where the words ask for JSON, and else nothing
pub record Refused (s : CommandSet) (r : Run) (o : Outcome) (told : Told) : Type 0 where
  pub format : Format
  pub of_words : HasFormat s r.words format
  pub answers : Answers s r o told
  pub whole : Appends r.out.before r.out.after (shown format o told)
  pub nothing : format ≡ formats.Text → r.out.after ≡ r.out.before

-- the words ask for nothing
pub record NotUnderstood (s : CommandSet) (r : Run) : Type 0 where
  pub no_request : (q : Request s) → Asks s r.words q → ⊥
  pub nothing : r.out.after ≡ r.out.before

-- the request reads this name: it is that of its file, unless a text stands for that, or that of its second input, where the file is accepted
pub data ReadsName (s : CommandSet) (r : Run) (w : Request s) (name : Text) : Type 0 where
  file : r.kept ≡ None → file_of s w ≡ Some name → ReadsName s r w name
  second : (file : Text) → file_of s w ≡ Some file → second_of s w ≡ Some name → (r.kept ≡ None → r.lacks file ≡ false)
      → IfSome (option_or r.kept (r.held file)) (λ bytes. Continues s w bytes) → ReadsName s r w name

-- how often each name was read before and after a run, and how many bytes of it were given, where the input tells
pub record Reads : Type 0 where
  pub calls : Text → ℕ
  pub calls_after : Text → ℕ
  pub given : Text → ℕ
  pub given_after : Text → ℕ

-- the reads with these counts before and after
abbrev pub reads_of : (calls calls_after given given_after : Text → ℕ) → Reads
reads_of calls calls_after given given_after = record { calls = calls; calls_after = calls_after; given = given; given_after = given_after }

-- the name wasn't read
pub record IsNotRead (q : Reads) (name : Text) : Type 0 where
  pub calls : q.calls_after name ≡ q.calls name
  pub given : q.given_after name ≡ q.given name

-- of a name that holds so many bytes each was given once at most, with one read more than bytes
abbrev pub IsReadAtMostOnce : (Text → Option (List ℕ)) → Reads → Text → Type 0
IsReadAtMostOnce held q name = IfSome (held name) (λ all. IsReadOnce (q.calls name) (q.calls_after name) (q.given name) (q.given_after name) (length all))

-- what was read: no name but those that a request of the words reads, and none more than once, also where it is named twice
pub record ReadsAsAsked (s : CommandSet) (r : Run) (q : Reads) : Type 0 where
  pub only : (name : Text) → ((w : Request s) → Asks s r.words w → ReadsName s r w name → ⊥) → IsNotRead q name
  pub once : (name : Text) → IsReadAtMostOnce r.held q name

-- a read of an input failed
pub record Unread (s : CommandSet) (r : Run) : Type 0 where
  pub request : Request s
  pub asks : Asks s r.words request
  pub name : Text
  pub is_read : ReadsName s r request name
  pub rose : Rose (r.read_faults name) (r.read_faults_after name)
  pub nothing : r.out.after ≡ r.out.before

-- something of the answer was to be written, a write failed, and a front was written
pub record Unwritten (s : CommandSet) (r : Run) : Type 0 where
  pub outcome : Outcome
  pub told : Told
  pub format : Format
  pub of_words : HasFormat s r.words format
  pub answered : IsAnswered outcome
  pub answers : Answers s r outcome told
  pub some : shown format outcome told ≡ [] → ⊥
  pub count : ℕ
  pub within : count ≤ length (shown format outcome told)
  pub front : Appends r.out.before r.out.after (take count (shown format outcome told))
  pub rose : Rose r.out.faults r.out.faults_after

-- what an outcome says of the run, with what is told of it: the text on `out`, or the line on `err`
abbrev pub Ends : CommandSet → Run → Outcome → Told → Type 0
Ends s r Yes told = Written s r Yes told
Ends s r No told = Written s r No told
Ends s r Words told = NotUnderstood s r × (told.text ≡ words_line s)
Ends s r Graph told = Refused s r Graph told
Ends s r Second told = Refused s r Second told
Ends s r Evaluation told = Refused s r Evaluation told
Ends s r Read told = Unread s r × (told.text ≡ read_line)
Ends s r Write told = Unwritten s r × (told.text ≡ write_line)
Ends s r Memory told = (r.out.after ≡ r.out.before) × (told.text ≡ memory_line)

-- the line was received: all of it, or a front of it where the count of faults rose
pub record ReceivedLine (err : Stream) (line : List ℕ) : Type 0 where
  pub count : ℕ
  pub within : count ≤ length line
  pub front : Appends err.before err.after (take count line)
  pub whole : (Rose err.faults err.faults_after → ⊥) → Appends err.before err.after line

-- what `err` received: nothing on an answer, else the line
abbrev pub Received : Stream → Outcome → List ℕ → Type 0
Received err Yes text = err.after ≡ err.before
Received err No text = err.after ≡ err.before
Received err o line = ReceivedLine err line

-- the run ended with this status
pub record Ended (s : CommandSet) (r : Run) (err : Stream) (code : ℕ) : Type 0 where
  pub outcome : Outcome
  pub told : Told
  pub status : code ≡ code_of outcome
  pub ends : Ends s r outcome told
  pub received : Received err outcome told.text
