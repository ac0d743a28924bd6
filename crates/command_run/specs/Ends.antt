-- How a run comes to its end: the reply to its words, before anything is written, and what is written of it.
use Rattle.std.specs.Prelude.{ℕ, ◌≡◌, ◌≢◌, ◌≤◌, ◌<◌, Bool, true, false, List, [], length, take, Option, Some, None, Result, Ok, Err, IfSome, IsErrOf}
use Rattle.std.specs.Option.{option_or}
use Rattle.std.specs.Global.{Vec}
use Rattle.std.specs.Io.KnownBytes.{Appends}
use Rattle.causal_io.specs.declared.ReadError.{ReadError}
use Rattle.causal_io.specs.declared.ReadError.TheVariants.{Fault, TooLong, NoMemory}
use Rattle.causal_io.specs.Vocabulary.{Rose, AnswersAll}
use Rattle.command_words.specs.Vocabulary.{Text}
use Rattle.diagram.specs.declared.diagram.Diagram.{Diagram}
use Rattle.replies.specs.declared.outcome.Outcome.{Outcome}
use Rattle.replies.specs.declared.outcome.Outcome.TheVariants.{Words, Graph, Read, Write, Memory}
use Rattle.replies.specs.declared.outcome.Reply.{Reply}
use Rattle.replies.specs.declared.format.Format.{Format}
use Rattle.replies.specs.Vocabulary.{told_of, size_told, HoldsDiagram, IsAnswered, Remainder}
use Rattle.replies.specs.Told.{Told}
use Rattle.command_run.specs.Commands.{CommandSet, Request, Asks, HasFormat, second_of}
use Rattle.command_run.specs.Lines.{words_line, read_line, write_line, memory_line}
use Rattle.command_run.specs.Run.{Stream, Run, Answers, ReadsName, Reads, IsNotRead, IsReadAtMostOnce, Ends}
use Rattle.command_run.specs.Answers.{NeedsSecond, GivesSecond}
use Rattle.command_run.specs.Shown.{shown}
use Rattle.command_run.specs.declared.ready.Ready.{Ready}

-- a read of an input that the words ask for failed
pub record FailedRead (s : CommandSet) (r : Run) : Type 0 where
  pub request : Request s
  pub asks : Asks s r.words request
  pub name : Text
  pub is_read : ReadsName s r request name
  pub rose : Rose (r.read_faults name) (r.read_faults_after name)

-- what a reply says of the run, by its outcome: it is the defined answer, or the words ask for nothing, or a read failed, or memory was refused
abbrev pub Replied : CommandSet → Run → Outcome → Told → Type 0
Replied s r Words told = (q : Request s) → Asks s r.words q → ⊥
Replied s r Read told = FailedRead s r
Replied s r Write told = ⊥
Replied s r Memory told = Unit {0}
Replied s r o told = Answers s r o told

-- the same of a reply
abbrev pub RepliesWith : CommandSet → Run → Reply → Type 0
RepliesWith s r reply = Replied s r reply.outcome (told_of reply)

-- the format of a reply that a command gives is that in which the words ask for it
abbrev pub IsInFormat : CommandSet → List Text → Ready → Type 0
IsInFormat s words ready = IsAnswered ready.reply.outcome → HasFormat s words ready.format

-- ---- the diagram of a file

-- this text is kept where this diagram is given: it holds that; none is kept where none is given
abbrev pub IsTextOf : Option (List ℕ) → Option Diagram → Type 0
IsTextOf None None = Unit {0}
IsTextOf (Some text) (Some d) = HoldsDiagram text d
IsTextOf kept given = ⊥

-- the diagram is that of the text that stands for a file; or of what is held under its name, which isn't lacked
pub record IsOfFile (kept : Option (List ℕ)) (held : Text → Option (List ℕ)) (lacks : Text → Bool) (file : Text) (d : Diagram) : Type 0 where
  pub there : kept ≡ None → lacks file ≡ false
  pub holds : IfSome (option_or kept (held file)) (λ text. HoldsDiagram text d)

-- these bytes were read of a file: they are all that is held under its name, and at most 1,048,576
pub record WereRead (held : Text → Option (List ℕ)) (lacks : Text → Bool) (file : Text) (bytes : List ℕ) : Type 0 where
  pub all : IfSome (held file) (λ all. bytes ≡ all)
  pub there : lacks file ≡ false
  pub small : length bytes ≤ 1048576

-- ---- what is read

-- what was read of an input: all that it holds, up to a limit, or that this is more; or a read failed, as one of an input that is lacked does
pub record IsReadOf (held : Option (List ℕ)) (lacks : Bool) (faults faults_after limit : ℕ) (read : Result (Vec ℕ) ReadError) : Type 0 where
  pub answer : AnswersAll held limit read
  pub lacked : lacks ≡ true → IsErrOf read Fault
  pub failed : IsErrOf read Fault → Rose faults faults_after

-- what an input tells stays: what it holds under each name, and whether it lacks it
pub record Stays (held held_after : Text → Option (List ℕ)) (lacks lacks_after : Text → Bool) : Type 0 where
  pub holds : held_after ≡ held
  pub lack : lacks_after ≡ lacks

-- the graph's text is too long; or want of memory stands in the place of that refusal
abbrev pub IsTooLongAs : Outcome → Told → Type 0
IsTooLongAs Graph told = told ≡ size_told
IsTooLongAs Memory told = Unit {0}
IsTooLongAs o told = ⊥

-- the same of a reply
abbrev pub IsTooLong : Reply → Type 0
IsTooLong reply = IsTooLongAs reply.outcome (told_of reply)

-- what a reply says of a file that couldn't be read whole
abbrev pub TellsUnread : ReadError → Reply → Type 0
TellsUnread Fault reply = reply.outcome ≡ Read
TellsUnread (TooLong most) reply = IsTooLong reply
TellsUnread NoMemory reply = reply.outcome ≡ Memory

-- the reply is the one that was made, or says that memory was refused for it
abbrev pub IsMade : {E : Type 0} → Result Reply E → Reply → Type 0
IsMade (Ok made) reply = reply ≡ made
IsMade (Err e) reply = reply.outcome ≡ Memory

-- the reply on what was read of the second input: on its bytes, or where they are more than the limit; or a read failed
abbrev pub GivesOnRead : Remainder → Result (Vec ℕ) ReadError → Reply → Type 0
GivesOnRead l (Ok other) reply = GivesSecond l other.items reply
GivesOnRead l (Err (TooLong most)) reply = (other : List ℕ) → l.limit < length other → GivesSecond l other reply
GivesOnRead l (Err Fault) reply = reply.outcome ≡ Read
GivesOnRead l (Err NoMemory) reply = ⊥

-- what was read where a second input is: no other name, the file not again where it was read before, and none more than once
pub record ReadsSecond (held : Text → Option (List ℕ)) (q : Reads) (file : Text) (before : Bool) (second : Text) : Type 0 where
  pub only : (name : Text) → name ≢ second → IsNotRead q name
  pub not_again : before ≡ true → IsNotRead q file
  pub once : (name : Text) → IsReadAtMostOnce held q name

-- what was read beside the file of a request on a diagram: the second input where that is accepted, no other name, the file not again where it was
-- read before, and none more than once
pub record ReadsBeside (s : CommandSet) (w : Request s) (d : Diagram) (held : Text → Option (List ℕ)) (q : Reads) (file : Text) (before : Bool) : Type 0 where
  pub only : (name : Text) → (NeedsSecond s w d → second_of s w ≡ Some name → ⊥) → IsNotRead q name
  pub not_again : before ≡ true → IsNotRead q file
  pub once : (name : Text) → IsReadAtMostOnce held q name

-- the reply where the second input is read: that on some bytes, which are all that it holds where it tells; or a read failed; or memory was refused
pub data Proceeds (held : Text → Option (List ℕ)) (lacks : Text → Bool) (faults faults_after : Text → ℕ) (l : Remainder) (reply : Reply) : Type 0 where
  replied : IsAnswered reply.outcome → lacks l.second ≡ false → (other : List ℕ) → IfSome (held l.second) (λ all. other ≡ all) → GivesSecond l other reply
      → Proceeds held lacks faults faults_after l reply
  unread : reply.outcome ≡ Read → Rose (faults l.second) (faults_after l.second) → Proceeds held lacks faults faults_after l reply
  no_memory : reply.outcome ≡ Memory → Proceeds held lacks faults faults_after l reply

-- ---- what is written

-- the text or the line of an outcome: that of a command's answer, or the line of an outcome of the run alone
abbrev pub written_for : CommandSet → Outcome → List ℕ → List ℕ
written_for s Words text = words_line s
written_for s Read text = read_line
written_for s Write text = write_line
written_for s Memory text = memory_line
written_for s o text = text

-- that of a reply
abbrev pub text_of : CommandSet → Reply → List ℕ
text_of s reply = written_for s reply.outcome reply.text.items

-- the same with the reply's object
abbrev pub told_as : CommandSet → Reply → Told
told_as s reply = record { text = text_of s reply; object = reply.object.items }

-- the run ends with this reply
abbrev pub EndsWith : CommandSet → Run → Reply → Type 0
EndsWith s r reply = Ends s r reply.outcome (told_as s reply)

-- what a reply in a format shows
abbrev pub shown_of : Format → Reply → List ℕ
shown_of format reply = shown format reply.outcome (told_of reply)

-- what a reply shows was written, or a front of it where the count of faults rose; where it shows nothing, nothing is written
pub data Delivers (out : Stream) (format : Format) (reply last : Reply) : Type 0 where
  written : last ≡ reply → (shown_of format reply ≡ [] → ⊥) → Appends out.before out.after (shown_of format reply) → Delivers out format reply last
  unwritten : last.outcome ≡ Write → (shown_of format reply ≡ [] → ⊥) → (count : ℕ) → count ≤ length (shown_of format reply)
      → Appends out.before out.after (take count (shown_of format reply))
      → Rose out.faults out.faults_after → Delivers out format reply last
  silent : last ≡ reply → shown_of format reply ≡ [] → out.after ≡ out.before → Delivers out format reply last
