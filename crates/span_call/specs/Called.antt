-- What a call over spans of bytes gives.
use Rattle.std.specs.Prelude.{ℕ, ◌≡◌, [], List, Option, Some, true, false, is_none, nat_le, if◌then◌else◌}
use Rattle.command_words.specs.Vocabulary.{Text}
use Rattle.caller_memory.specs.declared.spans.Span.{Span}
use Rattle.caller_memory.specs.declared.spans.Input.{Input}
use Rattle.caller_memory.specs.Vocabulary.{place_named, content_named, texts}
use Rattle.span_call.specs.declared.Sizes.{Sizes}
use Rattle.span_call.specs.Rooms.{ShowsText}
use Rattle.replies.specs.declared.outcome.Reply.{Reply}
use Rattle.replies.specs.Vocabulary.{code_of}
use Rattle.command_run.specs.Run.{Run, Unread}
use Rattle.command_run.specs.Vocabulary.{Stream, Ended, InputsAreKnown, IsExact, text_of}
use Rattle.command_run.specs.Complete.{Complete}
use Rattle.causal_cli.specs.Vocabulary.{call_of, RightAsDrawn}
use Rattle.causal_cli.specs.Commands.{commands}
use Rattle.causal_cli.specs.Headline.{Headline}

-- the run is one over these words and inputs, with the text that stands for their file where one is kept: its words are the spans' texts, what it holds
-- under a name is the first input of that name, and a read fails only where no input has the name
pub record IsRunOf (r : Run) (kept : Option (List ℕ)) (bytes : List ℕ) (words : List Span) (inputs : List Input) : Type 0 where
  pub words_are : r.words ≡ texts bytes words
  pub kept_is : r.kept ≡ kept
  pub held_is : (name : Text) → r.held name ≡ content_named bytes inputs name
  pub lacks_is : (name : Text) → r.lacks name ≡ is_none (place_named bytes inputs name)
  pub none_failed : (name : Text) → r.read_faults name ≡ 0
  pub fails_lacked : (name : Text) → r.lacks name ≡ false → r.read_faults_after name ≡ 0

-- an output was empty, and has a text now, which the room shows; no write failed
pub record Shows (s : Stream) (before room : List ℕ) (size : ℕ) : Type 0 where
  pub text : List ℕ
  pub empty : s.before ≡ Some []
  pub none_failed : s.faults ≡ 0
  pub fails_never : s.faults_after ≡ 0
  pub wrote : s.after ≡ Some text
  pub shown : ShowsText text before room size

-- A run over the words and the inputs, with the text that stands for their file where one is kept, ended with this status, and the two rooms show what
-- it wrote. Its inputs tell what they hold, so that the status is that of each defined answer that is fixed.
pub record Called (kept : Option (List ℕ)) (bytes : List ℕ) (words : List Span) (inputs : List Input) (out_before out err_before err : List ℕ) (sizes : Sizes)
    (code : ℕ) : Type 0 where
  pub run : Run
  pub line : Stream
  pub is_run : IsRunOf run kept bytes words inputs
  pub ended : Ended commands run line code
  pub complete : Complete commands run code
  pub told : InputsAreKnown commands run
  pub exact : IsExact commands run code
  pub headline : Headline run code
  pub drawn : RightAsDrawn (call_of run) code
  pub shows_out : Shows run.out out_before out sizes.out
  pub shows_err : Shows line err_before err sizes.err

-- the words name an input that was to be read, and no input has that name
pub record LacksInput (kept : Option (List ℕ)) (bytes : List ℕ) (words : List Span) (inputs : List Input) : Type 0 where
  pub run : Run
  pub is_run : IsRunOf run kept bytes words inputs
  pub unread : Unread commands run
  pub lacked : is_none (place_named bytes inputs unread.name) ≡ true

-- what is written of a reply as a line
abbrev pub line_of : Reply → List ℕ
line_of r = if nat_le (code_of r.outcome) 1 then [] else text_of commands r
