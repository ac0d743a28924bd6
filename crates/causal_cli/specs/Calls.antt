-- What was asked and what was written, as far as the claims on answers speak of it.
use Rattle.std.specs.Prelude.{ℕ, List, [], ◌∷◌, Option, IfSome}
use Rattle.std.specs.Option.{option_or}
use Rattle.std.specs.Io.KnownBytes.{Appends}
use Rattle.command_words.specs.Vocabulary.{Text, Row, Use, IsCall}
use Rattle.replies.specs.Told.{Told}
use Rattle.command_run.specs.Run.{Run}

-- the words; what is held under a name where it is that of a file, and where it is that of a second input; and what the output had before and after,
-- where it tells
pub record Call : Type 0 where
  pub words : List Text
  pub held : Text → Option (List ℕ)
  pub held_second : Text → Option (List ℕ)
  pub before : Option (List ℕ)
  pub after : Option (List ℕ)

-- a call over one input, which holds the same under a name for both
abbrev pub call_on : (words : List Text) (held : Text → Option (List ℕ)) (before after : Option (List ℕ)) → Call
call_on words held before after = record { words = words; held = held; held_second = held; before = before; after = after }

-- the call of a run: under the name of a file stands the text that is kept, where one is
abbrev pub call_of : Run → Call
call_of r = record {
  words = r.words;
  held = λ file. option_or r.kept (r.held file);
  held_second = r.held;
  before = r.out.before;
  after = r.out.after;
}

-- the words are a call of this command: its name, and then these uses, which are some that it allows
abbrev pub IsCallOf : Row → List Text → List Use → Type 0
IsCallOf row words uses = IsCall (row ∷ []) words row uses

-- a text was written for a request that these uses ask for, and on the bytes of the request's file it is one that shows what it is to
pub record WrittenFor {Asked : Type 0} (asks_for : List Use → Asked → Type 0) (file : Asked → Text) (shows : Asked → (bytes : List ℕ) (told : Told) → Type 0)
    (r : Call) (uses : List Use) : Type 0 where
  pub request : Asked
  pub told : Told
  pub asks : asks_for uses request
  pub right : IfSome (r.held (file request)) (λ bytes. shows request bytes told)
  pub whole : Appends r.before r.after told.text

-- the same of a request with a second input, on the bytes of both
pub record WrittenForBoth {Asked : Type 0} (asks_for : List Use → Asked → Type 0) (file second : Asked → Text)
    (shows : Asked → (bytes other : List ℕ) (told : Told) → Type 0) (r : Call) (uses : List Use) : Type 0 where
  pub request : Asked
  pub told : Told
  pub asks : asks_for uses request
  pub right : IfSome (r.held (file request)) (λ bytes. IfSome (r.held_second (second request)) (λ other. shows request bytes other told))
  pub whole : Appends r.before r.after told.text
