-- What a call tells of the inputs that words may ask for.
use Rattle.std.specs.Prelude.{ℕ, ◌≡◌, ◌+◌, ◌++◌, List, [], length, Option, Some, None, option_map}
use Rattle.command_words.specs.Vocabulary.{Text}
use Rattle.caller_memory.specs.declared.spans.Span.{Span}
use Rattle.caller_memory.specs.Vocabulary.{texts}
use Rattle.command_run.specs.Vocabulary.{Asks, Request, file_of, second_of}
use Rattle.causal_cli.specs.Commands.{commands}
use Rattle.causal_cli.specs.Vocabulary.{IsEnough}
use Rattle.causal_cli.specs.declared.inputs.Inputs.{Inputs}
use Rattle.span_call.specs.declared.wanted.Wanted.{Wanted}
use Rattle.span_call.specs.Rooms.{ShowsText}

-- the bytes of a name, or none
abbrev pub bytes_of : Option Text → List ℕ
bytes_of None = []
bytes_of (Some name) = name

-- one where there is a name
abbrev pub one_if : Option Text → ℕ
one_if None = 0
one_if (Some name) = 1

-- of these names told are how many there are, how many bytes each has and how many of the second are enough; and the room shows them, one behind the other
pub record AreTold (file second : Option Text) (most : ℕ) (before names : List ℕ) (w : Wanted) : Type 0 where
  pub count : w.count ≡ one_if file + one_if second
  pub file_size : w.file ≡ length (bytes_of file)
  pub second_size : w.second ≡ length (bytes_of second)
  pub shown : ShowsText (bytes_of file ++ bytes_of second) before names (w.file + w.second)
  pub most_is : w.most ≡ most

-- the same of inputs as the code has them
abbrev pub IsTold : Inputs → (before names : List ℕ) → Wanted → Type 0
IsTold i before names w = AreTold (option_map (λ s. s.now) i.file) (option_map (λ s. s.now) i.second) i.most before names w

-- the words ask for a request, and told are the names of the inputs that it may read, its file and its second input; with how many bytes of that are enough
pub record TellsInputs (bytes : List ℕ) (words : List Span) (before names : List ℕ) (w : Wanted) : Type 0 where
  pub request : Request commands
  pub asks : Asks commands (texts bytes words) request
  pub names_told : AreTold (file_of commands request) (second_of commands request) w.most before names w
  pub enough : IsEnough request w.most

-- the words ask for nothing
abbrev pub AskForNothing : List ℕ → List Span → Type 0
AskForNothing bytes words = (q : Request commands) → Asks commands (texts bytes words) q → ⊥
