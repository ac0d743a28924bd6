-- The inputs that words may ask for.
use Rattle.std.specs.Prelude.{ℕ, ◌≡◌, ◌<◌, List, length, option_map}
use Rattle.command_words.specs.Vocabulary.{Text}
use Rattle.diagram.specs.declared.diagram.Diagram.{Diagram}
use Rattle.replies.specs.Told.{Told}
use Rattle.replies.specs.declared.outcome.Outcome.{Outcome}
use Rattle.command_run.specs.Vocabulary.{Request, Asks, file_of, second_of, SecondAnswer}
use Rattle.causal_cli.specs.Commands.{commands}
use Rattle.causal_cli.specs.declared.inputs.Inputs.{Inputs}

-- of a second input with more bytes than this no answer tells which they are
abbrev pub IsEnough : Request commands → ℕ → Type 0
IsEnough q most = (d : Diagram) (a b : List ℕ) → most < length a → most < length b → (o : Outcome) (told : Told) → SecondAnswer commands q d a o told
    → SecondAnswer commands q d b o told

-- the names of the file and of the second input of a request, and the most bytes of that which an answer reads
pub record AreInputsOf (q : Request commands) (i : Inputs) : Type 0 where
  pub file : option_map (λ s. s.now) i.file ≡ file_of commands q
  pub second : option_map (λ s. s.now) i.second ≡ second_of commands q
  pub enough : IsEnough q i.most

-- the same of a request that the words ask for
abbrev pub AreInputs : List Text → Inputs → Type 0
AreInputs words i = (q : Request commands) × Asks commands words q × AreInputsOf q i
