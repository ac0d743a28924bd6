-- What a text says.
use Rattle.std.specs.Prelude.{◌≡◌, ℕ, List, [], ◌∷◌, length, Option, Some, None, Result}
use Rattle.dag_reader.specs.declared.tokens.Due.{Due}
use Rattle.dag_reader.specs.declared.tokens.Due.TheVariants as dues
use Rattle.dag_reader.specs.Tokens.{Tok, first, place_of, due_behind}
use Rattle.dag_reader.specs.Grammar.{Fault, Said, nothing, Position, at_start, Turn, goes_on, ends, step}

-- The tokens at the front of bytes that end a text of so many bytes, with their places.
unfoldable pub AreFirst : ℕ → Due → List (ℕ × Tok) → List ℕ → Type 0
AreFirst size due [] bytes = Unit {0}
AreFirst size due (t ∷ ts) bytes = (rest : List ℕ) × (t.0 ≡ place_of size bytes) × (first due bytes ≡ (t.1, rest)) × AreFirst size (due_behind t.1) ts rest

-- what follows a turn, or its answer
abbrev pub on_turn : Turn → (Position → Said → Option (Result Said Fault)) → Option (Result Said Fault)
on_turn (goes_on p s) f = f p s
on_turn (ends r) f = Some r

-- what the tokens say, up to the one that ends the reading
unfoldable pub rest_says : Position → Said → List (ℕ × Tok) → Option (Result Said Fault)
rest_says p s [] = None
rest_says p s (t ∷ ts) = on_turn (step p s t.0 t.1) (λ q u. rest_says q u ts)

-- what the rest of a text says
pub record RestSays (size : ℕ) (due : Due) (p : Position) (s : Said) (bytes : List ℕ) (r : Result Said Fault) : Type 0 where
  pub tokens : List (ℕ × Tok)
  pub cut : AreFirst size due tokens bytes
  pub says : rest_says p s tokens ≡ Some r

-- what a whole text says, or its first fault
abbrev pub Says : List ℕ → Result Said Fault → Type 0
Says text r = RestSays (length text) dues.Token at_start nothing text r
