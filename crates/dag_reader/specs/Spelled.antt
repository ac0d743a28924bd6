-- A text of the grammar as bytes.
use Rattle.std.specs.Prelude.{◌≡◌, ℕ, List, length, map}
use Rattle.dag_reader.specs.declared.tokens.Due.TheVariants as dues
use Rattle.dag_reader.specs.Tokens.{Tok}
use Rattle.dag_reader.specs.Reading.{AreFirst}
use Rattle.dag_reader.specs.Syntax.{Text, text_tokens}

-- the tokens without their places
abbrev pub kinds : List (ℕ × Tok) → List Tok
kinds ts = map (λ (t : ℕ × Tok). t.1) ts

-- The tokens at the front are those of the text, the last of which is the end.
pub record Spelled (bytes : List ℕ) (t : Text) : Type 0 where
  pub tokens : List (ℕ × Tok)
  pub more : List Tok
  pub cut : AreFirst (length bytes) dues.Token tokens bytes
  pub spelling : kinds tokens ≡ text_tokens t more
