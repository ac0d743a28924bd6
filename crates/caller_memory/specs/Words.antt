-- The texts of words that stand in some bytes.
use Rattle.std.specs.Prelude.{ℕ, ◌<◌, List, map, length, slice_get, All, IfSome}
use Rattle.std.specs.Str.{IsUtf8}
use Rattle.caller_memory.specs.declared.spans.Span.{Span}
use Rattle.caller_memory.specs.Parts.{part}

-- the texts of some spans
abbrev pub texts : List ℕ → List Span → List (List ℕ)
texts bytes spans = map (part bytes) spans

-- each of the spans is text, in UTF-8
abbrev pub AreTexts : List ℕ → List Span → Type 0
AreTexts bytes spans = All (λ s. IsUtf8 (part bytes s)) spans

-- one of the spans is no text
pub record IsNoText (bytes : List ℕ) (spans : List Span) : Type 0 where
  pub place : ℕ
  pub within : place < length spans
  pub no_text : IfSome (slice_get spans place) (λ s. ¬ (IsUtf8 (part bytes s)))
