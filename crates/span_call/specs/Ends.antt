-- How each call over spans of bytes ends.
use Rattle.std.specs.Prelude.{ℕ, ◌≡◌, ◌≤◌, List}
use Rattle.caller_memory.specs.declared.spans.Span.{Span}
use Rattle.caller_memory.specs.Vocabulary.{AreTexts, IsNoText}
use Rattle.span_call.specs.declared.Sizes.{Sizes}

-- what the status says of the words: 9 that one is no text, and below it that each is; and from 9 on nothing was written
pub record IsEnd (bytes : List ℕ) (words : List Span) (out_before out err_before err : List ℕ) (sizes : Sizes) (status : ℕ) : Type 0 where
  pub not_text : status ≡ 9 → IsNoText bytes words
  pub are_texts : status ≤ 8 → AreTexts bytes words
  pub out_stays : 9 ≤ status → out ≡ out_before
  pub err_stays : 9 ≤ status → err ≡ err_before
  pub no_sizes : 9 ≤ status → sizes ≡ record { out = 0; err = 0 }
