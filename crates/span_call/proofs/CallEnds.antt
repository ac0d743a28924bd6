-- The ends of calls.
use Rattle.std.proofs.Common.{◌≡◌, ◌≤◌, ℕ, List, refl, arith}
use Rattle.caller_memory.specs.declared.spans.Span.{Span}
use Rattle.caller_memory.specs.Vocabulary.{AreTexts}
use Rattle.span_call.specs.declared.Sizes.{Sizes}
use Rattle.span_call.specs.Ends.{IsEnd}

-- where the words are texts, any end with a status below 9 is one
pub ended : (bytes : List ℕ) (words : List Span) (out_before out err_before err : List ℕ) (sizes : Sizes) (status : ℕ) → AreTexts bytes words → status ≤ 8
    → IsEnd bytes words out_before out err_before err sizes status
ended bytes words out_before out err_before err sizes status are small = record {
  not_text = λ nine. absurd (omega (arith, nine, small));
  are_texts = λ k. are;
  out_stays = λ nine. absurd (omega (arith, nine, small));
  err_stays = λ nine. absurd (omega (arith, nine, small));
  no_sizes = λ nine. absurd (omega (arith, nine, small));
}

-- where nothing was written, any end with a status above 9 is one
pub silent : (bytes : List ℕ) (words : List Span) (out err : List ℕ) (sizes : Sizes) (status : ℕ) → 10 ≤ status → sizes ≡ record { out = 0; err = 0 }
    → IsEnd bytes words out out err err sizes status
silent bytes words out err sizes status high none = record {
  not_text = λ nine. absurd (omega (arith, nine, high));
  are_texts = λ small. absurd (omega (arith, small, high));
  out_stays = λ nine. refl;
  err_stays = λ nine. refl;
  no_sizes = λ nine. none;
}
