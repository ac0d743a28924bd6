-- What statuses 6 and 7 say of a call over spans.
use Rattle.std.proofs.Common.{◌≡◌, ℕ, Bool, true, false, List, Option, refl, sym, ◌∙◌, arith}
use Rattle.command_words.specs.Vocabulary.{Text}
use Rattle.causal_io.specs.Vocabulary.{Rose}
use Rattle.caller_memory.specs.declared.spans.Span.{Span}
use Rattle.caller_memory.specs.declared.spans.Input.{Input}
use Rattle.span_call.specs.declared.Sizes.{Sizes}
use Rattle.replies.specs.declared.outcome.Outcome.{Outcome}
use Rattle.replies.specs.declared.outcome.Outcome.TheVariants.{Read, Write}
use Rattle.replies.specs.Vocabulary.{code_of}
use Rattle.replies.specs.Told.{Told}
use Rattle.command_run.specs.Run.{Run, Ends, Unread, Unwritten}
use Rattle.causal_cli.specs.Commands.{commands}
use Rattle.span_call.specs.Called.{IsRunOf, Called, LacksInput}

module _ (kept : Option (List ℕ)) (bytes : List ℕ) (words : List Span) (inputs : List Input) where
  -- a read fails only of what is lacked
  pub fails_lacked : (r : Run) → IsRunOf r kept bytes words inputs → (name : Text) → Rose (r.read_faults name) (r.read_faults_after name) → r.lacks name ≡ true
  fails_lacked r is name rose = go (r.lacks name) refl
    where
      go : (b : Bool) → r.lacks name ≡ b → b ≡ true
      go true p = refl
      go false p = absurd (omega (arith, rose, is.none_failed name, is.fails_lacked name p))

  unread_at : (r : Run) (text : Told) (o : Outcome) → 6 ≡ code_of o → Ends commands r o text → Unread commands r
  unread_at r text Read c h = h.0
  unread_at r text o c h = absurd (omega (arith, c))

  unwritten_at : (r : Run) (text : Told) (o : Outcome) → 7 ≡ code_of o → Ends commands r o text → Unwritten commands r
  unwritten_at r text Write c h = h.0
  unwritten_at r text o c h = absurd (omega (arith, c))

  module _ (out_before out err_before err : List ℕ) (sizes : Sizes) (code : ℕ)
      (called : Called kept bytes words inputs out_before out err_before err sizes code) where
    -- at status 6 an input isn't there
    pub lacks_input : code ≡ 6 → LacksInput kept bytes words inputs
    lacks_input six =
        let unread = unread_at called.run called.ended.told called.ended.outcome (sym six ∙ called.ended.status) called.ended.ends in
        record {
          run = called.run;
          is_run = called.is_run;
          unread = unread;
          lacked = sym (called.is_run.lacks_is unread.name) ∙ fails_lacked called.run called.is_run unread.name unread.rose;
        }

    -- status 7 doesn't come
    pub never_cut_short : code ≡ 7 → ⊥
    never_cut_short seven =
        let unwritten = unwritten_at called.run called.ended.told called.ended.outcome (sym seven ∙ called.ended.status) called.ended.ends in
        absurd (omega (arith, unwritten.rose, called.shows_out.none_failed, called.shows_out.fails_never))
