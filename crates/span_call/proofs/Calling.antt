-- From the reply to words over spans to what their call gives.
use Rattle.std.proofs.Common.{◌≡◌, ◌≤◌, ℕ, Bool, List, [], ◌∷◌, Option, Some, length, nat_le, if◌then◌else◌, refl, sym, ap, ◌∙◌, subst, arith}
use Rattle.std.proofs.Math.Seq.{take-length}
use Rattle.std.specs.Io.KnownBytes.{Appends}
use Rattle.command_words.specs.Vocabulary.{Text}
use Rattle.caller_memory.specs.declared.spans.Span.{Span}
use Rattle.caller_memory.specs.declared.spans.Input.{Input}
use Rattle.replies.specs.declared.outcome.Outcome.{Outcome}
use Rattle.replies.specs.declared.outcome.Outcome.TheVariants.{Yes, No}
use Rattle.replies.specs.declared.outcome.Reply.{Reply}
use Rattle.replies.specs.declared.format.Format.{Format}
use Rattle.replies.specs.Vocabulary.{code_of, IsAnswered}
use Rattle.command_run.specs.Vocabulary.{HasFormat, Stream, stream_of, run_with, Received, InputsAreKnown, RepliesWith, EndsWith, Delivers, written, silent, shown_of, text_of, told_as}
use Rattle.command_run.specs.Run.{Run}
use Rattle.command_run.proofs.CompleteRuns.{complete, exact_unless_lacked}
use Rattle.command_run.proofs.Deliveries.{delivered}
use Rattle.causal_cli.specs.Vocabulary.{call_of, RightAsDrawn}
use Rattle.causal_cli.specs.Commands.{commands}
use Rattle.causal_cli.proofs.CallAnswers.{Gave, gave}
use Rattle.causal_cli.proofs.DrawnRuns.{right_as_drawn_of}
use Rattle.causal_cli.proofs.Headlines.{headline}
use Rattle.causal_cli.proofs.Lawful.{lawful}
use Rattle.span_call.specs.declared.Sizes.{Sizes}
use Rattle.span_call.specs.Called.{IsRunOf, Called, line_of}
use Rattle.span_call.specs.Rooms.{ShowsText}
use Rattle.span_call.proofs.Contents.{content_if_there}
use Rattle.span_call.proofs.Endings.{fails_lacked}

-- an output that was empty, to which this was written, and no write failed
abbrev pub written_on : List ℕ → Stream
written_on text = stream_of (Some []) (Some text) 0 0

-- what a reply shows is what is written
delivers : (format : Format) (reply : Reply) → Delivers (written_on (shown_of format reply)) format reply reply
delivers format reply = go (shown_of format reply) refl
  where
    go : (text : List ℕ) → shown_of format reply ≡ text → Delivers (written_on (shown_of format reply)) format reply reply
    go [] is = silent refl is (ap (λ (t : List ℕ). Some t) is)
    go (b ∷ bs) is = written refl (λ none. let e : b ∷ bs ≡ [] = sym is ∙ none in cc e) refl

-- the line is what is received, and nothing on an answer
received : (o : Outcome) (line : List ℕ) → Received (written_on (if nat_le (code_of o) 1 then [] else line)) o line
received Yes line = refl
received No line = refl
received o line = record {
  count = length line;
  within = omega arith;
  front = subst (λ t. Appends (Some []) (Some line) t) (sym (take-length line)) refl;
  whole = λ none. refl;
}

-- inputs that are there tell what they hold
known : (kept : Option (List ℕ)) (bytes : List ℕ) (words : List Span) (inputs : List Input) (r : Run) → IsRunOf r kept bytes words inputs
    → InputsAreKnown commands r
known kept bytes words inputs r is = λ q asks name reads there.
    let content = content_if_there bytes inputs name (sym (is.lacks_is name) ∙ there) in (content.0, is.held_is name ∙ content.1)

module _ (kept : Option (List ℕ)) (bytes : List ℕ) (words : List Span) (inputs : List Input) (out_before out err_before err : List ℕ) (sizes : Sizes)
    (code : ℕ) (format : Format) (reply : Reply) (said : List Text) (held : Text → Option (List ℕ)) (lacks : Text → Bool) (faults faults_after : Text → ℕ) where
  -- the run that writes the answer
  abbrev pub run_of : Run
  run_of = run_with kept said held lacks faults faults_after (written_on (shown_of format reply))

  module _ (is_run : IsRunOf run_of kept bytes words inputs) (replies : RepliesWith commands run_of reply)
      (has : IsAnswered reply.outcome → HasFormat commands said format) (status : code ≡ code_of reply.outcome) where
    ends : EndsWith commands run_of reply
    ends = delivered commands run_of format reply reply has replies (delivers format reply)

    gives : code ≤ 1 → Gave (call_of run_of) reply.outcome (told_as commands reply)
    gives = gave run_of code reply.outcome (told_as commands reply) status ends

    drawn : RightAsDrawn (call_of run_of) code
    drawn = right_as_drawn_of (call_of run_of) code reply.outcome (told_as commands reply) status gives

    -- the rooms show what it wrote
    pub called : ShowsText (shown_of format reply) out_before out sizes.out → ShowsText (line_of reply) err_before err sizes.err
        → Called kept bytes words inputs out_before out err_before err sizes code
    called shows_out shows_err = record {
      run = run_of;
      line = written_on (line_of reply);
      is_run = is_run;
      ended = record {
        outcome = reply.outcome;
        told = told_as commands reply;
        status = status;
        ends = ends;
        received = received reply.outcome (text_of commands reply);
      };
      complete = complete commands lawful run_of code reply.outcome (told_as commands reply) status ends;
      told = known kept bytes words inputs run_of is_run;
      exact = exact_unless_lacked commands lawful run_of code reply.outcome (told_as commands reply) status ends
          (known kept bytes words inputs run_of is_run) (fails_lacked kept bytes words inputs run_of is_run) (λ rose. absurd (omega (arith, rose)));
      headline = headline run_of code drawn (complete commands lawful run_of code reply.outcome (told_as commands reply) status ends);
      drawn = drawn;
      shows_out = record { text = shown_of format reply; empty = refl; none_failed = refl; fails_never = refl; wrote = refl; shown = shows_out };
      shows_err = record { text = line_of reply; empty = refl; none_failed = refl; fails_never = refl; wrote = refl; shown = shows_err };
    }
