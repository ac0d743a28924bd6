-- From how a run ended to which status it has to have.
use Rattle.std.proofs.Common.{◌≡◌, ℕ, true, ◌⊎◌, inl, inr, ap, ◌∙◌}
use Rattle.causal_io.specs.Vocabulary.{Rose}
use Rattle.command_words.specs.Vocabulary.{Text}
use Rattle.replies.specs.declared.outcome.Outcome.{Outcome}
use Rattle.replies.specs.declared.outcome.Outcome.TheVariants.{Yes, No, Words, Graph, Second, Evaluation, Read, Write, Memory}
use Rattle.replies.specs.Vocabulary.{code_of}
use Rattle.replies.specs.Told.{Told}
use Rattle.command_run.specs.Commands.{CommandSet, Request, Asks}
use Rattle.command_run.specs.Laws.{AreLawful}
use Rattle.command_run.specs.Run.{Run, Answers, by_words, by_file, by_both, Ends, ReadsName}
use Rattle.command_run.specs.Complete.{NothingFailed, Answered, InputsAreKnown, IsExact, Complete}
use Rattle.command_run.proofs.OneAnswer.{one_answer, none_lacked, asked}

module _ (s : CommandSet) (laws : AreLawful s) where
  module _ (r : Run) (code : ℕ) where
    -- a defined answer is one to a request of the words
    none_answered : (o : Outcome) (text : Told) → ((q : Request s) → Asks s r.words q → ⊥) → Answers s r o text → ⊥
    none_answered o text none (by_words a) = none a.request a.asks
    none_answered o text none (by_file a) = none a.request a.asks
    none_answered o text none (by_both a) = none a.request a.asks

    refused : (o : Outcome) (text : Told) → code ≡ code_of o → Ends s r o text → ((q : Request s) → Asks s r.words q → ⊥) → (code ≡ 2) ⊎ (code ≡ 8)
    refused Yes text c h none = absurd (none_answered Yes text none h.answers)
    refused No text c h none = absurd (none_answered No text none h.answers)
    refused Words text c h none = inl c
    refused Graph text c h none = absurd (none_answered Graph text none h.answers)
    refused Second text c h none = absurd (none_answered Second text none h.answers)
    refused Evaluation text c h none = absurd (none_answered Evaluation text none h.answers)
    refused Read text c h none = absurd (none h.0.request h.0.asks)
    refused Write text c h none = absurd (none_answered h.0.outcome h.0.told none h.0.answers)
    refused Memory text c h none = inr c

    given : (o : Outcome) (text : Told) → code ≡ code_of o → Ends s r o text → (q : Request s) → Asks s r.words q → NothingFailed s r → Answered s r code
        ⊎ (code ≡ 8)
    given Yes text c h q a f = inl (record { outcome = Yes; told = text; status = c; answered = tt; answers = h.answers })
    given No text c h q a f = inl (record { outcome = No; told = text; status = c; answered = tt; answers = h.answers })
    given Words text c h q a f = absurd (h.0.no_request q a)
    given Graph text c h q a f = inl (record { outcome = Graph; told = text; status = c; answered = tt; answers = h.answers })
    given Second text c h q a f = inl (record { outcome = Second; told = text; status = c; answered = tt; answers = h.answers })
    given Evaluation text c h q a f = inl (record { outcome = Evaluation; told = text; status = c; answered = tt; answers = h.answers })
    given Read text c h q a f = absurd (f.reads h.0.request h.0.asks h.0.name h.0.is_read h.0.rose)
    given Write text c h q a f = absurd (f.writes h.0.rose)
    given Memory text c h q a f = inr c

    -- the inputs have one defined answer, so the status is that of each that is fixed
    exactly : (o : Outcome) (text : Told) → code ≡ code_of o → Ends s r o text → InputsAreKnown s r → NothingFailed s r → IsExact s r code
    exactly o text c h told f k line answers fixed = let q = asked s r k line answers in elim (given o text c h q.0 q.1 f) [
      | inl found ↦ inl (found.status ∙ ap code_of (one_answer s laws r told found.outcome k found.told line found.answers answers fixed))
      | inr memory ↦ inr memory
    ]

    -- an input that is read is lacked, so there is no answer
    unread : (o : Outcome) (text : Told) → code ≡ code_of o → Ends s r o text → InputsAreKnown s r → (q : Request s) → Asks s r.words q → (name : Text)
        → ReadsName s r q name → r.lacks name ≡ true → (code ≡ 6) ⊎ (code ≡ 8)
    unread Yes text c h told q a name is lacked = absurd (none_lacked s laws r told q a name is lacked Yes text h.answers)
    unread No text c h told q a name is lacked = absurd (none_lacked s laws r told q a name is lacked No text h.answers)
    unread Words text c h told q a name is lacked = absurd (h.0.no_request q a)
    unread Graph text c h told q a name is lacked = absurd (none_lacked s laws r told q a name is lacked Graph text h.answers)
    unread Second text c h told q a name is lacked = absurd (none_lacked s laws r told q a name is lacked Second text h.answers)
    unread Evaluation text c h told q a name is lacked = absurd (none_lacked s laws r told q a name is lacked Evaluation text h.answers)
    unread Read text c h told q a name is lacked = inl c
    unread Write text c h told q a name is lacked = absurd (none_lacked s laws r told q a name is lacked h.0.outcome h.0.told h.0.answers)
    unread Memory text c h told q a name is lacked = inr c

    pub complete : (o : Outcome) (text : Told) → code ≡ code_of o → Ends s r o text → Complete s r code
    complete o text c h = record {
      refused = refused o text c h;
      answered = given o text c h;
      exact = exactly o text c h;
      lacked = unread o text c h;
    }

    -- where reads fail only of what is lacked, and no write does, the status is that of each defined answer that is fixed
    pub exact_unless_lacked : (o : Outcome) (text : Told) → code ≡ code_of o → Ends s r o text → InputsAreKnown s r
        → ((name : Text) → Rose (r.read_faults name) (r.read_faults_after name) → r.lacks name ≡ true) → (Rose r.out.faults r.out.faults_after → ⊥)
        → IsExact s r code
    exact_unless_lacked o text c h told fails writes k line answers fixed = let q = asked s r k line answers in
        exactly o text c h told (record {
          reads = λ w asks name is rose. none_lacked s laws r told w asks name is (fails name rose) k line answers;
          writes = writes;
        }) k line answers fixed
