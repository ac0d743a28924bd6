-- Over an input and an output whose counts of failures are 0, no failed read and no failed write is answered.
use Rattle.std.proofs.Common.{◌≡◌, ℕ, sym, ◌∙◌, arith}
use Rattle.command_words.specs.Vocabulary.{Text}
use Rattle.causal_io.specs.Vocabulary.{Rose}
use Rattle.replies.specs.declared.outcome.Outcome.{Outcome}
use Rattle.replies.specs.declared.outcome.Outcome.TheVariants.{Read, Write}
use Rattle.replies.specs.Vocabulary.{code_of}
use Rattle.replies.specs.Told.{Told}
use Rattle.command_run.specs.Run.{Stream, Run, Ended, Ends}
use Rattle.command_run.specs.Commands.{CommandSet}

-- a count that is 0 hasn't risen
not_risen : (before after : ℕ) → after ≡ 0 → Rose before after → ⊥
not_risen before after none rose = absurd (omega (arith, none, rose))

unread : (s : CommandSet) (r : Run) → ((name : Text) → r.read_faults_after name ≡ 0) → (o : Outcome) (text : Told) → 6 ≡ code_of o → Ends s r o text → ⊥
unread s r read Read text c h = not_risen (r.read_faults h.0.name) (r.read_faults_after h.0.name) (read h.0.name) h.0.rose
unread s r read o text c h = absurd (omega (arith, c))

unwritten : (s : CommandSet) (r : Run) → r.out.faults_after ≡ 0 → (o : Outcome) (text : Told) → 7 ≡ code_of o → Ends s r o text → ⊥
unwritten s r write Write text c h = not_risen r.out.faults r.out.faults_after write h.0.rose
unwritten s r write o text c h = absurd (omega (arith, c))

pub sure_end : (s : CommandSet) (r : Run) (err : Stream) (code : ℕ) → ((name : Text) → r.read_faults_after name ≡ 0) → r.out.faults_after ≡ 0
    → Ended s r err code → (code ≡ 6 → ⊥) × (code ≡ 7 → ⊥)
sure_end s r err code read write e = (
  λ c. unread s r read e.outcome e.told (sym c ∙ e.status) e.ends,
  λ c. unwritten s r write e.outcome e.told (sym c ∙ e.status) e.ends,
)
