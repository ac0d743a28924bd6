use Rattle.std.proofs.Common.{◌≡◌, ◌<◌, ℕ, Bool, List, Option, Result, Ok, Err, IfOk, length}
use Rattle.count_rows.specs.Vocabulary.{Field}
use Rattle.replies.specs.declared.outcome.Reply.{Reply}
use Rattle.replies.specs.Vocabulary.{told_of}
use Rattle.told.specs.declared.form.Form.{Form}
use Rattle.told.specs.Vocabulary.{Tells}
use Rattle.evaluate_command.specs.Vocabulary.{values_refusal}
use Rattle.evaluate_command.specs.declared.faults.ValuesFault.TheVariants.{TooLong}
use Rattle.evaluate_treated.specs.Effects.{PlainAmong}
use Rattle.evaluate_treated.specs.Right.{IsForCounts}
use Rattle.evaluate_treated.specs.Telling.{among_telling}
use Rattle.evaluate_treated.proofs.reply.long_counts.Goals as goal

long_told : {E : Type 0} (r : Result Reply E) → IfOk r (λ (p : Reply). p.outcome ≡ values_refusal.outcome TooLong)
    → IfOk r (λ (p : Reply). told_of p ≡ values_refusal.told TooLong)
    → IfOk r (λ (k : Reply). (form : Form) (exact : Bool) (e : PlainAmong) (count : Option Field) (bytes : List ℕ) (names : List (List ℕ))
    → 67108864 < length bytes
    → Tells among_telling values_refusal (IsForCounts exact e count bytes) form names k.outcome (told_of k))
long_told (Err e) outcome told = tt
long_told (Ok k) outcome told = λ form exact e count bytes names long. record { answer = Err TooLong; right = long; ends = outcome; prints = told }

pub returns : goal.returns
returns c = long_told c.refuse.result c.refuse.ensures.outcome c.refuse.ensures.told
