use Rattle.std.proofs.Common.{◌≡◌, ◌<◌, ℕ, List, Option, Result, Ok, Err, IfOk, length}
use Rattle.count_rows.specs.Vocabulary.{Field}
use Rattle.replies.specs.declared.outcome.Reply.{Reply}
use Rattle.replies.specs.Vocabulary.{told_of}
use Rattle.told.specs.declared.form.Form.{Form}
use Rattle.told.specs.Vocabulary.{Tells}
use Rattle.implications_command.specs.CountsFaults.{counts_refusal}
use Rattle.implications_command.specs.Pairs.{PlainPairs}
use Rattle.implications_command.specs.Right.{IsForCounts}
use Rattle.implications_command.specs.Telling.{implications_telling}
use Rattle.implications_command.specs.declared.fault.CountsFault.TheVariants.{TooLong}
use Rattle.implications_command.proofs.reply.long_counts.Goals as goal

long_told : {E : Type 0} (r : Result Reply E) → IfOk r (λ (p : Reply). p.outcome ≡ counts_refusal.outcome TooLong)
    → IfOk r (λ (p : Reply). told_of p ≡ counts_refusal.told TooLong)
    → IfOk r (λ (k : Reply). (form : Form) (p : PlainPairs) (count : Option Field) (bytes : List ℕ) (names : List (List ℕ)) → 67108864 < length bytes
    → Tells implications_telling counts_refusal (IsForCounts p count bytes) form names k.outcome (told_of k))
long_told (Err e) outcome told = tt
long_told (Ok k) outcome told = λ form p count bytes names long. record { answer = Err TooLong; right = long; ends = outcome; prints = told }

pub returns : goal.returns
returns c = long_told c.refuse.result c.refuse.ensures.outcome c.refuse.ensures.told
