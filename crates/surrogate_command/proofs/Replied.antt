-- The reply tells the answer, or the fault.
use Rattle.std.proofs.Common.{◌≡◌, ℕ, false, List, Result, Ok, Err, IfOk, IfErr, true≢false}
use Rattle.std.specs.Prelude.{OnOk}
use Rattle.targets.specs.declared.fault.TargetFault.{TargetFault}
use Rattle.targets.specs.declared.fault.TargetFault.TheVariants.{NoMemory}
use Rattle.targets.specs.Vocabulary.{OrMemory}
use Rattle.replies.specs.declared.outcome.Reply.{Reply}
use Rattle.replies.specs.Vocabulary.{told_of}
use Rattle.told.specs.declared.form.Form.{Form}
use Rattle.told.specs.Vocabulary.{is_memory, target_refusal, Tells, outcome_in, told_in, is_wanting}
use Rattle.surrogate_command.specs.declared.answer.Answer.{Answer}
use Rattle.surrogate_command.specs.Telling.{surrogate_telling}

of_fault : (is : TargetFault → Type 0) (fault : TargetFault) → OrMemory is fault → is_memory fault ≡ false → is fault
of_fault is NoMemory h other = absurd (true≢false other)
of_fault is fault h other = h

pub replied : {E : Type 0} (right : Result Answer TargetFault → Type 0) (form : Form) (names : List (List ℕ)) (answer : Result Answer TargetFault)
    → IfOk answer (λ a. right (Ok a)) → IfErr answer (OrMemory (λ fault. right (Err fault))) → (r : Result Reply E)
    → IfOk r (λ (p : Reply). p.outcome ≡ outcome_in surrogate_telling target_refusal answer)
    → IfOk r (λ (p : Reply). told_of p ≡ told_in surrogate_telling target_refusal form names answer)
    → OnOk r (is_wanting target_refusal answer ≡ false)
    → IfOk r (λ (p : Reply). Tells surrogate_telling target_refusal right form names p.outcome (told_of p))
replied right form names answer is fault (Err e) ends prints memory = tt
replied right form names (Ok a) is fault (Ok p) ends prints memory = record { answer = Ok a; right = is; ends = ends; prints = prints }
replied right form names (Err f) is fault (Ok p) ends prints memory = record {
  answer = Err f;
  right = of_fault (λ e. right (Err e)) f fault memory;
  ends = ends;
  prints = prints;
}
