-- The reply tells the answer, or the fault.
use Rattle.std.proofs.Common.{◌≡◌, ℕ, false, List, Result, Ok, Err, IfOk, true≢false}
use Rattle.std.specs.Prelude.{OnOk}
use Rattle.targets.specs.declared.fault.TargetFault.{TargetFault}
use Rattle.targets.specs.declared.fault.TargetFault.TheVariants.{NoMemory}
use Rattle.targets.specs.Vocabulary.{OrMemory}
use Rattle.diagram.specs.declared.diagram.Diagram.{Diagram}
use Rattle.diagram.specs.Vocabulary.{Names}
use Rattle.replies.specs.declared.outcome.Reply.{Reply}
use Rattle.replies.specs.Vocabulary.{told_of}
use Rattle.told.specs.declared.form.Form.{Form}
use Rattle.told.specs.Vocabulary.{is_memory, target_refusal, Tells, outcome_in, told_in, is_wanting}
use Rattle.evaluate_command.specs.Telling.{evaluate_telling}
use Rattle.evaluate_command.specs.First.{IsForDiagram}
use Rattle.evaluate_command.specs.Firsts.{IsAnswered}
use Rattle.evaluate_command.specs.Ways.{Way}
use Rattle.evaluate_command.specs.declared.answer.Answer.{Answer}

of_fault : (is : TargetFault → Type 0) (fault : TargetFault) → OrMemory is fault → is_memory fault ≡ false → is fault
of_fault is NoMemory h other = absurd (true≢false other)
of_fault is fault h other = h

-- an answer that isn't want of memory is right
right_answer : (way : Way) (d : Diagram) (x y : Names) (answer : Result Answer TargetFault) → IsAnswered way d x y answer
    → is_wanting target_refusal answer ≡ false → IsForDiagram way d x y answer
right_answer way d x y (Ok a) h memory = h
right_answer way d x y (Err fault) h memory = of_fault (λ f. IsForDiagram way d x y (Err f)) fault h memory

pub first_told : {E : Type 0} (form : Form) (way : Way) (d : Diagram) (x y : Names) (answer : Result Answer TargetFault) → IsAnswered way d x y answer
    → (names : List (List ℕ)) (r : Result Reply E)
    → IfOk r (λ (p : Reply). p.outcome ≡ outcome_in evaluate_telling target_refusal answer)
    → IfOk r (λ (p : Reply). told_of p ≡ told_in evaluate_telling target_refusal form names answer)
    → OnOk r (is_wanting target_refusal answer ≡ false)
    → IfOk r (λ (p : Reply). Tells evaluate_telling target_refusal (IsForDiagram way d x y) form names p.outcome (told_of p))
first_told form way d x y answer is names (Err e) ends prints memory = tt
first_told form way d x y answer is names (Ok p) ends prints memory =
    record { answer = answer; right = right_answer way d x y answer is memory; ends = ends; prints = prints }
