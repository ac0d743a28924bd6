-- The reply tells the answer, or the fault.
use Rattle.std.proofs.Common.{◌≡◌, ℕ, false, List, Some, Result, Ok, Err, IfOk, ap}
use Rattle.std.specs.Prelude.{OnOk}
use Rattle.targets.specs.Vocabulary.{IsListFault}
use Rattle.targets.proofs.Faults.{not_memory}
use Rattle.diagram.specs.declared.diagram.Diagram.{Diagram}
use Rattle.diagram.specs.Vocabulary.{query_lists}
use Rattle.replies.specs.declared.outcome.Reply.{Reply}
use Rattle.replies.specs.Vocabulary.{told_of}
use Rattle.told.specs.declared.form.Form.{Form}
use Rattle.told.specs.Vocabulary.{is_memory, Tells, outcome_in, told_in, is_wanting}
use Rattle.treated_command.specs.Requests.{Request}
use Rattle.treated_command.specs.Vocabulary.{treated_refusal, treated_telling}
use Rattle.treated_command.specs.declared.answer.Answer.{Answer}
use Rattle.treated_command.specs.declared.fault.TreatedFault.{TreatedFault}
use Rattle.treated_command.specs.declared.fault.TreatedFault.TheVariants.{Listed, After, TooMany, NoMemory}
use Rattle.evaluate_treated.specs.First.{IsAnswered, IsForDiagram}

-- an answer that isn't want of memory is right
right_answer : (d : Diagram) (q : Request) (r : Result Answer TreatedFault) → IsAnswered d q r → is_wanting treated_refusal r ≡ false → IsForDiagram d q r
right_answer d q (Ok a) h memory = h
right_answer d q (Err (Listed f)) h memory = (
  not_memory (IsListFault (query_lists d.read d.observed.names q.x q.y (Some q.given))) f (λ e. let t = ap is_memory e in absurd (cc (t, memory))) h,
  tt,
)
right_answer d q (Err (After name)) h memory = (h, tt)
right_answer d q (Err TooMany) h memory = (h, tt)
right_answer d q (Err NoMemory) h memory = absurd (cc memory)

pub first_told : {E : Type 0} (d : Diagram) (q : Request) (form : Form) (names : List (List ℕ)) (a : Result Answer TreatedFault) → IsAnswered d q a
    → (r : Result Reply E) → IfOk r (λ (p : Reply). p.outcome ≡ outcome_in treated_telling treated_refusal a)
    → IfOk r (λ (p : Reply). told_of p ≡ told_in treated_telling treated_refusal form names a) → OnOk r (is_wanting treated_refusal a ≡ false)
    → IfOk r (λ (p : Reply). Tells treated_telling treated_refusal (IsForDiagram d q) form names p.outcome (told_of p))
first_told d q form names a is (Ok p) ends prints memory = record { answer = a; right = right_answer d q a is memory; ends = ends; prints = prints }
first_told d q form names a is (Err e) ends prints memory = tt
