-- Which outcomes a command answers.
use Rattle.replies.specs.declared.outcome.Outcome.{Outcome}
use Rattle.replies.specs.declared.outcome.Outcome.TheVariants.{Yes, No, Words, Graph, Second, Evaluation, Read, Write, Memory}
use Rattle.replies.specs.Outcomes.{IsAnswered}

-- what holds of no outcome that is a run's alone holds of those that a command answers
pub answered : (P : Outcome → Type 0) → (P Words → ⊥) → (P Read → ⊥) → (P Write → ⊥) → (P Memory → ⊥) → (o : Outcome) → P o → IsAnswered o
answered P words read write memory Yes h = tt
answered P words read write memory No h = tt
answered P words read write memory Graph h = tt
answered P words read write memory Second h = tt
answered P words read write memory Evaluation h = tt
answered P words read write memory Words h = words h
answered P words read write memory Read h = read h
answered P words read write memory Write h = write h
answered P words read write memory Memory h = memory h
