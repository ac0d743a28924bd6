-- From the answer on a diagram, or from the fault of a graph text, to the defined answer.
use Rattle.std.proofs.Common.{◌≡◌, ℕ, ◌≤◌, List, Result, Ok, Err, IfOk, length, inr, sym, subst}
use Rattle.std.specs.Prelude.{OnOk}
use Rattle.dag_reader.specs.declared.faults.GraphFault.{GraphFault}
use Rattle.dag_reader.specs.declared.faults.GraphFault.TheVariants.{NoMemory}
use Rattle.dag_reader.specs.Reads.{Reads}
use Rattle.diagram.specs.declared.diagram.Diagram.{Diagram}
use Rattle.replies.specs.declared.outcome.Reply.{Reply}
use Rattle.replies.specs.declared.outcome.Outcome.{Outcome}
use Rattle.replies.specs.declared.outcome.Outcome.TheVariants.{Graph, Memory}
use Rattle.replies.specs.Vocabulary.{told_of, HoldsDiagram, graph_told, size_told, faulty}
use Rattle.replies.specs.Told.{Told}
use Rattle.command_run.specs.Commands.{CommandSet, Request}
use Rattle.command_run.specs.Answers.{DiagramAnswer, HoldsAnswer, Defined, RefusesAs, RefusesBytes}
use Rattle.command_run.specs.Ends.{IsMade, IsTooLong, IsTooLongAs}

held : (s : CommandSet) (w : Request s) (bytes : List ℕ) (o : Outcome) (text : Told) → HoldsAnswer s w bytes o text → Defined s w bytes o text
held s w bytes Graph text h = inr h
held s w bytes o text h = h

-- the answer on the diagram that the bytes hold
pub defined_on : (s : CommandSet) (w : Request s) (bytes : List ℕ) (d : Diagram) (o : Outcome) (text : Told) → HoldsDiagram bytes d
    → DiagramAnswer s w d o text → Defined s w bytes o text
defined_on s w bytes d o text h a = held s w bytes o text (record { diagram = d; holds = h; answer = a })

-- memory was refused for the diagram
pub refused_memory : (bytes : List ℕ) (reply : Reply) → reply.outcome ≡ Memory → RefusesBytes bytes reply
refused_memory bytes reply is = subst (λ (o : Outcome). RefusesAs bytes o (told_of reply)) (sym is) tt

-- bytes with a fault are refused
pub refused_fault : {E : Type 0} (bytes : List ℕ) (f : GraphFault) (r : Result Reply E) (reply : Reply) → length bytes ≤ 1048576 → Reads bytes (Err f)
    → IfOk r (λ (made : Reply). made.outcome ≡ Graph) → IfOk r (λ (made : Reply). told_of made ≡ graph_told bytes f)
    → OnOk r (f ≡ NoMemory → ⊥) → IsMade r reply → RefusesBytes bytes reply
refused_fault bytes f (Err e) reply small reads v l n is = refused_memory bytes reply is
refused_fault bytes f (Ok made) reply small reads v l n is = subst (λ (p : Reply). RefusesBytes bytes p) (sym is)
    (subst (λ (o : Outcome). RefusesAs bytes o (told_of made)) (sym v) (faulty f small n reads l))

-- so are bytes that are too many
pub refused_size : {E : Type 0} (r : Result Reply E) (reply : Reply) → IfOk r (λ (made : Reply). made.outcome ≡ Graph)
    → IfOk r (λ (made : Reply). told_of made ≡ size_told) → IsMade r reply → IsTooLong reply
refused_size (Err e) reply v l is = subst (λ (o : Outcome). IsTooLongAs o (told_of reply)) (sym is) tt
refused_size (Ok made) reply v l is = subst (λ (p : Reply). IsTooLong p) (sym is) (subst (λ (o : Outcome). IsTooLongAs o (told_of made)) (sym v) l)
