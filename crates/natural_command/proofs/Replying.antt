-- From an answer, or its fault, to what is told.
use Rattle.std.proofs.Common.{◌≡◌, ℕ, Bool, false, List, Result, Ok, Err, IfOk, ap, ◌∙◌}
use Rattle.std.specs.Prelude.{IfErr, OnOk}
use Rattle.mixed_graph.specs.Vocabulary.{MixedGraph, name_of}
use Rattle.targets.proofs.Faults.{not_memory}
use Rattle.replies.specs.declared.outcome.Reply.{Reply}
use Rattle.replies.specs.Vocabulary.{told_of}
use Rattle.told.specs.declared.form.Form.{Form}
use Rattle.told.specs.Vocabulary.{is_memory, Tells, outcome_in, told_in, is_wanting}
use Rattle.natural_command.specs.declared.asking.Question.{Question}
use Rattle.natural_command.specs.declared.answer.Answer.{Answer}
use Rattle.natural_command.specs.declared.fault.NaturalFault.{NaturalFault}
use Rattle.natural_command.specs.declared.fault.NaturalFault.TheVariants.{Listed, NoMediator, After, TooMany, NoMemory}
use Rattle.natural_command.specs.Asking.{NaturalLists, AreNamed, IsNamesFault, IsListsFaultOrMemory}
use Rattle.natural_command.specs.Faults.{natural_refusal, IsAfterOrMemory}
use Rattle.natural_command.specs.Right.{IsForQuestion, IsOfQuestion, IsLowestAfter, IsQuestionFaultOrMemory, IsFaultOrMemory, IsForNames}
use Rattle.natural_command.specs.Telling.{natural_telling}

-- a fault that isn't want of memory is that of the lists
right_of : (certified : Bool) (g : MixedGraph) (l : NaturalLists) (a : Result Answer NaturalFault)
    → IfOk a (λ (b : Answer). IsOfQuestion l (λ q. IsForQuestion certified g q b))
    → IfErr a (IsFaultOrMemory g l) → is_wanting natural_refusal a ≡ false → IsForNames certified g l a
right_of certified g l (Ok b) ok fault memory = ok
right_of certified g l (Err (Listed f)) ok fault memory = not_memory (IsNamesFault l) f (λ e. let t = ap is_memory e in absurd (cc (t, memory))) fault
right_of certified g l (Err NoMediator) ok fault memory = fault
right_of certified g l (Err (After name)) ok fault memory = fault
right_of certified g l (Err TooMany) ok fault memory = fault
right_of certified g l (Err NoMemory) ok fault memory = absurd (cc memory)

-- the reply tells it
pub tells : {E : Type 0} (certified : Bool) (g : MixedGraph) (l : NaturalLists) (form : Form) (names : List (List ℕ)) (a : Result Answer NaturalFault)
    → IfOk a (λ (b : Answer). IsOfQuestion l (λ q. IsForQuestion certified g q b)) → IfErr a (IsFaultOrMemory g l)
    → (r : Result Reply E) → IfOk r (λ (p : Reply). p.outcome ≡ outcome_in natural_telling natural_refusal a)
    → IfOk r (λ (p : Reply). told_of p ≡ told_in natural_telling natural_refusal form names a) → OnOk r (is_wanting natural_refusal a ≡ false)
    → IfOk r (λ (p : Reply). Tells natural_telling natural_refusal (IsForNames certified g l) form names p.outcome (told_of p))
tells certified g l form names a ok fault (Ok p) outcome told memory =
    record { answer = a; right = right_of certified g l a ok fault memory; ends = outcome; prints = told }
tells certified g l form names a ok fault (Err e) outcome told memory = tt

-- a fault of lists is one of these
pub of_names : (g : MixedGraph) (l : NaturalLists) (fault : NaturalFault) → IsListsFaultOrMemory l fault → IsFaultOrMemory g l fault
of_names g l (Listed f) h = h
of_names g l NoMediator h = h
of_names g l (After name) h = absurd h
of_names g l TooMany h = absurd h
of_names g l NoMemory h = tt

-- a fault of the question that lists ask is one of the lists
of_lists : (g : MixedGraph) (l : NaturalLists) (q : Question) → AreNamed l q → (fault : NaturalFault)
    → IsQuestionFaultOrMemory g l.query.observed q fault → IsFaultOrMemory g l fault
of_lists g l q named (Listed f) h = absurd h
of_lists g l q named NoMediator h = absurd h
of_lists g l q named (After name) h = record { question = q; named = named; is = h }
of_lists g l q named TooMany h = record { question = q; named = named; is = h }
of_lists g l q named NoMemory h = tt

pub fault_of_lists : (g : MixedGraph) (l : NaturalLists) (q : Question) → AreNamed l q → (r : Result Answer NaturalFault)
    → IfErr r (IsQuestionFaultOrMemory g l.query.observed q) → IfErr r (IsFaultOrMemory g l)
fault_of_lists g l q named (Ok b) h = tt
fault_of_lists g l q named (Err fault) h = of_lists g l q named fault h

pub answer_of_lists : (certified : Bool) (g : MixedGraph) (l : NaturalLists) (q : Question) → AreNamed l q → (r : Result Answer NaturalFault)
    → IfOk r (IsForQuestion certified g q) → IfOk r (λ (b : Answer). IsOfQuestion l (λ t. IsForQuestion certified g t b))
answer_of_lists certified g l q named (Ok b) h = record { question = q; named = named; is = h }
answer_of_lists certified g l q named (Err fault) h = tt

-- the fault of the lowest member that comes after x
pub lowest_named : (g : MixedGraph) (names : List (List ℕ)) (q : Question) (v : ℕ) (name : List ℕ) → IsLowestAfter g q v
    → name ≡ name_of names v → (fault : NaturalFault) → IsAfterOrMemory name fault → IsQuestionFaultOrMemory g names q fault
lowest_named g names q v name low is (Listed f) h = absurd h
lowest_named g names q v name low is NoMediator h = absurd h
lowest_named g names q v name low is (After t) h = record { vertex = v; lowest = low; is = h ∙ is }
lowest_named g names q v name low is TooMany h = absurd h
lowest_named g names q v name low is NoMemory h = tt
