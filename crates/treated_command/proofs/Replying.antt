-- From an answer, or its fault, to what is told.
use Rattle.std.proofs.Common.{◌≡◌, ℕ, Bool, false, List, Result, Ok, Err, IfOk, ap, ◌∙◌}
use Rattle.std.specs.Prelude.{IfErr, OnOk}
use Rattle.mixed_graph.specs.Vocabulary.{MixedGraph, name_of}
use Rattle.targets.specs.declared.query.Sets.{Sets}
use Rattle.targets.specs.Vocabulary.{Lists, AreListedSets, IsListFault}
use Rattle.targets.proofs.Faults.{not_memory}
use Rattle.replies.specs.declared.outcome.Reply.{Reply}
use Rattle.replies.specs.Vocabulary.{told_of}
use Rattle.told.specs.declared.form.Form.{Form}
use Rattle.told.specs.Vocabulary.{is_memory, Tells, outcome_in, told_in, is_wanting}
use Rattle.treated_command.specs.declared.answer.Answer.{Answer}
use Rattle.treated_command.specs.declared.fault.TreatedFault.{TreatedFault}
use Rattle.treated_command.specs.declared.fault.TreatedFault.TheVariants.{Listed, After, TooMany, NoMemory}
use Rattle.treated_command.specs.Faults.{treated_refusal, IsAfterOrMemory}
use Rattle.treated_command.specs.Right.{IsForSets, IsOfSets, IsLowestAfter, IsSetsFaultOrMemory, IsFaultOrMemory, IsForNames}
use Rattle.treated_command.specs.Telling.{treated_telling}

-- a fault that isn't want of memory is that of the lists
right_of : (certified : Bool) (q : MixedGraph) (l : Lists) (a : Result Answer TreatedFault) → IfOk a (λ (b : Answer). IsOfSets l (λ s. IsForSets certified q s b))
    → IfErr a (IsFaultOrMemory q l) → is_wanting treated_refusal a ≡ false → IsForNames certified q l a
right_of certified q l (Ok b) ok fault memory = ok
right_of certified q l (Err (Listed f)) ok fault memory = not_memory (IsListFault l) f (λ e. let t = ap is_memory e in absurd (cc (t, memory))) fault
right_of certified q l (Err (After name)) ok fault memory = fault
right_of certified q l (Err TooMany) ok fault memory = fault
right_of certified q l (Err NoMemory) ok fault memory = absurd (cc memory)

-- the reply tells it
pub tells : {E : Type 0} (certified : Bool) (q : MixedGraph) (l : Lists) (form : Form) (names : List (List ℕ)) (a : Result Answer TreatedFault)
    → IfOk a (λ (b : Answer). IsOfSets l (λ s. IsForSets certified q s b)) → IfErr a (IsFaultOrMemory q l)
    → (r : Result Reply E) → IfOk r (λ (p : Reply). p.outcome ≡ outcome_in treated_telling treated_refusal a)
    → IfOk r (λ (p : Reply). told_of p ≡ told_in treated_telling treated_refusal form names a) → OnOk r (is_wanting treated_refusal a ≡ false)
    → IfOk r (λ (p : Reply). Tells treated_telling treated_refusal (IsForNames certified q l) form names p.outcome (told_of p))
tells certified q l form names a ok fault (Ok p) outcome told memory =
    record { answer = a; right = right_of certified q l a ok fault memory; ends = outcome; prints = told }
tells certified q l form names a ok fault (Err e) outcome told memory = tt

-- a fault of the sets that lists name is one of the lists
pub of_lists : (q : MixedGraph) (l : Lists) (s : Sets) → AreListedSets l s.x.bits s.y.bits s.given.bits → (fault : TreatedFault)
    → IsSetsFaultOrMemory q l.observed s fault → IsFaultOrMemory q l fault
of_lists q l s named (Listed f) h = absurd h
of_lists q l s named (After name) h = record { sets = s; named = named; is = h }
of_lists q l s named TooMany h = record { sets = s; named = named; is = h }
of_lists q l s named NoMemory h = tt

pub fault_of_lists : (q : MixedGraph) (l : Lists) (s : Sets) → AreListedSets l s.x.bits s.y.bits s.given.bits → (r : Result Answer TreatedFault)
    → IfErr r (IsSetsFaultOrMemory q l.observed s) → IfErr r (IsFaultOrMemory q l)
fault_of_lists q l s named (Ok b) h = tt
fault_of_lists q l s named (Err fault) h = of_lists q l s named fault h

pub answer_of_lists : (certified : Bool) (q : MixedGraph) (l : Lists) (s : Sets) → AreListedSets l s.x.bits s.y.bits s.given.bits → (r : Result Answer TreatedFault)
    → IfOk r (IsForSets certified q s) → IfOk r (λ (b : Answer). IsOfSets l (λ t. IsForSets certified q t b))
answer_of_lists certified q l s named (Ok b) h = record { sets = s; named = named; is = h }
answer_of_lists certified q l s named (Err fault) h = tt

-- the fault of the lowest member that comes after x
pub lowest_named : (q : MixedGraph) (names : List (List ℕ)) (s : Sets) (v : ℕ) (name : List ℕ) → IsLowestAfter q s.x.bits s.given.bits v
    → name ≡ name_of names v → (fault : TreatedFault) → IsAfterOrMemory name fault → IsSetsFaultOrMemory q names s fault
lowest_named q names s v name low is (Listed f) h = absurd h
lowest_named q names s v name low is (After t) h = record { vertex = v; lowest = low; is = h ∙ is }
lowest_named q names s v name low is TooMany h = absurd h
lowest_named q names s v name low is NoMemory h = tt
