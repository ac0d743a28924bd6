-- What may be asked for.
use Rattle.std.proofs.Common.{ℕ, List}
use Rattle.mixed_graph.specs.Vocabulary.{has, MixedGraph}
use Rattle.prob_expr.specs.Vocabulary.{PlainTarget}
use Rattle.do_rules.specs.Vocabulary.{AreThreeSets, AreFourSets}
use Rattle.treated_command.specs.declared.answer.Asked.{Asked as AskedAmong}
use Rattle.treated_command.specs.declared.fault.TreatedFault.{TreatedFault}
use Rattle.treated_command.specs.declared.fault.TreatedFault.TheVariants as treated_faults
use Rattle.treated_command.specs.Vocabulary.{IsSetsFaultOrMemory, MayBeAsked as MayBeAskedAmong}
use Rattle.treated_command.proofs.Sets.{target_of}
use Rattle.natural_command.specs.declared.answer.Asked.{Asked as AskedNested}
use Rattle.natural_command.specs.declared.fault.NaturalFault.{NaturalFault}
use Rattle.natural_command.specs.declared.fault.NaturalFault.TheVariants as natural_faults
use Rattle.natural_command.specs.Vocabulary.{IsQuestionFaultOrMemory, MayBeAsked as MayBeAskedNested}
use Rattle.natural_command.proofs.Ways.{target_of as nested_target_of}
use Rattle.part_check_command.specs.Decisions.{IsFaultAmong, IsFaultNested, UnlessWanting}
use Rattle.part_check_command.specs.Right.{IsNestedQuestion, IsTreatedQuestion, question_of, sets_of}
use Rattle.part_check_command.specs.declared.fault.Fault.TheVariants as faults

pub among_question : (q : MixedGraph) (t : PlainTarget) (a : AskedAmong) → AreThreeSets q.vertices (has t.x) (has t.y) (has t.given)
    → MayBeAskedAmong q (sets_of t) a → IsTreatedQuestion q t
among_question q t a sets may = record { target = target_of q t.x t.y t.given sets may.before; few = may.few }

pub nested_question : (q : MixedGraph) (t : PlainTarget) (m : ℕ) (a : AskedNested) → AreFourSets q.vertices (has t.x) (has t.y) (has m) (has t.given)
    → MayBeAskedNested q (question_of t m) a → IsNestedQuestion q t m
nested_question q t m a sets may = record { target = nested_target_of q (question_of t m) sets may.before; few = may.few }

-- ---- faults that aren't want of memory

pub known_of_sets : (q : MixedGraph) (names : List (List ℕ)) (t : PlainTarget) (fault : TreatedFault) → IsSetsFaultOrMemory q names (sets_of t) fault
    → UnlessWanting (IsFaultAmong q names t) (faults.Treated fault)
known_of_sets q names t (treated_faults.Listed f) h = λ known. h
known_of_sets q names t (treated_faults.After name) h = λ known. h
known_of_sets q names t treated_faults.TooMany h = λ known. h
known_of_sets q names t treated_faults.NoMemory h = λ known. absurd (cc known)

pub known_of_question : (q : MixedGraph) (names : List (List ℕ)) (t : PlainTarget) (m : ℕ) (fault : NaturalFault)
    → IsQuestionFaultOrMemory q names (question_of t m) fault → UnlessWanting (IsFaultNested q names t m) (faults.Natural fault)
known_of_question q names t m (natural_faults.Listed f) h = λ known. h
known_of_question q names t m natural_faults.NoMediator h = λ known. h
known_of_question q names t m (natural_faults.After name) h = λ known. h
known_of_question q names t m natural_faults.TooMany h = λ known. h
known_of_question q names t m natural_faults.NoMemory h = λ known. absurd (cc known)
