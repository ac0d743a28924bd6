-- What is known before counts are read.
use Rattle.std.specs.Prelude.{ℕ, List, ◌++◌, Result, Ok, Err}
use Rattle.json.specs.Json.{Json}
use Rattle.mixed_graph.specs.Vocabulary.{has, MixedGraph, graph_of}
use Rattle.targets.specs.declared.fault.TargetFault.{TargetFault}
use Rattle.targets.specs.Vocabulary.{OrMemory, AreSets}
use Rattle.diagram.specs.declared.diagram.Diagram.{Diagram}
use Rattle.replies.specs.declared.outcome.Outcome.TheVariants.{No}
use Rattle.replies.specs.Vocabulary.{told_of}
use Rattle.told.specs.Vocabulary.{plain_form, target_refusal, Tells}
use Rattle.told.specs.Telling.{Telling}
use Rattle.adjustment.specs.Vocabulary.{IsAdjustmentFault}
use Rattle.adjust_command.specs.Vocabulary.{not_admissible_text, not_admissible_members}
use Rattle.natural_bounds.specs.declared.instruments.InstrumentFault.{InstrumentFault}
use Rattle.natural_bounds.specs.Vocabulary.{fixed, IsInstrumentFault}
use Rattle.bound_values.specs.declared.questions.Question.{Question}
use Rattle.bound_values.specs.Vocabulary.{asked_of}
use Rattle.bounds_command.specs.declared.first.Unmet.{Unmet}
use Rattle.bounds_command.specs.declared.first.Unmet.TheVariants.{NoInstrument, NotAdmissible}
use Rattle.bounds_command.specs.declared.first.First.{First}
use Rattle.bounds_command.specs.declared.first.First.TheVariants as first
use Rattle.bounds_command.specs.declared.first.QuestionOrReply.{QuestionOrReply}
use Rattle.bounds_command.specs.declared.first.QuestionOrReply.TheVariants.{Replied, Asked}
use Rattle.bounds_command.specs.Requests.{Request}
use Rattle.bounds_command.specs.Sentences.{refused_text, why_text, refused_members, why_members}
use Rattle.bounds_command.specs.Asking.{AskedLists, of_instruments, of_set, asked_lists, AreNamed, HasInstrument, IsAskedFault, IsAsked}

-- ---- what is told

-- the sets, and why they are no instrument's; or the set, and why it isn't admissible
abbrev pub unmet_text : List (List ℕ) → Unmet → List ℕ
unmet_text names (NoInstrument q fault) = refused_text names q ++ why_text names fault
unmet_text names (NotAdmissible s fault) = not_admissible_text names s.given.bits fault

-- the same as members
abbrev pub unmet_members : List (List ℕ) → Unmet → List (List ℕ × Json)
unmet_members names (NoInstrument q fault) = refused_members names q ++ why_members names fault
unmet_members names (NotAdmissible s fault) = not_admissible_members names s.x.bits s.y.bits s.given.bits fault

-- no
abbrev pub unmet_telling : Telling Unmet
unmet_telling = record { outcome = λ a. No; text = λ w. unmet_text; members = λ w. unmet_members }

-- ---- what is right

-- the sets of a question are no instrument's, and this is why
pub record HasNoInstrument (g : MixedGraph) (q : Question) (fault : InstrumentFault) : Type 0 where
  pub is_fault : IsInstrumentFault g (asked_of q).x (asked_of q).y (asked_of q).z (fixed (asked_of q)) fault
  pub none : HasInstrument g q → ⊥

-- the sets that the lists name are no instrument's; or the set that they name isn't admissible: this breaks the adjustment criterion
abbrev pub IsUnmet : MixedGraph → AskedLists → Unmet → Type 0
IsUnmet g (of_instruments l) (NoInstrument q fault) = AreNamed l q × HasNoInstrument g q fault
IsUnmet g (of_instruments l) (NotAdmissible s fault) = ⊥
IsUnmet g (of_set l) (NoInstrument q fault) = ⊥
IsUnmet g (of_set l) (NotAdmissible s fault) = AreSets l s.x.bits s.y.bits s.given.bits
    × IsAdjustmentFault g (has s.x.bits) (has s.y.bits) (has s.given.bits) fault

-- so it is, or the lists have a fault
abbrev pub IsNotAsked : MixedGraph → AskedLists → Result Unmet TargetFault → Type 0
IsNotAsked g l (Ok a) = IsUnmet g l a
IsNotAsked g l (Err fault) = IsAskedFault l fault

-- the lists ask for this; or the answer is given, in whose place want of memory may stand
abbrev pub IsFirst : MixedGraph → AskedLists → First → Type 0
IsFirst g l (first.Asked q) = IsAsked g l q
IsFirst g l (first.Answered (Ok a)) = IsUnmet g l a
IsFirst g l (first.Answered (Err fault)) = OrMemory (IsAskedFault l) fault

-- the lists of a request on a diagram
abbrev pub lists_of : Request → Diagram → AskedLists
lists_of q d = asked_lists q.way d q.x q.y

-- the answer is given, or the lists ask for this
abbrev pub IsQuestionOrReply : Diagram → Request → QuestionOrReply → Type 0
IsQuestionOrReply d q (Replied r) = Tells unmet_telling target_refusal (IsNotAsked (graph_of d.observed.graph) (lists_of q d)) (plain_form q.format)
    d.observed.names r.outcome (told_of r)
IsQuestionOrReply d q (Asked b) = IsAsked (graph_of d.observed.graph) (lists_of q d) b
