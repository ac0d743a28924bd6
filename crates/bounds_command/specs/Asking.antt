-- What the lists of `bounds` ask for.
use Rattle.std.specs.Prelude.{ℕ, ◌≡◌, List, ◌++◌, Option, Some, None}
use Rattle.mixed_graph.specs.Vocabulary.{has, MixedGraph}
use Rattle.targets.specs.declared.fault.TargetFault.{TargetFault}
use Rattle.targets.specs.Vocabulary.{Lists, NameFault, IsListedSet, AreSets, IsTargetFault}
use Rattle.further_lists.specs.Vocabulary.{IsFaultOfAll, further_fault}
use Rattle.diagram.specs.declared.diagram.Diagram.{Diagram}
use Rattle.diagram.specs.Vocabulary.{Names, query_lists}
use Rattle.adjustment.specs.Vocabulary.{IsAdmissible}
use Rattle.natural_bounds.specs.Vocabulary.{fixed, IsInstrument}
use Rattle.bound_values.specs.declared.questions.Question.{Question}
use Rattle.bound_values.specs.declared.questions.Method.TheVariants.{Instruments, Adjustment}
use Rattle.bound_values.specs.Vocabulary.{asked_of}
use Rattle.bounds_command.specs.Ways.{Way, by_instruments, by_adjusting}

-- ---- lists

-- the lists of a query, and those of the instruments and the strata
pub record BoundLists : Type 0 where
  pub query : Lists
  pub instruments : List (List ℕ)
  pub strata : List (List ℕ)

-- the lists on a diagram: those that are given, or else the exposures and the outcomes
abbrev pub bound_lists : Diagram → (x y : Names) → (given instruments strata : List (List ℕ)) → BoundLists
bound_lists d x y given instruments strata = record {
  query = query_lists d.read d.observed.names x y (Some given);
  instruments = instruments;
  strata = strata;
}

-- the lists of either way: those with instruments; or those of a query, of which the third is the set that is adjusted for
pub data AskedLists : Type 0 where
  of_instruments : BoundLists → AskedLists
  of_set : Lists → AskedLists

-- the lists on a diagram, by the way that is asked for
abbrev pub asked_lists : Way → Diagram → (x y : Names) → AskedLists
asked_lists (by_instruments given instruments strata) d x y = of_instruments (bound_lists d x y given instruments strata)
asked_lists (by_adjusting set) d x y = of_set (query_lists d.read d.observed.names x y (Some set))

-- ---- their faults

-- the first name at fault of the instruments and then of the strata, where x, y and given were walked before
abbrev pub later_fault : BoundLists → Option NameFault
later_fault l = further_fault l.query (l.instruments ++ l.strata)

-- the fault of lists: that of x, y and given, or else of the others
abbrev pub IsBoundFault : BoundLists → TargetFault → Type 0
IsBoundFault l = IsFaultOfAll l.query (l.instruments ++ l.strata)

-- the same in either way
abbrev pub IsAskedFault : AskedLists → TargetFault → Type 0
IsAskedFault (of_instruments l) fault = IsBoundFault l fault
IsAskedFault (of_set l) fault = IsTargetFault l fault

-- ---- what they ask for

-- the question asks for the sets that the lists name, by the instruments
pub record AreNamed (l : BoundLists) (q : Question) : Type 0 where
  pub query : AreSets l.query q.x.bits q.y.bits q.given.bits
  pub no_fault : later_fault l ≡ None
  pub instruments : IsListedSet l.query.observed l.instruments q.instruments.bits
  pub strata : IsListedSet l.query.observed l.strata q.strata.bits
  pub method : q.method ≡ Instruments

-- the sets of a question are an instrument's
abbrev pub HasInstrument : MixedGraph → Question → Type 0
HasInstrument g q = IsInstrument g (asked_of q).x (asked_of q).y (asked_of q).z (fixed (asked_of q))

-- the lists ask for this in a graph: its sets are an instrument's
pub record IsByInstruments (g : MixedGraph) (l : BoundLists) (q : Question) : Type 0 where
  pub named : AreNamed l q
  pub instrument : HasInstrument g q

-- the question asks for x and y by adjusting for the set, which is its strata; there is no condition, and no instrument
pub record IsOfSet (l : Lists) (q : Question) : Type 0 where
  pub sets : AreSets l q.x.bits q.y.bits q.strata.bits
  pub no_condition : q.given.bits ≡ 0
  pub no_instrument : q.instruments.bits ≡ 0
  pub method : q.method ≡ Adjustment

-- the lists ask for this in a graph: its strata are those of an admissible set
pub record IsByAdjusting (g : MixedGraph) (l : Lists) (q : Question) : Type 0 where
  pub named : IsOfSet l q
  pub admissible : IsAdmissible g (has q.x.bits) (has q.y.bits) (has q.strata.bits)

-- one of these
abbrev pub IsAsked : MixedGraph → AskedLists → Question → Type 0
IsAsked g (of_instruments l) q = IsByInstruments g l q
IsAsked g (of_set l) q = IsByAdjusting g l q
