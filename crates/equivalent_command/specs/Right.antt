-- Which answers of `equivalent` are right: whether two graphs imply the same separations among their observed vertices, in which no edge is bidirected.
use Rattle.std.specs.Prelude.{ℕ, ◌≡◌, ◌<◌, ◌≤◌, List, length, Option, Some, None, Result, Ok, Err}
use Rattle.mixed_graph.specs.Vocabulary.{has, MixedGraph, graph_of}
use Rattle.m_separation.specs.declared.paths.OpenPath.{OpenPath}
use Rattle.m_separation.specs.Vocabulary.{IsSeparated, IsOpenPath}
use Rattle.dag_reader.specs.declared.graph.ReadGraph.{ReadGraph}
use Rattle.dag_reader.specs.declared.faults.GraphFault.{GraphFault}
use Rattle.dag_reader.specs.declared.faults.GraphFault.TheVariants as graphs
use Rattle.dag_reader.specs.Reads.{Reads}
use Rattle.targets.specs.declared.fault.TargetFault.{TargetFault}
use Rattle.targets.specs.declared.query.Sets.{Sets}
use Rattle.markov_equivalence.specs.declared.comparison.Difference.{Difference}
use Rattle.markov_equivalence.specs.Vocabulary.{HasArrowsAlone, AreEquivalent, IsEdgeDifference, IsColliderDifference, IsShown, HaveSameSeparations, HaveSameIndependences, IsOpenWithEndsOf}
use Rattle.diagram.specs.declared.diagram.Diagram.{Diagram}
use Rattle.replies.specs.Vocabulary.{HoldsDiagram}
use Rattle.equivalent_command.specs.Numbers.{HaveSameNames, on_names}
use Rattle.equivalent_command.specs.Faults.{IsBidirectedFault, IsNamesFault}
use Rattle.equivalent_command.specs.Requests.{Query}
use Rattle.equivalent_command.specs.Queries.{AreAsked, IsListsFault}
use Rattle.equivalent_command.specs.declared.answer.Answer.{Answer}
use Rattle.equivalent_command.specs.declared.answer.Answer.TheVariants.{Alike, Separated, Connected, Edge, Collider}
use Rattle.equivalent_command.specs.declared.second.SecondFault.{SecondFault}
use Rattle.equivalent_command.specs.declared.second.SecondFault.TheVariants.{TooLong, Faulty, Unlike, NoMemory}

-- ---- on the first diagram alone

-- the first diagram is accepted: the lists name these sets, and its observed graph has no bidirected edge
pub record IsAcceptedFirst (d : Diagram) (l : Option Query) (s : Option Sets) : Type 0 where
  pub asked : AreAsked d l s
  pub arrows : HasArrowsAlone (graph_of d.observed.graph)

-- what is wrong with the first diagram: a listed name is at fault, or a set is empty; or else the observed graph has a bidirected edge
pub data IsFirstGraphFault (d : Diagram) (l : Option Query) (f : TargetFault) : Type 0 where
  listed : IsListsFault d l f → IsFirstGraphFault d l f
  bidirected : (s : Option Sets) → AreAsked d l s → IsBidirectedFault (graph_of d.observed.graph) d.observed.names f → IsFirstGraphFault d l f

-- the first diagram alone has no answer, but may be refused
abbrev pub IsForFirst : Diagram → Option Query → Result Answer TargetFault → Type 0
IsForFirst d l (Ok a) = ⊥
IsForFirst d l (Err fault) = IsFirstGraphFault d l fault

-- ---- for two graphs that are compared

-- the same skeleton and the same unshielded colliders, hence the same separations: any sets are separated in the one graph exactly where they are in
-- the other; and the same independences in models
pub record AreAlike (p q : MixedGraph) : Type 0 where
  pub equivalent : AreEquivalent p q
  pub separations : HaveSameSeparations p q
  pub independences : HaveSameIndependences p q

-- in neither graph a walk from x to y is open given the third set
pub record AreSeparated (p q : MixedGraph) (s : Sets) : Type 0 where
  pub first : IsSeparated p (has s.x.bits) (has s.y.bits) (has s.given.bits)
  pub second : IsSeparated q (has s.x.bits) (has s.y.bits) (has s.given.bits)

-- a path from x to y is open in the first graph, and one with the same ends in the second
pub record AreConnected (p q : MixedGraph) (s : Sets) (first second : OpenPath) : Type 0 where
  pub open_first : IsOpenPath p (has s.x.bits) (has s.y.bits) (has s.given.bits) first.vertices first.marks first.count
  pub open_second : IsOpenWithEndsOf q (has s.given.bits) first second

-- a separation holds in one of the graphs alone; so there are sets that are independent in every model of the one and not in every model of the other
pub record AreDistinguished (p q : MixedGraph) (d : Difference) : Type 0 where
  pub shown : IsShown p q d
  pub independences : HaveSameIndependences p q → ⊥

-- what graphs that are alike say of the sets that are asked about
abbrev pub Agrees : (p q : MixedGraph) → Option Sets → Answer → Type 0
Agrees p q s Alike = s ≡ None
Agrees p q s (Separated of) = (s ≡ Some of) × AreSeparated p q of
Agrees p q s (Connected of first second) = (s ≡ Some of) × AreConnected p q of first second
Agrees p q s a = ⊥

-- the answer of two graphs: the first edge, or else the first unshielded collider, that one of them has alone; or else they are alike
abbrev pub Decides : (p q : MixedGraph) → Option Sets → Answer → Type 0
Decides p q s (Edge d) = IsEdgeDifference p q d × AreDistinguished p q d
Decides p q s (Collider d m) = IsColliderDifference p q d m × AreDistinguished p q d
Decides p q s a = AreAlike p q × Agrees p q s a

-- ---- for two observed graphs

-- they have no bidirected edge and the same names
pub record AreComparable (g h : ReadGraph) : Type 0 where
  pub first_arrows : HasArrowsAlone (graph_of g.graph)
  pub second_arrows : HasArrowsAlone (graph_of h.graph)
  pub names : HaveSameNames g.names h.names

-- the answer of two observed graphs that can be compared, the second on the numbers of the first one's names
pub record IsForGraphs (g h : ReadGraph) (s : Option Sets) (a : Answer) : Type 0 where
  pub comparable : AreComparable g h
  pub decided : Decides (graph_of g.graph) (on_names g.names h.names (graph_of h.graph)) s a

-- what is wrong with a second observed graph: a bidirected edge, or else a name that it or the first names have alone
pub data ObservedFault (names : List (List ℕ)) (q : MixedGraph) (others : List (List ℕ)) (f : TargetFault) : Type 0 where
  bidirected : IsBidirectedFault q others f → ObservedFault names q others f
  other_names : HasArrowsAlone q → IsNamesFault names others f → ObservedFault names q others f

-- ---- on the bytes of the second graph

-- the bytes are the text of a diagram's graph, and this is the answer of the two observed graphs
pub record IsForText (g : ReadGraph) (s : Option Sets) (second : List ℕ) (a : Answer) : Type 0 where
  pub diagram : Diagram
  pub holds : HoldsDiagram second diagram
  pub compared : IsForGraphs g diagram.observed s a

-- the bytes are no graph: their text has a fault
pub record IsFaulty (second bytes : List ℕ) (fault : GraphFault) : Type 0 where
  pub same : bytes ≡ second
  pub small : length second ≤ 1048576
  pub no_memory : fault ≡ graphs.NoMemory → ⊥
  pub reads : Reads second (Err fault)

-- the bytes are the text of a diagram's graph, which can't be compared with the first
pub record IsUnlike (g : ReadGraph) (second : List ℕ) (fault : TargetFault) : Type 0 where
  pub diagram : Diagram
  pub holds : HoldsDiagram second diagram
  pub unlike : ObservedFault g.names (graph_of diagram.observed.graph) diagram.observed.names fault

-- what is wrong with the bytes of a second graph
abbrev pub IsSecondFault : ReadGraph → List ℕ → SecondFault → Type 0
IsSecondFault g second TooLong = 1048576 < length second
IsSecondFault g second (Faulty bytes fault) = IsFaulty second bytes.now fault
IsSecondFault g second (Unlike fault) = IsUnlike g second fault
IsSecondFault g second NoMemory = ⊥

-- the answer of an observed graph that was accepted with sets, and the bytes of a second graph's text; or what is wrong with these
abbrev pub IsForSecond : ReadGraph → Option Sets → List ℕ → Result Answer SecondFault → Type 0
IsForSecond g s second (Ok a) = IsForText g s second a
IsForSecond g s second (Err fault) = IsSecondFault g second fault
