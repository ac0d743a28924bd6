-- What the lists of a query stand for: sets of the first diagram. And sets of vertices.
use Rattle.std.specs.Prelude.{ℕ, Option, Some, None}
use Rattle.mixed_graph.specs.Vocabulary.{has, Within}
use Rattle.targets.specs.declared.query.Sets.{Sets}
use Rattle.targets.specs.declared.fault.TargetFault.{TargetFault}
use Rattle.targets.specs.Vocabulary.{Lists, AreSets, IsTargetFault}
use Rattle.diagram.specs.declared.diagram.Diagram.{Diagram}
use Rattle.diagram.specs.Vocabulary.{query_lists}
use Rattle.equivalent_command.specs.Requests.{Query}

-- the lists, with the names of the diagram and those of its observed vertices
abbrev pub lists_on : Diagram → Query → Lists
lists_on d q = query_lists d.read d.observed.names (Some q.x) (Some q.y) (Some q.given)

-- the lists of the query name these sets; without a query there are no sets
abbrev pub AreAsked : Diagram → Option Query → Option Sets → Type 0
AreAsked d None None = Unit {0}
AreAsked d None (Some s) = ⊥
AreAsked d (Some q) None = ⊥
AreAsked d (Some q) (Some s) = AreSets (lists_on d q) s.x.bits s.y.bits s.given.bits

-- a listed name is at fault, or a set is empty
abbrev pub IsListsFault : Diagram → Option Query → TargetFault → Type 0
IsListsFault d None f = ⊥
IsListsFault d (Some q) f = IsTargetFault (lists_on d q) f

-- the sets are among n vertices
pub record AreBelow (n : ℕ) (s : Sets) : Type 0 where
  pub x : Within n (has s.x.bits)
  pub y : Within n (has s.y.bits)
  pub given : Within n (has s.given.bits)
