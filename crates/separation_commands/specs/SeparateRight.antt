-- Which answers of `separate` are right: whether x and y are separated given w, in the observed graph of the one that was read.
use Rattle.std.specs.Prelude.{◌≡◌, Result, Ok, Err}
use Rattle.mixed_graph.specs.Vocabulary.{has, MixedGraph, graph_of}
use Rattle.m_separation.specs.declared.paths.OpenPath.{OpenPath}
use Rattle.m_separation.specs.Vocabulary.{IsSeparated, IsOpenPath}
use Rattle.do_rules.specs.Vocabulary.{AreIndependent, AreDependent}
use Rattle.targets.specs.declared.query.Sets.{Sets}
use Rattle.targets.specs.declared.fault.TargetFault.{TargetFault}
use Rattle.targets.specs.Vocabulary.{Lists, AreSets, IsTargetFault}
use Rattle.diagram.specs.declared.diagram.Diagram.{Diagram}
use Rattle.diagram.specs.Vocabulary.{Names, query_lists}
use Rattle.separation_commands.specs.declared.separate.answer.Answer.{Answer}
use Rattle.separation_commands.specs.declared.separate.answer.Answer.TheVariants.{Separated, Connected}

-- no walk from x to y is open given w, and x and y are independent given w in each model that fits q, positive or not
pub record AreSeparated (q : MixedGraph) (s : Sets) : Type 0 where
  pub apart : IsSeparated q (has s.x.bits) (has s.y.bits) (has s.given.bits)
  pub independent : AreIndependent q (has s.x.bits) (has s.y.bits) (has s.given.bits)

-- this path is open, and x and y are dependent given w in some positive model that fits q
pub record AreConnected (q : MixedGraph) (s : Sets) (path : OpenPath) : Type 0 where
  pub open_path : IsOpenPath q (has s.x.bits) (has s.y.bits) (has s.given.bits) path.vertices path.marks path.count
  pub dependent : AreDependent q (has s.x.bits) (has s.y.bits) (has s.given.bits)

-- the answer for these sets of the observed graph q
abbrev pub Decides : MixedGraph → Sets → Answer → Type 0
Decides q s (Separated of) = (of ≡ s) × AreSeparated q s
Decides q s (Connected of path) = (of ≡ s) × AreConnected q s path

-- the answer for the sets that lists name
pub record IsForLists (q : MixedGraph) (l : Lists) (a : Answer) : Type 0 where
  pub sets : Sets
  pub named : AreSets l sets.x.bits sets.y.bits sets.given.bits
  pub decided : Decides q sets a

-- the answer for lists of names, or the fault of these
abbrev pub IsForNames : MixedGraph → Lists → Result Answer TargetFault → Type 0
IsForNames q l (Ok a) = IsForLists q l a
IsForNames q l (Err fault) = IsTargetFault l fault

-- the answer on a diagram, in its observed graph: for the lists that are given, or else the exposures, the outcomes and the adjusted vertices
abbrev pub IsSeparateAnswer : Diagram → (x y given : Names) → Result Answer TargetFault → Type 0
IsSeparateAnswer d x y given = IsForNames (graph_of d.observed.graph) (query_lists d.read d.observed.names x y given)
