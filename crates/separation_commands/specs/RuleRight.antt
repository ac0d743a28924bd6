-- Which answers of `rule` are right: whether a rule of the do-calculus holds, in the observed graph of the one that was read.
use Rattle.std.specs.Prelude.{◌≡◌, List, ℕ, Result, Ok, Err}
use Rattle.mixed_graph.specs.declared.mixed.Graph.{Graph}
use Rattle.mixed_graph.specs.Vocabulary.{has, MixedGraph, graph_of}
use Rattle.m_separation.specs.declared.paths.OpenPath.{OpenPath}
use Rattle.do_rules.specs.declared.rules.Rule.{Rule}
use Rattle.do_rules.specs.Vocabulary.{IsRuleGraph, IsBlockedFor, IsRuleFor, IsOpenFor, DifferSomewhere, left_of, right_of}
use Rattle.targets.specs.declared.query.RuleSets.{RuleSets}
use Rattle.targets.specs.declared.fault.TargetFault.{TargetFault}
use Rattle.targets.specs.Vocabulary.{RuleLists, AreRuleSets, IsRuleFault}
use Rattle.diagram.specs.declared.diagram.Diagram.{Diagram}
use Rattle.diagram.specs.Vocabulary.{rule_lists}
use Rattle.separation_commands.specs.declared.rule.answer.Answer.{Answer}
use Rattle.separation_commands.specs.declared.rule.answer.Answer.TheVariants.{Holds, Fails}

-- this is the graph in which the rule asks for separation
abbrev pub IsCut : Rule → MixedGraph → RuleSets → (cut : Graph) → Type 0
IsCut r q s cut = IsRuleGraph r q (has s.x.bits) (has s.z.bits) (has s.given.bits) (graph_of cut)

-- what the rule asks is so, and its equation holds in each positive model that fits q
pub record IsHeld (r : Rule) (q : MixedGraph) (s : RuleSets) : Type 0 where
  pub blocked : IsBlockedFor r q (has s.x.bits) (has s.y.bits) (has s.z.bits) (has s.given.bits)
  pub equation : IsRuleFor r q (has s.x.bits) (has s.y.bits) (has s.z.bits) (has s.given.bits)

-- this path is open in the cut graph of the rule, and its equation fails in some positive model that fits q
pub record IsFailed (r : Rule) (q : MixedGraph) (s : RuleSets) (path : OpenPath) : Type 0 where
  pub is_open : IsOpenFor r q (has s.x.bits) (has s.y.bits) (has s.z.bits) (has s.given.bits) path
  pub fails : DifferSomewhere q (left_of r (has s.x.bits) (has s.y.bits) (has s.z.bits) (has s.given.bits))
      (right_of r (has s.x.bits) (has s.y.bits) (has s.z.bits) (has s.given.bits))

-- the answer for these sets of the observed graph q
abbrev pub Decides : Rule → MixedGraph → RuleSets → Answer → Type 0
Decides r q s (Holds rule of cut) = ((rule ≡ r) × (of ≡ s)) × IsHeld r q s × IsCut r q s cut
Decides r q s (Fails rule of cut path) = ((rule ≡ r) × (of ≡ s)) × IsFailed r q s path × IsCut r q s cut

-- the answer for the sets that lists name
pub record IsForLists (r : Rule) (q : MixedGraph) (l : RuleLists) (a : Answer) : Type 0 where
  pub sets : RuleSets
  pub named : AreRuleSets l sets.y.bits sets.x.bits sets.z.bits sets.given.bits
  pub decided : Decides r q sets a

-- the answer for lists of names, or the fault of these
abbrev pub IsForNames : Rule → MixedGraph → RuleLists → Result Answer TargetFault → Type 0
IsForNames r q l (Ok a) = IsForLists r q l a
IsForNames r q l (Err fault) = IsRuleFault l fault

-- the answer on a diagram, in its observed graph
abbrev pub IsRuleAnswer : Rule → Diagram → (y x z given : List (List ℕ)) → Result Answer TargetFault → Type 0
IsRuleAnswer r d y x z given = IsForNames r (graph_of d.observed.graph) (rule_lists d.read d.observed.names y x z given)
