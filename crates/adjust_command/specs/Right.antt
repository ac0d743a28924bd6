-- Which answers of `adjust` are right: whether a set may be adjusted for to compute the effect of x on y, or the minimal such sets, in the observed graph.
use Rattle.std.specs.Prelude.{ℕ, ◌≡◌, ◌↔◌, ◌⊎◌, Bool, true, false, List, [], All, Result, Ok, Err}
use Rattle.mixed_graph.specs.declared.sets.VSet.{VSet}
use Rattle.mixed_graph.specs.Vocabulary.{has, MixedGraph, one, graph_of}
use Rattle.do_rules.specs.Vocabulary.{AreThreeSets}
use Rattle.targets.specs.declared.query.Sets.{Sets}
use Rattle.targets.specs.declared.fault.TargetFault.{TargetFault}
use Rattle.targets.specs.declared.fault.TargetFault.TheVariants.{NotOneX}
use Rattle.targets.specs.Vocabulary.{Lists, AreSets, IsTargetFault}
use Rattle.prob_expr.specs.Vocabulary.{effect_on, EqualsEffect}
use Rattle.adjustment.specs.Vocabulary.{IsAdmissible, adjustment_formula}
use Rattle.minimal_sets.specs.Vocabulary.{IsListingOf, IsMinimalSet, IsMinimalAdjustment}
use Rattle.diagram.specs.declared.diagram.Diagram.{Diagram}
use Rattle.diagram.specs.Vocabulary.{Names}
use Rattle.adjust_command.specs.Queries.{Query, by_set, by_back_door, listing, adjust_lists}
use Rattle.adjust_command.specs.Verdicts.{IsVerdict}
use Rattle.adjust_command.specs.declared.answer.Answer.{Answer}
use Rattle.adjust_command.specs.declared.answer.Answer.TheVariants.{Admissible, NotAdmissible, Listed, NoSet}
use Rattle.adjust_command.specs.declared.criteria.Verdict.TheVariants.{Meets, Breaks}

-- ---- a set

-- what the adjustment criterion says of the third set, or the back-door criterion
abbrev pub Judges : (back_door : Bool) → MixedGraph → Sets → Answer → Type 0
Judges back_door q s (Admissible of) = (of ≡ s) × IsVerdict back_door q s.x.bits s.y.bits s.given.bits Meets
Judges back_door q s (NotAdmissible of fault) = (of ≡ s) × IsVerdict back_door q s.x.bits s.y.bits s.given.bits (Breaks fault)
Judges back_door q s a = ⊥

-- the back-door criterion says nothing where the exposures aren't one vertex
abbrev pub IsNotJudged : (back_door : Bool) → Sets → TargetFault → Type 0
IsNotJudged true s NotOneX = (v : ℕ) → s.x.bits ≡ one v → ⊥
IsNotJudged back_door s fault = ⊥

-- ---- the minimal sets

-- these are the minimal admissible sets, of which there is one or more: all of them, or `most` where there are more; the formula of each equals
-- P(y | do(x)) in each positive model that fits q. The minimal admissible sets are exactly the minimal sets of which this is so, whatever criterion one
-- thinks of.
pub record AreMinimalSets (q : MixedGraph) (x y most : ℕ) (sets : List VSet) (more : Bool) : Type 0 where
  pub listed : IsListingOf (IsMinimalSet q (has x) (has y)) most sets more
  pub some : sets ≡ [] → ⊥
  pub exact : (z : ℕ) → IsMinimalSet q (has x) (has y) (has z) ↔ IsMinimalAdjustment q x y z
  pub effect : All (λ s. EqualsEffect q (effect_on x y) (adjustment_formula x y s.bits)) sets

-- no set is admissible, and the formula of no set is P(y | do(x)) in each positive model that fits q
pub record HasNoSet (q : MixedGraph) (x y : ℕ) : Type 0 where
  pub none : (z : ℕ → Bool) → AreThreeSets q.vertices (has x) (has y) z → IsAdmissible q (has x) (has y) z → ⊥
  pub no_formula : (z : ℕ) → AreThreeSets q.vertices (has x) (has y) (has z) → EqualsEffect q (effect_on x y) (adjustment_formula x y z) → ⊥

-- the minimal sets, at most so many, or that there is none
abbrev pub ListsSets : (most : ℕ) → MixedGraph → Sets → Answer → Type 0
ListsSets most q s (Listed of sets more) = (of ≡ s) × AreMinimalSets q s.x.bits s.y.bits most sets.items more
ListsSets most q s (NoSet of) = (of ≡ s) × HasNoSet q s.x.bits s.y.bits
ListsSets most q s a = ⊥

-- ---- a query

-- the answer for sets of the observed graph q
abbrev pub Decides : Query → MixedGraph → Sets → Answer → Type 0
Decides (by_set set) = Judges false
Decides (by_back_door set) = Judges true
Decides (listing most) = ListsSets most

-- there is none for these sets
abbrev pub IsNotDecided : Query → Sets → TargetFault → Type 0
IsNotDecided (by_set set) s fault = ⊥
IsNotDecided (by_back_door set) s fault = IsNotJudged true s fault
IsNotDecided (listing most) s fault = ⊥

-- ---- lists of names

-- the answer for the sets that lists name
pub record IsForLists (query : Query) (q : MixedGraph) (l : Lists) (a : Answer) : Type 0 where
  pub sets : Sets
  pub named : AreSets l sets.x.bits sets.y.bits sets.given.bits
  pub decided : Decides query q sets a

-- there is none for the sets that they name
pub record AreNotDecided (query : Query) (l : Lists) (fault : TargetFault) : Type 0 where
  pub sets : Sets
  pub named : AreSets l sets.x.bits sets.y.bits sets.given.bits
  pub refused : IsNotDecided query sets fault

-- what is wrong: a name is at fault, or a set is empty; or else the exposures aren't one vertex
abbrev pub IsAdjustFault : Query → Lists → TargetFault → Type 0
IsAdjustFault query l fault = IsTargetFault l fault ⊎ AreNotDecided query l fault

-- the answer for lists of names, or what is wrong
abbrev pub IsForNames : Query → MixedGraph → Lists → Result Answer TargetFault → Type 0
IsForNames query q l (Ok a) = IsForLists query q l a
IsForNames query q l (Err fault) = IsAdjustFault query l fault

-- the answer on a diagram, in its observed graph
abbrev pub IsAdjustAnswer : Diagram → (x y : Names) → Query → Result Answer TargetFault → Type 0
IsAdjustAnswer d x y query = IsForNames query (graph_of d.observed.graph) (adjust_lists d.read d.observed.names x y query)
