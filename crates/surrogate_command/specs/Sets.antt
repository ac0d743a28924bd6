-- What the lists of an effect over experiments stand for: sets of vertices, or the first fault.
use Rattle.std.specs.Prelude.{ℕ, ◌≡◌, List, Option, None}
use Rattle.dag_reader.specs.declared.graph.ReadGraph.{ReadGraph}
use Rattle.diagram.specs.Vocabulary.{Names, effect_lists}
use Rattle.targets.specs.declared.fault.TargetFault.{TargetFault}
use Rattle.targets.specs.declared.fault.TargetFault.TheVariants.{EmptyX}
use Rattle.targets.specs.Vocabulary.{NameFault, or_fault, IsFaultOfTarget, EffectLists, effect_fault, AreEffectSets}
use Rattle.experiment_lists.specs.Vocabulary.{experiments_fault, AreExperimentSets, Lists}

-- the lists of an effect, and one for each experiment
pub record SurrogateLists : Type 0 where
  pub effect : EffectLists
  pub experiments : Lists

-- the lists, on a graph with these observed names: those of the effect, each given, or else the exposures or the outcomes; and the experiments
abbrev pub surrogate_lists : ReadGraph → (observed : List (List ℕ)) → (x y : Names) → Lists → SurrogateLists
surrogate_lists g observed x y experiments = record { effect = effect_lists g observed x y; experiments = experiments }

-- the first name at fault: x first, then y, then each experiment, which may share names with x and y
abbrev pub surrogate_fault : SurrogateLists → Option NameFault
surrogate_fault l = or_fault (effect_fault l.effect) (experiments_fault l.effect.all l.effect.observed l.experiments)

-- the sets of an effect over experiments: no name is at fault, and y isn't empty
pub record AreSurrogateSets (l : SurrogateLists) (x y : ℕ) (zs : List ℕ) : Type 0 where
  pub no_fault : surrogate_fault l ≡ None
  pub effect : AreEffectSets l.effect x y
  pub experiments : AreExperimentSets l.effect.observed l.experiments zs

-- the fault of the lists: the first name at fault; else y is empty
abbrev pub IsSurrogateFault : SurrogateLists → TargetFault → Type 0
IsSurrogateFault l EmptyX = ⊥
IsSurrogateFault l f = IsFaultOfTarget (surrogate_fault l) l.effect.y l.effect.x f
