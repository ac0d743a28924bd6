-- What other crates cite of this one, from one place.
pub use Rattle.targets.specs.FaultTexts.{target_fault_text}
pub use Rattle.targets.specs.Targets.{AreEffectSets, AreListedSets, AreRuleSets, AreSets, EffectLists, IsEffectFault, IsFaultOfTarget, IsListFault, IsListedSet, IsNameFault, IsRuleFault, IsTargetFault, Lists, NameFault, OrMemory, RuleLists, effect_fault, fault_in, first_fault, listed, name_fault, or_fault, rule_fault, walked_in}
