-- From the fault of a name to that of the lists that are walked.
use Rattle.std.proofs.Common.{◌≡◌, ℕ, List, Option, Some, refl}
use Rattle.targets.specs.declared.fault.TargetFault.{TargetFault}
use Rattle.targets.specs.declared.fault.TargetFault.TheVariants.{Unknown, Latent, Twice, EmptyX, NoMemory}
use Rattle.targets.specs.Targets.{NameFault, unknown, latent, twice, IsNameFault, OrMemory, Lists, fault_in, IsListFault, IsTargetFault, RuleLists}
use Rattle.targets.specs.Targets.{rule_fault, IsRuleFault, EffectLists, effect_fault, IsEffectFault}

-- a fault of a name is such a one where the three kinds of them are
pub named_fault : (o : Option NameFault) (is : TargetFault → Type 0) → ((n : List ℕ) → o ≡ Some (unknown n) → is (Unknown n))
    → ((n : List ℕ) → o ≡ Some (latent n) → is (Latent n))
    → ((n : List ℕ) → o ≡ Some (twice n) → is (Twice n)) → (f : TargetFault) → IsNameFault o f → OrMemory is f
named_fault o is u l t (Unknown n) h = u n h
named_fault o is u l t (Latent n) h = l n h
named_fault o is u l t (Twice n) h = t n h
named_fault o is u l t NoMemory h = tt
named_fault o is u l t f h = absurd h

-- a fault of a name is one of lists of which x may be empty
pub list_fault_named : (l : Lists) (f : TargetFault) → IsNameFault (fault_in l) f → OrMemory (IsListFault l) f
list_fault_named l = named_fault (fault_in l) (IsListFault l) (λ n e. e) (λ n e. e) (λ n e. e)

-- and one of the lists of a rule
pub rule_fault_named : (l : RuleLists) (f : TargetFault) → IsNameFault (rule_fault l) f → OrMemory (IsRuleFault l) f
rule_fault_named l = named_fault (rule_fault l) (IsRuleFault l) (λ n e. e) (λ n e. e) (λ n e. e)

-- and one of those of an effect
pub effect_fault_named : (l : EffectLists) (f : TargetFault) → IsNameFault (effect_fault l) f → OrMemory (IsEffectFault l) f
effect_fault_named l = named_fault (effect_fault l) (IsEffectFault l) (λ n e. e) (λ n e. e) (λ n e. e)

-- a fault that isn't want of memory
pub not_memory : (is : TargetFault → Type 0) (f : TargetFault) → (f ≡ NoMemory → ⊥) → OrMemory is f → is f
not_memory is NoMemory ne h = absurd (ne refl)
not_memory is f ne h = h

-- the fault of lists of which x may be empty is one where it may not
pub list_fault_of_target : (l : Lists) (f : TargetFault) → OrMemory (IsListFault l) f → OrMemory (IsTargetFault l) f
list_fault_of_target l EmptyX h = absurd h
list_fault_of_target l f h = h
