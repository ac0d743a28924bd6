-- Lists that are refused have one fault.
use Rattle.std.proofs.Common.{◌≡◌, ℕ, List, [], Option, Some, None, refl, sym, ap, ◌∙◌}
use Rattle.std.proofs.lemmas.Option.{none-some, same_Some}
use Rattle.targets.specs.declared.fault.TargetFault.{TargetFault}
use Rattle.targets.specs.declared.fault.TargetFault.TheVariants.{EmptyY, EmptyX}
use Rattle.targets.specs.Vocabulary.{NameFault, IsFaultOfTarget, Lists, fault_in, IsListFault, RuleLists, rule_fault, EffectLists, effect_fault, IsEffectFault, IsTargetFault, IsRuleFault}
use Rattle.targets.specs.declared.fault.TargetFault.TheVariants.{Unknown, Latent, Twice}
use Rattle.targets.specs.Targets.{unknown, latent, twice}
use Rattle.surrogate_command.specs.Vocabulary.{SurrogateLists, surrogate_fault, IsSurrogateFault}

-- the fault of a target that a name at fault makes
abbrev named : NameFault → TargetFault
named (unknown n) = Unknown n
named (latent n) = Latent n
named (twice n) = Twice n

-- what a fault says of the first name at fault and of the lists: that it is this one, or that there is none and y, or else x, is empty
data IsKindOf (first : Option NameFault) (y x : List (List ℕ)) : TargetFault → Type 0 where
  name : (n : NameFault) → first ≡ Some n → IsKindOf first y x (named n)
  empty_y : first ≡ None → y ≡ [] → IsKindOf first y x EmptyY
  empty_x : first ≡ None → (y ≡ [] → ⊥) → IsKindOf first y x EmptyX

kind_of : (first : Option NameFault) (y x : List (List ℕ)) (f : TargetFault) → IsFaultOfTarget first y x f → IsKindOf first y x f
kind_of first y x (Unknown n) h = name (unknown n) h
kind_of first y x (Latent n) h = name (latent n) h
kind_of first y x (Twice n) h = name (twice n) h
kind_of first y x EmptyY h = empty_y h.0 h.1
kind_of first y x EmptyX h = empty_x h.0 h.1
kind_of first y x f h = absurd h

one_kind : (first : Option NameFault) (y x : List (List ℕ)) (f k : TargetFault) → IsKindOf first y x f → IsKindOf first y x k → k ≡ f
one_kind first y x _ _ (name n a) (name m b) = ap named (same_Some m n (sym b ∙ a))
one_kind first y x _ _ (name n a) (empty_y b c) = absurd (none-some n (sym b ∙ a))
one_kind first y x _ _ (name n a) (empty_x b c) = absurd (none-some n (sym b ∙ a))
one_kind first y x _ _ (empty_y a c) (name m b) = absurd (none-some m (sym a ∙ b))
one_kind first y x _ _ (empty_y a c) (empty_y b d) = refl
one_kind first y x _ _ (empty_y a c) (empty_x b d) = absurd (d c)
one_kind first y x _ _ (empty_x a c) (name m b) = absurd (none-some m (sym a ∙ b))
one_kind first y x _ _ (empty_x a c) (empty_y b d) = absurd (c d)
one_kind first y x _ _ (empty_x a c) (empty_x b d) = refl

-- lists have one fault
one_fault : (first : Option NameFault) (y x : List (List ℕ)) (f k : TargetFault) → IsFaultOfTarget first y x f → IsFaultOfTarget first y x k → k ≡ f
one_fault first y x f k a b = one_kind first y x f k (kind_of first y x f a) (kind_of first y x k b)

pub one_target_fault : (l : Lists) (f k : TargetFault) → IsTargetFault l f → IsTargetFault l k → k ≡ f
one_target_fault l f k a b = one_fault (fault_in l) l.y l.x f k a b

pub one_rule_fault : (l : RuleLists) (f k : TargetFault) → IsRuleFault l f → IsRuleFault l k → k ≡ f
one_rule_fault l f k a b = one_fault (rule_fault l) l.y l.z f k a b

-- an empty x is no fault of some lists
list_fault : (l : Lists) (f : TargetFault) → IsListFault l f → IsFaultOfTarget (fault_in l) l.y l.x f
list_fault l EmptyX h = absurd h
list_fault l f h = h

pub one_list_fault : (l : Lists) (f k : TargetFault) → IsListFault l f → IsListFault l k → k ≡ f
one_list_fault l f k a b = one_fault (fault_in l) l.y l.x f k (list_fault l f a) (list_fault l k b)

of_effect : (l : EffectLists) (f : TargetFault) → IsEffectFault l f → IsFaultOfTarget (effect_fault l) l.y l.x f
of_effect l EmptyX h = absurd h
of_effect l f h = h

pub one_effect_fault : (l : EffectLists) (f k : TargetFault) → IsEffectFault l f → IsEffectFault l k → k ≡ f
one_effect_fault l f k a b = one_fault (effect_fault l) l.y l.x f k (of_effect l f a) (of_effect l k b)

of_surrogate : (l : SurrogateLists) (f : TargetFault) → IsSurrogateFault l f → IsFaultOfTarget (surrogate_fault l) l.effect.y l.effect.x f
of_surrogate l EmptyX h = absurd h
of_surrogate l f h = h

pub one_surrogate_fault : (l : SurrogateLists) (f k : TargetFault) → IsSurrogateFault l f → IsSurrogateFault l k → k ≡ f
one_surrogate_fault l f k a b = one_fault (surrogate_fault l) l.effect.y l.effect.x f k (of_surrogate l f a) (of_surrogate l k b)
