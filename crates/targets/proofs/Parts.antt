-- Lists by their parts.
use Rattle.std.proofs.Common.{◌≡◌, ℕ, List, ap, ◌∙◌}
use Rattle.targets.specs.Targets.{Lists, RuleLists, EffectLists}

-- the lists of a query
abbrev pub lists_of : (all observed x y given : List (List ℕ)) → Lists
lists_of all observed x y given = record { all = all; observed = observed; x = x; y = y; given = given }

-- those of a rule
abbrev pub rule_lists_of : (all observed y x z given : List (List ℕ)) → RuleLists
rule_lists_of all observed y x z given = record { all = all; observed = observed; y = y; x = x; z = z; given = given }

-- those of an effect
abbrev pub effect_lists_of : (all observed x y : List (List ℕ)) → EffectLists
effect_lists_of all observed x y = record { all = all; observed = observed; x = x; y = y }

-- the lists of an effect are equal where each of them is
pub same_effect_lists : (all o o' x x' y y' : List (List ℕ)) → o ≡ o' → x ≡ x' → y ≡ y' → effect_lists_of all o x y ≡ effect_lists_of all o' x' y'
same_effect_lists all o o' x x' y y' e f h =
    ap (λ (t : List (List ℕ)). effect_lists_of all t x y) e ∙ ap (λ (t : List (List ℕ)). effect_lists_of all o' t y) f
    ∙ ap (λ (t : List (List ℕ)). effect_lists_of all o' x' t) h
