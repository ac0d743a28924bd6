-- Facts on tests that std doesn't have.
use Rattle.std.proofs.Common.{◌≡◌, Bool, true, false, refl, sym, ◌&&◌, arith}
use Rattle.std.proofs.lemmas.Bool.{and_parts}

pub not_both : (p : Bool) → p ≡ true → p ≡ false → ⊥
not_both p e f = grind (arith, e, f)

pub and_first : (p q : Bool) → (p && q) ≡ true → p ≡ true
and_first p q e = (and_parts p q e).0

pub and_second : (p q : Bool) → (p && q) ≡ true → q ≡ true
and_second p q e = (and_parts p q e).1

pub same_truth : (p q : Bool) → (p ≡ true → q ≡ true) → (q ≡ true → p ≡ true) → p ≡ q
same_truth true true f g = refl
same_truth true false f g = sym (f refl)
same_truth false true f g = g refl
same_truth false false f g = refl
