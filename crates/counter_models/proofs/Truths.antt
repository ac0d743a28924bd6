-- Small facts on tests.
use Rattle.std.proofs.Common.{◌≡◌, Bool, true, false, cond, not, refl, arith}

pub not_true : (p : Bool) → not p ≡ true → p ≡ false
not_true true e = absurd (grind (arith, e))
not_true false e = refl

pub cond_true : {A : Type 0} (p : Bool) (x y : A) → p ≡ true → cond p x y ≡ x
cond_true true x y e = refl
cond_true false x y e = absurd (grind (arith, e))

pub cond_false : {A : Type 0} (p : Bool) (x y : A) → p ≡ false → cond p x y ≡ y
cond_false true x y e = absurd (grind (arith, e))
cond_false false x y e = refl
