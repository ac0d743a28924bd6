-- Facts on tests that std doesn't have.
use Rattle.std.proofs.Common.{◌≡◌, Bool, true, false, refl, sym, ◌&&◌, ◌||◌, arith}

-- no test is both true and false
pub not_both : (p : Bool) → p ≡ true → p ≡ false → ⊥
not_both p e f = grind (arith, e, f)

-- where both tests hold, the first does
pub and_first : (p q : Bool) → (p && q) ≡ true → p ≡ true
and_first true q e = refl
and_first false q e = e

-- where both tests hold, the second does
pub and_second : (p q : Bool) → (p && q) ≡ true → q ≡ true
and_second true q e = e
and_second false q e = absurd (grind arith)

-- where the first test fails, one of the two holds exactly where the second does
pub or_false : (p q : Bool) → p ≡ false → (p || q) ≡ q
or_false false q e = refl
or_false true q e = absurd (grind (arith, e))

-- what follows from each of two tests follows where one of them holds
pub either : (p q : Bool) → (C : Type 0) → (p || q) ≡ true → (p ≡ true → C) → (q ≡ true → C) → C
either true q C e f h = f refl
either false q C e f h = h e

-- tests that imply each other are equal
pub same_truth : (p q : Bool) → (p ≡ true → q ≡ true) → (q ≡ true → p ≡ true) → p ≡ q
same_truth true true f g = refl
same_truth true false f g = sym (f refl)
same_truth false true f g = g refl
same_truth false false f g = refl
