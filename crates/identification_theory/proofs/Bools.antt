-- Facts of two truth values.
use Rattle.std.proofs.Common.{◌≡◌, ◌⊎◌, Bool, true, false, not, ◌&&◌, ◌||◌, inl, inr, refl, arith}

-- where both are true, the first is
pub and_l : (p q : Bool) → (p && q) ≡ true → p ≡ true
and_l true q e = refl
and_l false q e = e

-- where both are true, the second is
pub and_r : (p q : Bool) → (p && q) ≡ true → q ≡ true
and_r true q e = e
and_r false q e = absurd (grind (arith, e))

-- two true values are true together
pub both_true : (p q : Bool) → p ≡ true → q ≡ true → (p && q) ≡ true
both_true p q e f = rw (e, f) refl

-- one of two is true where the first is
pub or_l : (p q : Bool) → p ≡ true → (p || q) ≡ true
or_l true q e = refl
or_l false q e = absurd (grind (arith, e))

-- one of two is true where the second is
pub or_r : (p q : Bool) → q ≡ true → (p || q) ≡ true
or_r true q e = refl
or_r false q e = e

-- where one of two is true, it is the first or the second
pub or_e : (p q : Bool) → (p || q) ≡ true → (p ≡ true) ⊎ (q ≡ true)
or_e true q e = inl refl
or_e false q e = inr e

-- what has a true negation is false
pub not_e : (p : Bool) → not p ≡ true → p ≡ false
not_e true e = absurd (grind (arith, e))
not_e false e = refl

-- the negation of what is false is true
pub not_i : (p : Bool) → p ≡ false → not p ≡ true
not_i p e = rw e refl

-- no truth value is both true and false
pub clash : (p : Bool) → p ≡ true → p ≡ false → ⊥
clash p e f = grind (arith, e, f)

pub decide : (p : Bool) → (p ≡ true) ⊎ (p ≡ false)
decide true = inl refl
decide false = inr refl
