-- Laws of the greatest common divisor.
use Rattle.std.proofs.Common.{ℕ, zero, suc, ◌+◌, ◌*◌, ◌-◌, ◌/◌, ◌%◌, ◌≡◌, ◌<◌, ◌≤◌, Bool, true, false, eqb, refl, sym, ap, ◌∙◌, subst, arith, eqb-true, mul-one}
use Rattle.std.proofs.Math.Nat.{mul-div_cancel', dvd-mul_left_of_dvd, dvd-mul_right_of_dvd, mul-dvd-mul_left, dvd-sub, dvd-zero, one-dvd}
use Rattle.std.specs.Int.{IsGcd, ◌∣◌}
use Rattle.std.proofs.lemmas.Nat.Gcd.{IsGcd-from_zero, IsGcd-swap, IsGcd-from_mod, same_from_IsGcd, dvd_trans, dvd_antisymm, le_of_dvd}
use Rattle.quantity.specs.Divisors.{euclid, gcd_of}

ne_of : (b : ℕ) → eqb b 0 ≡ false → 0 < b
ne_of b e = grind (arith, e)

-- one step
step : (n a b : ℕ) (t : Bool) → ℕ
step n a b t = elim t [ true ↦ a | false ↦ euclid n b (a % b) ]

euclid_is : (n a b : ℕ) → b < n → IsGcd a b (euclid n a b)
unfolding euclid step
euclid_is zero a b lt = absurd (omega arith)
euclid_is (suc n) a b lt = go (eqb b 0) refl (λ some. euclid_is n b (a % b) (let r : a % b < b = omega arith in omega arith))
  where
    go : (t : Bool) → eqb b 0 ≡ t → (0 < b → IsGcd b (a % b) (euclid n b (a % b))) → IsGcd a b (step n a b t)
    go true e ih = IsGcd-from_zero a b (eqb-true b 0 e)
    go false e ih = IsGcd-from_mod a b (euclid n b (a % b)) (ih (ne_of b e))

pub gcd_is : (a b : ℕ) → IsGcd a b (gcd_of a b)
unfolding gcd_of
gcd_is a b = euclid_is (b + 1) a b (omega arith)

-- what divides k * a and k * b divides k * gcd
euclid_scaled : (n a b d k : ℕ) → b < n → d ∣ k * a → d ∣ k * b → d ∣ k * euclid n a b
unfolding euclid step
euclid_scaled zero a b d k lt p q = absurd (omega arith)
euclid_scaled (suc n) a b d k lt p q = go (eqb b 0) refl (λ some. euclid_scaled n b (a % b) d k (let r : a % b < b = omega arith in omega arith) q rest)
  where
    rest : d ∣ k * (a % b)
    rest = subst (λ x. d ∣ x) (let e : b * (a / b) + a % b ≡ a = omega arith in
        (let f : k * a - (k * b) * (a / b) ≡ k * (a % b) = left k a b (a / b) (a % b) e in f)) (dvd-sub d p (dvd-mul_right_of_dvd d q (a / b)))
      where
        left : (k a b c r : ℕ) → b * c + r ≡ a → k * a - (k * b) * c ≡ k * r
        left k a b c r e = (let f : k * a ≡ (k * b) * c + k * r = ap (λ x. k * x) (sym e) ∙ omega arith in omega arith)

    go : (t : Bool) → eqb b 0 ≡ t → (0 < b → d ∣ k * euclid n b (a % b)) → d ∣ k * step n a b t
    go true e ih = p
    go false e ih = ih (ne_of b e)

pub gcd_scaled : (a b d k : ℕ) → d ∣ k * a → d ∣ k * b → d ∣ k * gcd_of a b
unfolding gcd_of
gcd_scaled a b d k p q = euclid_scaled (b + 1) a b d k (omega arith) p q

one_of : (d : ℕ) → d ∣ 1 → d ≡ 1
one_of d h = dvd_antisymm h (one-dvd d)

-- no common divisor but 1
pub coprime_from : (a b : ℕ) → ((d : ℕ) → d ∣ a → d ∣ b → d ≡ 1) → gcd_of a b ≡ 1
coprime_from a b h = h (gcd_of a b) (gcd_is a b).0 (gcd_is a b).1

pub coprime_only : (a b d : ℕ) → gcd_of a b ≡ 1 → d ∣ a → d ∣ b → d ≡ 1
coprime_only a b d e p q = one_of d (subst (λ g. d ∣ g) e ((gcd_is a b).2 d p q))

pub gcd_swap : (a b : ℕ) → gcd_of a b ≡ gcd_of b a
gcd_swap a b = same_from_IsGcd a b (gcd_of a b) (gcd_of b a) (gcd_is a b) (IsGcd-swap b a (gcd_of b a) (gcd_is b a))

pub coprime_product : (a b c : ℕ) → gcd_of a c ≡ 1 → gcd_of b c ≡ 1 → gcd_of (a * b) c ≡ 1
coprime_product a b c p q =
    coprime_from (a * b) c (λ d h k. coprime_only a c d p
    (subst (λ x. d ∣ x) (ap (λ g. a * g) q ∙ mul-one a) (gcd_scaled b c d a h (dvd-mul_left_of_dvd d k a))) k)

pub coprime_parts : (a b c d : ℕ) → gcd_of a b ≡ 1 → c ∣ a → d ∣ b → gcd_of c d ≡ 1
coprime_parts a b c d e p q = coprime_from c d (λ x h k. coprime_only a b x e (dvd_trans x h p) (dvd_trans x k q))

positive_divisor : (g b : ℕ) → 1 ≤ b → g ∣ b → 1 ≤ g
positive_divisor zero b le h = absurd (none (dvd_antisymm h (dvd-zero b)))
  where
    none : 0 ≡ b → ⊥
    none e = omega arith
positive_divisor (suc g) b le h = omega arith

pub gcd_positive : (a b : ℕ) → 1 ≤ b → 1 ≤ gcd_of a b
gcd_positive a b le = positive_divisor (gcd_of a b) b le (gcd_is a b).1

pub gcd_left : (a b : ℕ) → gcd_of a b * (a / gcd_of a b) ≡ a
gcd_left a b = mul-div_cancel' (gcd_of a b) (gcd_is a b).0

pub gcd_right : (a b : ℕ) → gcd_of a b * (b / gcd_of a b) ≡ b
gcd_right a b = mul-div_cancel' (gcd_of a b) (gcd_is a b).1

times_one : (g x : ℕ) → 1 ≤ g → g * x ∣ g → x ≡ 1
times_one g x le h = small g x le (le_of_dvd le h) (positive_divisor (g * x) g le h)
  where
    small : (g x : ℕ) → 1 ≤ g → g * x ≤ g → 1 ≤ g * x → x ≡ 1
    small g zero le h p = absurd (omega arith)
    small g (suc zero) le h p = refl
    small g (suc (suc x)) le h p = absurd (let r : g * suc (suc x) ≡ g + g + g * x = omega arith in omega arith)

-- divided by their greatest common divisor, two numbers are coprime
pub coprime_lowest : (a b : ℕ) → 1 ≤ b → gcd_of (a / gcd_of a b) (b / gcd_of a b) ≡ 1
coprime_lowest a b le =
    coprime_from (a / gcd_of a b) (b / gcd_of a b) (λ d h k. times_one (gcd_of a b) d (gcd_positive a b le)
    ((gcd_is a b).2 (gcd_of a b * d)
    (subst (λ x. gcd_of a b * d ∣ x) (gcd_left a b) (mul-dvd-mul_left d (gcd_of a b) h))
    (subst (λ x. gcd_of a b * d ∣ x) (gcd_right a b) (mul-dvd-mul_left d (gcd_of a b) k))))

-- with 0, a number's greatest common divisor is the number
pub gcd_zero : (q : ℕ) → gcd_of 0 q ≡ q
gcd_zero q = gcd_swap 0 q ∙ same_from_IsGcd q 0 (gcd_of q 0) q (gcd_is q 0) (IsGcd-from_zero q 0 refl)
