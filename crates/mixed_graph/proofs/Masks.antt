use Rattle.std.proofs.Common.{◌≡◌, ℕ, zero, suc, ◌-◌, ◌*◌, ◌/◌, ◌%◌, ◌^◌, ◌<◌, ◌≤◌, min, max, Bool, true, false, not, ◌&&◌, ◌||◌, ◌==◌, inl, inr}
use Rattle.std.proofs.Common.{refl, sym, ap, ◌∙◌, bit_and, bit_or, arith, nat_lt, IsTrue, w64}
use Rattle.std.specs.Int.{bit_at, trailing_zeros}
use Rattle.std.proofs.lemmas.Nat.Bits.{bit_at_and, bit_at_or, bit_at-lt, bit_at-zero, bit_at_not, bit_at-pow_same, bit_at-pow_other, bit_at_above}
use Rattle.std.proofs.lemmas.Nat.Bits.{bit_at_ones, bit_at_ones_above, shr_and_one, bit_at-trailing_zeros, same_from_bits}
use Rattle.std.proofs.lemmas.Nat.{one_shl, and_le_r}
use Rattle.std.proofs.lemmas.Bool.{and_parts, cases_order, cases_eq, cases_lt, eq-eqb, ne_eqb, eqb-true, lt-ltb, le-ltb}
use Rattle.mixed_graph.specs.Bits.{has}

-- what holds of 0 and of 1 holds of each number below 2
pub below_two : (P : ℕ → Type 0) → P 0 → P 1 → (n : ℕ) → n < 2 → P n
below_two P z o zero h = z
below_two P z o (suc zero) h = o
below_two P z o (suc (suc n)) h = absurd (omega arith)

both_below_two : (P : ℕ → ℕ → Type 0) → P 0 0 → P 0 1 → P 1 0 → P 1 1 → (a b : ℕ) → a < 2 → b < 2 → P a b
both_below_two P zz zo oz oo a b h k =
    below_two (λ x. P x b) (below_two (P 0) zz zo b k) (below_two (P 1) oz oo b k) a h

-- the mask 0 has no member
pub has-zero : (v : ℕ) → has 0 v ≡ false
unfolding has
has-zero v = ap (λ t. t == 1) (bit_at-zero v)

-- the bitwise or has the members of either mask
pub has-or : (a b v : ℕ) → has (bit_or a b) v ≡ (has a v || has b v)
unfolding has
has-or a b v = ap (λ t. t == 1) (bit_at_or a b v)
    ∙ both_below_two (λ x y. (max x y == 1) ≡ ((x == 1) || (y == 1))) refl refl refl refl (bit_at a v) (bit_at b v) (bit_at-lt a v) (bit_at-lt b v)

-- the bitwise and has the members of both masks
pub has-and : (a b v : ℕ) → has (bit_and a b) v ≡ (has a v && has b v)
unfolding has
has-and a b v = ap (λ t. t == 1) (bit_at_and a b v)
    ∙ both_below_two (λ x y. (min x y == 1) ≡ ((x == 1) && (y == 1))) refl refl refl refl (bit_at a v) (bit_at b v) (bit_at-lt a v) (bit_at-lt b v)

-- `!m` inside 64 bits
pub has-not : (m v : ℕ) → m < 2 ^ 64 → v < 64 → has (2 ^ 64 - 1 - m) v ≡ not (has m v)
unfolding has
has-not m v fits below = ap (λ t. t == 1) (bit_at_not w64 m v fits below)
    ∙ below_two (λ x. (1 - x == 1) ≡ not (x == 1)) refl refl (bit_at m v) (bit_at-lt m v)

-- a mask of 64 bits has no member from 64 on
pub has-above : (m v : ℕ) → m < 2 ^ 64 → 64 ≤ v → has m v ≡ false
unfolding has
has-above m v fits above = ap (λ t. t == 1) (bit_at_above m 64 v fits above)

-- a member of a mask of 64 bits is below 64
pub below_64 : (m v : ℕ) → m < 2 ^ 64 → IsTrue (has m v) → v < 64
below_64 m v fits i = elim (cases_lt v 64) [ inl l ↦ l | inr ge ↦ absurd (let e = has-above m v fits ge in cc) ]

-- 2 ^ k has the member k alone
pub has-pow : (k v : ℕ) → has (2 ^ k) v ≡ (v == k)
unfolding has
has-pow k v = elim (cases_eq v k) [
  | inl e ↦ rw e (ap (λ t. t == 1) (bit_at-pow_same k) ∙ sym (eq-eqb k k refl))
  | inr d ↦ ap (λ t. t == 1) (bit_at-pow_other k v d) ∙ sym (ne_eqb v k d)
]

pub has-one_shl : (k v : ℕ) → k < 64 → has (1 * 2 ^ k % 2 ^ 64) v ≡ (v == k)
has-one_shl k v h = ap (λ m. has m v) (one_shl k 64 h) ∙ has-pow k v

-- 2 ^ k - 1 has all numbers below k as members, and no other
pub has-ones : (k v : ℕ) → has (2 ^ k - 1) v ≡ nat_lt v k
unfolding has
has-ones k v = elim (cases_lt v k) [
  | inl h ↦ ap (λ t. t == 1) (bit_at_ones k v h) ∙ sym (lt-ltb v k h)
  | inr h ↦ ap (λ t. t == 1) (bit_at_ones_above k v h) ∙ sym (le-ltb v k h)
]

pub has-ones_shl : (k v : ℕ) → k < 64 → has (1 * 2 ^ k % 2 ^ 64 - 1) v ≡ nat_lt v k
has-ones_shl k v h = ap (λ m. has (m - 1) v) (one_shl k 64 h) ∙ has-ones k v

pub has-difference : (a b v : ℕ) → a < 2 ^ 64 → b < 2 ^ 64 → has (bit_and a (2 ^ 64 - 1 - b)) v ≡ (has a v && not (has b v))
has-difference a b v p q = has-and a (2 ^ 64 - 1 - b) v ∙ elim (cases_lt v 64) [
  | inl h ↦ ap (λ t. has a v && t) (has-not b v q h)
  | inr h ↦ rw (has-above a v p h) refl
]

-- the test `m >> v & 1 == 1`
pub has-shr : (m v : ℕ) → (bit_and (m / 2 ^ v) 1 == 1) ≡ has m v
unfolding has
has-shr m v = ap (λ t. t == 1) (shr_and_one m v)

bit_from_has : (m v : ℕ) → IsTrue (has m v) → bit_at m v ≡ 1
unfolding has
bit_from_has m v h = eqb-true _ _ h

has_from_bit : (m v : ℕ) → bit_at m v ≡ 1 → IsTrue (has m v)
unfolding has
has_from_bit m v h = eq-eqb _ _ h

-- the lowest member
pub has-lowest : (m : ℕ) → 0 < m → m < 2 ^ 64 → IsTrue (has m (trailing_zeros w64 m))
has-lowest m p q = has_from_bit m (trailing_zeros w64 m) (bit_at-trailing_zeros w64 m p q).1

pub lowest_le : (m v : ℕ) → 0 < m → m < 2 ^ 64 → IsTrue (has m v) → trailing_zeros w64 m ≤ v
lowest_le m v p q h = elim (cases_lt v (trailing_zeros w64 m)) [
  | inl lt ↦ let z : bit_at m v ≡ 0 = (bit_at-trailing_zeros w64 m p q).2 v lt in
      let o : bit_at m v ≡ 1 = bit_from_has m v h in absurd (omega (arith, z, o))
  | inr ge ↦ ge
]

-- the lowest member of a mask of 64 bits that isn't 0 is below 64
pub lowest_below : (m : ℕ) → 0 < m → m < 2 ^ 64 → trailing_zeros w64 m < 64
lowest_below m p q = (bit_at-trailing_zeros w64 m p q).0

-- masks with the same members are equal
pub same_from_has : (a b : ℕ) → ((v : ℕ) → has a v ≡ has b v) → a ≡ b
unfolding has
same_from_has a b h = same_from_bits a b (λ v.
    both_below_two (λ x y. (x == 1) ≡ (y == 1) → x ≡ y) (λ _. refl) (λ e. cc) (λ e. cc) (λ _. refl) (bit_at a v) (bit_at b v) (bit_at-lt a v) (bit_at-lt b v)
    (h v))

-- a member makes the mask positive
pub positive_from_has : (m v : ℕ) → IsTrue (has m v) → 0 < m
positive_from_has zero v h = absurd (let e : has 0 v ≡ false = has-zero v in cc)
positive_from_has (suc m) v h = omega arith

-- a subset is a number at most as large
pub le_from_subset : (a b : ℕ) → ((v : ℕ) → IsTrue (has a v) → IsTrue (has b v)) → a ≤ b
le_from_subset a b sub =
    let e : bit_and a b ≡ a = same_from_has (bit_and a b) a (λ v. has-and a b v ∙ and_absorbs (has a v) (has b v) (sub v)) in
    omega (arith, e, and_le_r a b)
  where
    and_absorbs : (x y : Bool) → (x ≡ true → y ≡ true) → (x && y) ≡ x
    and_absorbs true y h = h refl
    and_absorbs false y h = refl

-- a proper subset is a smaller number
pub lt_from_subset : (a b v : ℕ) → ((u : ℕ) → IsTrue (has a u) → IsTrue (has b u)) → has a v ≡ false → IsTrue (has b v) → a < b
lt_from_subset a b v sub out into = elim (cases_order a b) [
  | inl e ↦ absurd (let f : has a v ≡ has b v = ap (λ m. has m v) e in cc)
  | inr (inl lt) ↦ lt
  | inr (inr gt) ↦ absurd (omega (arith, le_from_subset a b sub))
]

-- a mask without members is 0
pub zero_from_empty : (m : ℕ) → ((v : ℕ) → has m v ≡ false) → m ≡ 0
zero_from_empty m h = same_from_has m 0 (λ v. h v ∙ sym (has-zero v))

-- a mask above 0 has a member
pub some_member : (m : ℕ) → (m ≡ 0 → ⊥) → m < 2 ^ 64 → (v : ℕ) × IsTrue (has m v)
some_member m p q = let pos : 0 < m = omega arith in (trailing_zeros w64 m, has-lowest m pos q)

-- the meet of two masks is 0 where they share no member, and else they share one
pub apart_from_meet : (meet a b : ℕ) → ((v : ℕ) → has meet v ≡ (has a v && has b v)) → meet ≡ 0 → (v : ℕ) → IsTrue (has a v) → has b v ≡ false
apart_from_meet meet a b is zero' v h = let e = is v in let z : has meet v ≡ false = rw zero' (has-zero v) in grind arith

-- a meet that isn't 0 has a member, and it is one of both masks
pub some_in_meet : (meet a b : ℕ) → ((v : ℕ) → has meet v ≡ (has a v && has b v)) → (meet ≡ 0 → ⊥) → meet < 2 ^ 64 → (v : ℕ) × IsTrue (has a v)
    × IsTrue (has b v)
some_in_meet meet a b is full fits =
    let m = some_member meet full fits in let e = sym (is m.0) ∙ m.1 in
    (m.0, (and_parts _ _ e).0, (and_parts _ _ e).1)
