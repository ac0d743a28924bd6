-- Masks as sets: what the words for masks say of members.
use Rattle.std.proofs.Common.{ℕ, zero, ◌+◌, ◌-◌, ◌^◌, ◌≡◌, ◌<◌, ◌≤◌, Bool, true, false, eqb, not, ◌&&◌, ◌⊎◌, inl, inr, refl, sym, ◌∙◌, arith}
use Rattle.std.proofs.Common.{eqb-true, eq-eqb, bit_and, min, ◌%◌, nat_lt}
use Rattle.std.specs.Int.{bit_at}
use Rattle.std.proofs.lemmas.Nat.Bits.{bit_at-lt, bit_at_and, bit_at_xor}
use Rattle.std.proofs.lemmas.Nat.{and_le_r, pow_pos}
use Rattle.identification_theory.proofs.Bools.{and_l, and_r, clash, decide}
use Rattle.mixed_graph.proofs.Masks.{below_two, has-and, has-zero, has-pow, has-ones, same_from_has, zero_from_empty}
use Rattle.mixed_graph.specs.Vocabulary.{has, minus, one, all, is_empty, is_apart, is_inside, is_below}

-- the members of a difference are those of the first set that aren't in the second
pub has-minus : (a b v : ℕ) → has (minus a b) v ≡ (has a v && not (has b v))
unfolding has
has-minus a b v = rw (bit_at_xor a (bit_and a b) v, bit_at_and a b v) (go (bit_at a v) (bit_at-lt a v) (bit_at b v) (bit_at-lt b v))
  where
    go : (x : ℕ) → x < 2 → (y : ℕ) → y < 2 → eqb ((x + min x y) % 2) 1 ≡ (eqb x 1 && not (eqb y 1))
    go = below_two (λ x. (y : ℕ) → y < 2 → eqb ((x + min x y) % 2) 1 ≡ (eqb x 1 && not (eqb y 1)))
        (below_two (λ y. eqb ((0 + min 0 y) % 2) 1 ≡ (eqb 0 1 && not (eqb y 1))) refl refl)
        (below_two (λ y. eqb ((1 + min 1 y) % 2) 1 ≡ (eqb 1 1 && not (eqb y 1))) refl refl)

-- v is a member of the set of v alone
pub one-self : (v : ℕ) → has (one v) v ≡ true
one-self v = has-pow v v ∙ eq-eqb v v refl

-- the set of v alone has no other member
pub one-is : (v u : ℕ) → has (one v) u ≡ true → u ≡ v
one-is v u e = eqb-true u v (sym (has-pow v u) ∙ e)

-- each number below n is a member of the set of all n vertices
pub all-is : (n v : ℕ) → v < n → has (all n) v ≡ true
all-is n v l = has-ones n v ∙ grind (arith, l)

-- each member of the set of all n vertices is below n
pub all-below : (n v : ℕ) → has (all n) v ≡ true → v < n
all-below n v e = let l : nat_lt v n ≡ true = sym (has-ones n v) ∙ e in grind (arith, l)

-- a set with a member isn't empty
pub not_empty : (a v : ℕ) → has a v ≡ true → is_empty a ≡ false
not_empty a v e = go (decide (eqb a 0))
  where
    go : (eqb a 0 ≡ true) ⊎ (eqb a 0 ≡ false) → eqb a 0 ≡ false
    go (inr s) = s
    go (inl s) = absurd (clash (has a v) e (rw (eqb-true a 0 s) (has-zero v)))

-- an empty set has no member
pub empty-has : (a v : ℕ) → is_empty a ≡ true → has a v ≡ false
empty-has a v s = rw (eqb-true a 0 s) (has-zero v)

-- a set without a further member than v is that of v alone
pub alone : (t v : ℕ) → (has t v && is_empty (minus t (one v))) ≡ true → t ≡ one v
alone t v e = same_from_has t (one v) (λ u. go u (decide (has (one v) u)))
  where
    go : (u : ℕ) → (has (one v) u ≡ true) ⊎ (has (one v) u ≡ false) → has t u ≡ has (one v) u
    go u (inl q) = rw (q, one-is v u q) (and_l (has t v) (is_empty (minus t (one v))) e)
    go u (inr q) = let z : (has t u && not (has (one v) u)) ≡ false = sym (has-minus t (one v) u)
        ∙ empty-has (minus t (one v)) u (and_r (has t v) (is_empty (minus t (one v))) e) in rw q (bools (has t u) (has (one v) u) z q)
      where
        bools : (x y : Bool) → (x && not y) ≡ false → y ≡ false → x ≡ false
        bools x y h1 h2 = grind (arith, h1, h2)

meet_inside : (a b : ℕ) → ((v : ℕ) → has a v ≡ true → has b v ≡ true) → bit_and a b ≡ a
meet_inside a b h = same_from_has (bit_and a b) a (λ v. has-and a b v ∙ bools (has a v) (has b v) (h v))
  where
    bools : (x y : Bool) → (x ≡ true → y ≡ true) → (x && y) ≡ x
    bools x y k = grind (arith, k)

pub inside : (a b : ℕ) → ((v : ℕ) → has a v ≡ true → has b v ≡ true) → is_inside a b ≡ true
inside a b h = eq-eqb (bit_and a b) a (meet_inside a b h)

-- the test for disjoint sets says yes where no vertex is in both
pub apart : (a b : ℕ) → ((v : ℕ) → has a v ≡ true → has b v ≡ true → ⊥) → is_apart a b ≡ true
apart a b h = eq-eqb (bit_and a b) 0 (zero_from_empty (bit_and a b) (λ v. has-and a b v ∙ bools (has a v) (has b v) (h v)))
  where
    bools : (x y : Bool) → (x ≡ true → y ≡ true → ⊥) → (x && y) ≡ false
    bools true true k = absurd (k refl refl)
    bools true false k = refl
    bools false y k = refl

-- the test for a set below n says yes where each member is below n
pub below : (n a : ℕ) → ((v : ℕ) → has a v ≡ true → v < n) → is_below n a ≡ true
below n a h = let l : bit_and a (2 ^ n - 1) ≤ 2 ^ n - 1 = and_le_r a (2 ^ n - 1) in let e : bit_and a (2 ^ n - 1) ≡ a =
    meet_inside a (2 ^ n - 1) (λ v i. all-is n v (h v i)) in
    let p : zero < 2 ^ n = pow_pos n in let q : a < 2 ^ n = omega (arith, l, e, p) in grind (arith, q)

-- a proper part is a smaller number
pub smaller : (a b : ℕ) → ((v : ℕ) → has a v ≡ true → has b v ≡ true) → (a ≡ b → ⊥) → a < b
smaller a b h ne = let l : bit_and a b ≤ b = and_le_r a b in let e : bit_and a b ≡ a = meet_inside a b h in omega (arith, l, e, ne)
