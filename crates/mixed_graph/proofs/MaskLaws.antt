-- What a mask's members say of the operations and tests on masks, and back.
use Rattle.std.proofs.Common.{ℕ, ◌^◌, ◌≡◌, ◌<◌, ◌≤◌, Bool, true, false, eqb, ltb, not, refl, sym, ap, ◌∙◌, ◌||◌, ◌&&◌, arith, bit_and, eqb-true}
use Rattle.std.proofs.Common.{ltb-true, ne_eqb, eq-eqb, lt-ltb, min, ◌%◌, ◌+◌, ◌==◌}
use Rattle.std.specs.Int.{bit_at}
use Rattle.std.proofs.lemmas.Nat.Bits.{bit_at_xor, bit_at_and, bit_at-lt, bit_at_above}
use lib.Bits.{mask_lt}
use Rattle.mixed_graph.specs.Bits.{has}
use Rattle.mixed_graph.proofs.Masks.{below_two, has-zero, has-or, has-and, has-pow, has-ones, same_from_has, zero_from_empty}
use Rattle.mixed_graph.specs.Masks.{union, minus, one, all, is_empty, is_apart, is_inside, is_below}

-- the join has the members of either mask
pub has_join : (a b v : ℕ) → has (union a b) v ≡ (has a v || has b v)
has_join a b v = has-or a b v

-- the meet has the members of both masks
pub has_meet : (a b v : ℕ) → has (bit_and a b) v ≡ (has a v && has b v)
has_meet a b v = has-and a b v

minus_bits : (a b : ℕ) → a < 2 → b < 2 → ((a + min a b) % 2 == 1) ≡ ((a == 1) && not (b == 1))
minus_bits a b h k =
    below_two (λ x. ((x + min x b) % 2 == 1) ≡ ((x == 1) && not (b == 1)))
    (below_two (λ y. ((0 + min 0 y) % 2 == 1) ≡ ((0 == 1) && not (y == 1))) refl refl b k)
    (below_two (λ y. ((1 + min 1 y) % 2 == 1) ≡ ((1 == 1) && not (y == 1))) refl refl b k) a h

-- the difference has the members of the first mask outside the second
pub has_minus : (a b v : ℕ) → has (minus a b) v ≡ (has a v && not (has b v))
unfolding has
has_minus a b v =
    ap (λ n. n == 1) (bit_at_xor a (bit_and a b) v ∙ ap (λ n. (bit_at a v + n) % 2) (bit_at_and a b v))
    ∙ minus_bits (bit_at a v) (bit_at b v) (bit_at-lt a v) (bit_at-lt b v)

-- the empty set has no member
pub has_none : (v : ℕ) → has 0 v ≡ false
has_none v = has-zero v

-- where a mask is found empty, no vertex is a member
pub empty_has : (a v : ℕ) → is_empty a ≡ true → has a v ≡ false
empty_has a v e = ap (λ n. has n v) (eqb-true a 0 e) ∙ has_none v

-- the set of one vertex has that vertex as its only member
pub has_one : (v i : ℕ) → has (one v) i ≡ eqb i v
has_one v i = has-pow v i

pub has_all : (n v : ℕ) → v < n → has (all n) v ≡ true
has_all n v lt = has-ones n v ∙ lt-ltb v n lt

-- the set of all vertices below n has no member from n on
pub has_all_above : (n v : ℕ) → n ≤ v → has (all n) v ≡ false
has_all_above n v le = has-ones n v ∙ go (ltb v n) refl
  where
    go : (c : Bool) → ltb v n ≡ c → c ≡ false
    go true k = absurd (let lt = ltb-true v n k in omega (arith, lt))
    go false k = refl

-- where two masks are found apart, a member of the first is not one of the second
pub apart_has : (a b v : ℕ) → is_apart a b ≡ true → has a v ≡ true → has b v ≡ false
apart_has a b v e h = sym (ap (λ c. c && has b v) h) ∙ sym (has_meet a b v) ∙ ap (λ n. has n v) (eqb-true (bit_and a b) 0 e) ∙ has_none v

-- where a mask is found inside another, its members are members of that
pub inside_has : (a b v : ℕ) → is_inside a b ≡ true → has a v ≡ true → has b v ≡ true
inside_has a b v e h = sym (ap (λ c. c && has b v) h) ∙ sym (has_meet a b v) ∙ ap (λ n. has n v) (eqb-true (bit_and a b) a e) ∙ h

above_has : (n a v : ℕ) → a < 2 ^ n → n ≤ v → has a v ≡ false
unfolding has
above_has n a v lt le = ap (λ x. x == 1) (bit_at_above a n v lt le)

-- where a mask is found below n, its members are below n
pub below_has : (n a v : ℕ) → is_below n a ≡ true → has a v ≡ true → v < n
below_has n a v e h = go (ltb v n) refl
  where
    go : (c : Bool) → ltb v n ≡ c → v < n
    go true k = ltb-true v n k
    go false k = absurd (grind (
      arith,
      h,
      above_has n a v (ltb-true a (2 ^ n) e)
          (let d : v < n → ⊥ = λ lt. absurd (grind (arith, k, lt-ltb v n lt)) in omega arith),
    ))

-- a part put back
pub put_back : (a b : ℕ) → is_inside b a ≡ true → union (minus a b) b ≡ a
put_back a b e = same_from_has (union (minus a b) b) a (λ v. has_join (minus a b) b v ∙ ap (λ p. p || has b v) (has_minus a b v)
    ∙ back (has a v) (has b v) (inside_has b a v e))
  where
    back : (p q : Bool) → (q ≡ true → p ≡ true) → ((p && not q) || q) ≡ p
    back true true h = refl
    back true false h = refl
    back false true h = sym (h refl)
    back false false h = refl

-- of three masks joined in a row, the first two or the last two may be joined first
pub join_assoc : (a b c : ℕ) → union (union a b) c ≡ union a (union b c)
join_assoc a b c = same_from_has (union (union a b) c) (union a (union b c)) (λ v.
    has_join (union a b) c v ∙ ap (λ p. p || has c v) (has_join a b v) ∙ or_assoc (has a v) (has b v) (has c v)
    ∙ sym (has_join a (union b c) v ∙ ap (λ p. has a v || p) (has_join b c v)))
  where
    or_assoc : (p q r : Bool) → ((p || q) || r) ≡ (p || (q || r))
    or_assoc true q r = refl
    or_assoc false q r = refl

-- the join with the empty set changes nothing
pub join-zero : (a : ℕ) → union a 0 ≡ a
join-zero a = same_from_has (union a 0) a (λ v. has_join a 0 v ∙ ap (λ p. has a v || p) (has_none v) ∙ or_false (has a v))
  where
    or_false : (p : Bool) → (p || false) ≡ p
    or_false true = refl
    or_false false = refl

pub zero-join : (a : ℕ) → union 0 a ≡ a
zero-join a = same_from_has (union 0 a) a (λ v. has_join 0 a v ∙ ap (λ p. p || has a v) (has_none v))

-- ---- and back: tests from members
pub zero_from : (a : ℕ) → ((v : ℕ) → has a v ≡ false) → a ≡ 0
zero_from a h = zero_from_empty a h

-- where no member of the first mask is one of the second, they are found apart
pub apart_from : (a b : ℕ) → ((v : ℕ) → has a v ≡ true → has b v ≡ false) → is_apart a b ≡ true
apart_from a b h = eq-eqb (bit_and a b) 0 (zero_from (bit_and a b) (λ v. has_meet a b v ∙ never (has a v) (has b v) (h v)))
  where
    never : (p q : Bool) → (p ≡ true → q ≡ false) → (p && q) ≡ false
    never true q k = k refl
    never false q k = refl

-- where each member of a mask is one of another, it is found inside that
pub inside_from : (a b : ℕ) → ((v : ℕ) → has a v ≡ true → has b v ≡ true) → is_inside a b ≡ true
inside_from a b h = eq-eqb (bit_and a b) a (same_from_has (bit_and a b) a (λ v. has_meet a b v ∙ absorbs (has a v) (has b v) (h v)))
  where
    absorbs : (p q : Bool) → (p ≡ true → q ≡ true) → (p && q) ≡ p
    absorbs true q k = k refl
    absorbs false q k = refl

-- where each member of a mask is below n, it is found below n
pub below_from : (n a : ℕ) → ((v : ℕ) → has a v ≡ true → v < n) → is_below n a ≡ true
below_from n a h =
    let e : bit_and a (all n) ≡ a = same_from_has (bit_and a (all n)) a (λ v. has_meet a (all n) v ∙ kept v (has a v) (h v)) in
    lt-ltb a (2 ^ n) (omega (arith, mask_lt a n, e))
  where
    kept : (v : ℕ) (p : Bool) → (p ≡ true → v < n) → (p && has (all n) v) ≡ p
    kept v true k = has_all n v (k refl)
    kept v false k = refl

-- a mask with a member isn't 0
pub filled_has : (a v : ℕ) → has a v ≡ true → a ≡ 0 → ⊥
filled_has a v h e = absurd (grind (arith, h, ap (λ n. has n v) e ∙ has_none v))

pub join_filled : (a b : ℕ) → (a ≡ 0 → ⊥) → union a b ≡ 0 → ⊥
join_filled a b ne e = ne (zero_from a (λ v. first (has a v) (has b v) (sym (has_join a b v) ∙ ap (λ n. has n v) e ∙ has_none v)))
  where
    first : (p q : Bool) → (p || q) ≡ false → p ≡ false
    first true q k = k
    first false q k = refl

-- a mask that isn't 0 isn't found empty
pub not_empty : (a : ℕ) → (a ≡ 0 → ⊥) → not (is_empty a) ≡ true
not_empty a ne = ap not (ne_eqb a 0 ne)

-- a mask that isn't found empty isn't 0
pub filled_from : (a : ℕ) → not (is_empty a) ≡ true → a ≡ 0 → ⊥
filled_from a e z = absurd (grind (arith, e, ap not (eq-eqb a 0 z)))
