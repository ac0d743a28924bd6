use Rattle.std.proofs.Common.{◌≡◌, ℕ, ◌+◌, ◌*◌, ◌%◌, ◌^◌, ◌<◌, Bool, true, false, ◌&&◌, ◌||◌, ◌==◌, List, get_or, set, take, length, replicate}
use Rattle.std.proofs.Common.{bit_or, inl, inr, refl, sym, ap, ◌∙◌}
use Rattle.std.proofs.lemmas.Bool.{cases_lt, cases_eq, eq-eqb, ne_eqb}
use Rattle.std.proofs.lemmas.List.Folds.{list_any_more}
use Rattle.std.proofs.lemmas.List.{get_or-set_same, get_or-set_other, get_or-replicate, get_or_past, length-replicate}
use Rattle.mixed_graph.specs.Bits.{has}
use Rattle.mixed_graph.specs.Pairs.{has_pair}
use Rattle.mixed_graph.proofs.Masks.{has-or, has-one_shl, has-zero}

-- a bit that is set in one of the masks
pub mask_more : (m : List ℕ) (i k a b : ℕ) → i < length m → k < 64 →
    has (get_or (set m i (bit_or (get_or m i 0) (1 * 2 ^ k % 2 ^ 64))) a 0) b ≡ (has (get_or m a 0) b || ((a == i) && (b == k)))
mask_more m i k a b below fits = elim (cases_eq a i) [
  | inl e ↦ let t : (a == i) ≡ true = eq-eqb a i e in
      ap (λ x. has x b) (ap (λ j. get_or (set m i (bit_or (get_or m i 0) (1 * 2 ^ k % 2 ^ 64))) j 0) e ∙ get_or-set_same m i _ 0 below)
      ∙ has-or (get_or m i 0) (1 * 2 ^ k % 2 ^ 64) b
      ∙ ap (λ x. has (get_or m i 0) b || x) (has-one_shl k b fits ∙ sym (ap (λ x. x && (b == k)) t))
      ∙ ap (λ j. has (get_or m j 0) b || ((a == i) && (b == k))) (sym e)
  | inr d ↦ let f : (a == i) ≡ false = ne_eqb a i d in
      ap (λ x. has x b) (get_or-set_other m i a _ 0 d) ∙ or_none (has (get_or m a 0) b) ((a == i) && (b == k)) (ap (λ x. x && (b == k)) f)
]
  where
    or_none : (x y : Bool) → y ≡ false → x ≡ (x || y)
    or_none true y e = refl
    or_none false y e = sym e

-- one more pair
pub joins_more : (pairs : List (ℕ × ℕ)) (i a b : ℕ) → i < length pairs →
    has_pair (take (i + 1) pairs) a b ≡ (has_pair (take i pairs) a b || ((a == (get_or pairs i (0, 0)).0) && (b == (get_or pairs i (0, 0)).1)))
joins_more pairs i a b h = list_any_more (λ p. (a == p.0) && (b == p.1)) pairs i (0, 0) h

-- each entry of a blank array is 0
pub blank : (n i : ℕ) → ◌≡◌ {A = ℕ} (get_or (replicate n 0) i 0) 0
blank n i = elim (cases_lt i n) [
  | inl h ↦ get_or-replicate n i 0 0 h
  | inr h ↦ get_or_past (replicate n 0) i 0 (simp length-replicate h)
]

-- in 64 rows that are all 0, no row has a member
pub no_mask : (a b : ℕ) → has (get_or (replicate 64 0) a 0) b ≡ false
no_mask a b = ap (λ x. has x b) (blank 64 a) ∙ has-zero b

-- two tests hold together in either order
pub and_swap : (x y : Bool) → (x && y) ≡ (y && x)
and_swap true true = refl
and_swap true false = refl
and_swap false true = refl
and_swap false false = refl
