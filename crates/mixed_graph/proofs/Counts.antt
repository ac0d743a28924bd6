use Rattle.std.proofs.Common.{◌≡◌, ℕ, zero, suc, ◌+◌, ◌*◌, ◌/◌, ◌%◌, ◌^◌, ◌<◌, ◌==◌, length, refl, sym, ap, ◌∙◌, arith}
use Rattle.std.specs.Int.Count.{ones}
use Rattle.std.specs.Int.{bit_at}
use Rattle.std.proofs.lemmas.Nat.{ones_cat, mod-pow-add, mod_below, pow_pos}
use Rattle.std.proofs.Math.Nat.{mod-eq_of_lt}
use Rattle.std.proofs.lemmas.Nat.Bits.{bit_at-lt}
use Rattle.mixed_graph.specs.Bits.{has, members_below}
use Rattle.mixed_graph.proofs.Masks.{below_two}
use Rattle.mixed_graph.proofs.Members.{one_if, length-members-suc, length-members-zero}

one_if_bit : (n : ℕ) → n < 2 → one_if (n == 1) ≡ ones n
unfolding ones
one_if_bit = below_two (λ n. one_if (n == 1) ≡ ones n) refl refl

one_if_has : (m k : ℕ) → one_if (has m k) ≡ ones (bit_at m k)
unfolding has
one_if_has m k = one_if_bit (bit_at m k) (bit_at-lt m k)

no_ones : ones 0 ≡ 0
unfolding ones
no_ones = refl

mod_one : (m : ℕ) → m % 2 ^ 0 ≡ 0
mod_one m = let b : m % 1 < 1 = mod_below m 1 (omega arith) in omega (arith, b)

-- the members below k are the ones among the low k bits
count_below : (m k : ℕ) → length (members_below (has m) k) ≡ ones (m % 2 ^ k)
count_below m zero = length-members-zero (has m) ∙ sym (ap ones (mod_one m) ∙ no_ones)
count_below m (suc k) =
    let low = count_below m k in
    let split : m % 2 ^ (1 + k) ≡ (m / 2 ^ k % 2 ^ 1) * 2 ^ k + m % 2 ^ k = mod-pow-add m 1 k in
    let cat : ones ((m / 2 ^ k % 2 ^ 1) * 2 ^ k + m % 2 ^ k) ≡ ones (m / 2 ^ k % 2 ^ 1) + ones (m % 2 ^ k) =
    ones_cat k (m / 2 ^ k % 2 ^ 1) (m % 2 ^ k) (mod_below m (2 ^ k) (pow_pos k)) in
    let one : one_if (has m k) ≡ ones (m / 2 ^ k % 2 ^ 1) = one_if_has m k in
    let whole : ones (m % 2 ^ suc k) ≡ ones (m / 2 ^ k % 2 ^ 1) + ones (m % 2 ^ k) = ap (λ j. ones (m % 2 ^ j)) {x = suc k} {y = 1 + k} (omega arith)
    ∙ ap ones split ∙ cat in
    omega (arith, length-members-suc (has m) k, low, one, whole)

pub count_ones_members : (m : ℕ) → m < 2 ^ 64 → ones m ≡ length (members_below (has m) 64)
count_ones_members m h = sym (count_below m 64 ∙ ap ones (mod-eq_of_lt h))
