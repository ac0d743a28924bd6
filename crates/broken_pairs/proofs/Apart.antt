-- What follows of a difference that isn't 0.
use Rattle.std.proofs.Common.{◌≡◌, ◌≢◌, ◌≤◌, ◌∙◌, ℕ, Bool, true, false, refl, sym, ap, arith}
use Rattle.std.specs.Prelude.{ℤ, pos, zero, suc, negsuc, ◌-ℤ◌}
use Rattle.std.specs.Bool.{OnTrue, OnFalse}
use Rattle.std.specs.Int.{abs_diff}
use Rattle.std.proofs.lemmas.Bool.{false≢true}
use Rattle.std.proofs.lemmas.Int.{ints}
use Rattle.count_rows.specs.Vocabulary.{Table}
use Rattle.count_eval.specs.Vocabulary.{cell_of}
use Rattle.implications.specs.declared.pairs.Implication.{Implication}
use Rattle.implied_differences.specs.declared.largest.Difference.{Difference}
use Rattle.implied_differences.specs.Vocabulary.{IsReadable, IsLargest, left, right, distance, IsZeroWhereMatched}
use Rattle.broken_pairs.specs.Broken.{is_apart, IsBroken, Refutes}

pub not_zero : (z : ℤ) → is_apart z ≡ true → z ≢ pos 0
not_zero z e none = false≢true (sym (ap is_apart none) ∙ e)

is_zero : (z : ℤ) → is_apart z ≡ false → z ≡ pos 0
is_zero (pos zero) e = refl
is_zero (pos (suc n)) e = absurd (false≢true (sym e))
is_zero (negsuc n) e = absurd (false≢true (sym e))

no_distance : (x y : ℕ) → pos x -ℤ pos y ≡ pos 0 → abs_diff x y ≡ 0
no_distance x y e = omega (arith, ints, e)

no_difference : (x y : ℕ) → abs_diff x y ≡ 0 → pos x -ℤ pos y ≡ pos 0
no_difference x y e = omega (arith, ints, e)

none_more : (x y : ℕ) → x ≤ y → y ≡ 0 → x ≡ 0
none_more x y le e = omega (arith, le, e)

module _ (t : Table) (i : Implication) (d : Difference) (largest : IsLargest t i d) where
  -- where the largest isn't 0, the counts break the pair
  pub broken : IsReadable t i → is_apart d.value ≡ true → IsBroken t i
  broken readable e = record {
    readable = readable;
    cell = cell_of d.cell;
    levels = largest.cell.cell;
    apart = λ none. not_zero d.value e (largest.value ∙ none);
  }

  -- where it is 0, each is
  pub unbroken : is_apart d.value ≡ false → IsBroken t i → ⊥
  unbroken e b =
      let here : distance t i (cell_of d.cell) ≡ 0 =
      no_distance (left t i (cell_of d.cell)) (right t i (cell_of d.cell)) (sym largest.value ∙ is_zero d.value e) in
      b.apart (no_difference (left t i b.cell) (right t i b.cell)
      (none_more (distance t i b.cell) (distance t i (cell_of d.cell)) (largest.greatest b.cell b.levels) here))

-- and where it isn't 0, no model has the counts
pub refutes : (t : Table) (i : Implication) (d : Difference) → IsZeroWhereMatched t i d → is_apart d.value ≡ true → Refutes t i
refutes t i d zero_there e g ok is m fits matched = not_zero d.value e (zero_there g ok is m (record { fits = fits; matched = matched }))

-- the same of the code's test
pub unbroken_if : (t : Table) (i : Implication) (d : Difference) → IsLargest t i d → (b : Bool) → b ≡ is_apart d.value → OnFalse b (IsBroken t i → ⊥)
unbroken_if t i d largest true e = tt
unbroken_if t i d largest false e = unbroken t i d largest (sym e)

pub refutes_if : (t : Table) (i : Implication) (d : Difference) → IsZeroWhereMatched t i d → (b : Bool) → b ≡ is_apart d.value → OnTrue b (Refutes t i)
refutes_if t i d zero_there true e = refutes t i d zero_there (sym e)
refutes_if t i d zero_there false e = tt
