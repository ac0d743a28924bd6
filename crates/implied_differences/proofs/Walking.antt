-- The cell of a number.
use Rattle.std.proofs.Common.{ℕ, zero, suc, ◌+◌, ◌*◌, ◌/◌, ◌%◌, ◌≡◌, ◌≢◌, ◌<◌, true, ◌||◌, List, ◌∷◌, length, get_or, All, refl, sym, ap, ap₂, subst}
use Rattle.std.proofs.Common.{◌∙◌, arith}
use Rattle.std.specs.List.{filter}
use Rattle.std.proofs.lemmas.Bool.{or_left, or_right, eq-eqb, ltb-true}
use Rattle.std.proofs.lemmas.List.Elements.{All-cons, All-head, All-tail}
use Rattle.std.proofs.lemmas.Nat.{div_below}
use Rattle.mixed_graph.specs.Vocabulary.{has}
use Rattle.count_rows.specs.Vocabulary.{Table}
use Rattle.count_table.specs.Vocabulary.{place_of, AreCounts, axes_of, HasCell, place_at, cells_over}
use Rattle.count_eval.specs.Vocabulary.{cell_of}
use Rattle.count_table.specs.Axes.{Axes}
use Rattle.count_table.proofs.CellLevels.{levels_hold, outside_of}
use Rattle.count_table.proofs.Choosing.{size_in}
use Rattle.implications.specs.declared.pairs.Implication.{Implication}
use Rattle.implications.specs.Vocabulary.{only}
use Rattle.implied_differences.specs.Differences.{whole_of, IsReadable, axes_in}

module _ (t : Table) (are : AreCounts t) (i : Implication) (r : IsReadable t i) where
  level_of : (v : ℕ) → whole_of i v ≡ true → 0 < size_in t v
  level_of v e = ltb-true 0 (size_in t v) (r.used v e)

  pub a_level : 0 < size_in t i.a
  a_level = level_of i.a (or_left (only i.a i.a) (only i.b i.a || has i.given.bits i.a) (eq-eqb i.a i.a refl))

  pub b_level : 0 < size_in t i.b
  b_level = level_of i.b (or_right (only i.a i.b) (only i.b i.b || has i.given.bits i.b) (or_left (only i.b i.b) (has i.given.bits i.b) (eq-eqb i.b i.b refl)))

  pub a_below : i.a < 64
  a_below = levels_hold (λ v. v < 64) t.vertices t.levels i.a are.in_range a_level

  pub b_below : i.b < 64
  b_below = levels_hold (λ v. v < 64) t.vertices t.levels i.b are.in_range b_level

  pub a_outside : All (λ u. u ≢ i.a) (filter (has i.given.bits) t.vertices)
  a_outside = outside_of t (has i.given.bits) i.a r.a_apart

  pub b_outside : All (λ u. u ≢ i.b) (filter (has i.given.bits) t.vertices)
  b_outside = outside_of t (has i.given.bits) i.b r.b_apart

  regroup : (a b p : ℕ) → a * (b * p) ≡ (a * b) * p
  regroup a b p = grind arith

  -- the number of cells
  pub cells_are : (p : ℕ) → p ≡ cells_over (axes_of t (has i.given.bits)) → (size_in t i.a * size_in t i.b) * p ≡ cells_over (axes_in t i)
  cells_are p e = sym (regroup (size_in t i.a) (size_in t i.b) p) ∙ ap (λ n. size_in t i.a * (size_in t i.b * n)) e

  module _ (number : ℕ) (lt : number < cells_over (axes_in t i)) where
    some_cells : (n a b p : ℕ) → n < a * (b * p) → 0 < p
    some_cells n a b zero l = absurd (let e : a * (b * zero) ≡ 0 = omega arith in omega (arith, l, e))
    some_cells n a b (suc p) l = omega arith

    pub given_cells : 0 < cells_over (axes_of t (has i.given.bits))
    given_cells = some_cells number (size_in t i.a) (size_in t i.b) (cells_over (axes_of t (has i.given.bits))) lt

    pair_below : number / cells_over (axes_of t (has i.given.bits)) < size_in t i.a * size_in t i.b
    pair_below = div_below number (cells_over (axes_of t (has i.given.bits))) (size_in t i.a * size_in t i.b) given_cells
        (subst (λ n. number < n) (regroup (size_in t i.a) (size_in t i.b) (cells_over (axes_of t (has i.given.bits)))) lt)

    pub first_below : number / cells_over (axes_of t (has i.given.bits)) / size_in t i.b < size_in t i.a
    first_below = div_below (number / cells_over (axes_of t (has i.given.bits))) (size_in t i.b) (size_in t i.a) b_level pair_below

    -- what the cell of the number has
    pub record HasDigits (cell : List ℕ) : Type 0 where
      pub long : length cell ≡ 64
      pub first : get_or cell i.a 0 ≡ number / cells_over (axes_of t (has i.given.bits)) / size_in t i.b
      pub second : get_or cell i.b 0 ≡ number / cells_over (axes_of t (has i.given.bits)) % size_in t i.b
      pub rest : HasCell (axes_of t (has i.given.bits)) cell
      pub place : place_at (axes_of t (has i.given.bits)) (cell_of cell) ≡ number % cells_over (axes_of t (has i.given.bits))
      pub outside : (v : ℕ) → v ≢ i.a → v ≢ i.b → All (λ u. u ≢ v) (filter (has i.given.bits) t.vertices) → get_or cell v 0 ≡ 0

    -- the same, where the axes and the number of b's levels have names
    pub digits_from : (x : Axes) (k : ℕ) (cell : List ℕ) → x ≡ axes_of t (has i.given.bits) → k ≡ size_in t i.b → length cell ≡ 64 → get_or cell i.a 0
        ≡ number / cells_over x / k → get_or cell i.b 0 ≡ number / cells_over x % k
        → HasCell x cell → place_at x (cell_of cell) ≡ number % cells_over x
        → ((v : ℕ) → v ≢ i.a → v ≢ i.b → All (λ u. u ≢ v) x.vertices → get_or cell v 0 ≡ 0) → HasDigits cell
    digits_from x k cell e f l p q r s o = record {
      long = l;
      first = p ∙ ap₂ (λ (y : Axes) m. number / cells_over y / m) e f;
      second = q ∙ ap₂ (λ (y : Axes) m. number / cells_over y % m) e f;
      rest = subst (λ (y : Axes). HasCell y cell) e r;
      place = ap (λ (y : Axes). place_at y (cell_of cell)) (sym e) ∙ s ∙ ap (λ (y : Axes). number % cells_over y) e;
      outside = λ v na nb none. o v na nb (subst (λ (y : Axes). All (λ u. u ≢ v) y.vertices) (sym e) none);
    }

    module _ (cell : List ℕ) (d : HasDigits cell) where
      first_less : get_or cell i.a 0 < size_in t i.a
      first_less = subst (λ n. n < size_in t i.a) (sym d.first) first_below

      second_less : get_or cell i.b 0 < size_in t i.b
      second_less = subst (λ n. n < size_in t i.b) (sym d.second) (remainder (number / cells_over (axes_of t (has i.given.bits))) (size_in t i.b) b_level)
        where
          remainder : (n k : ℕ) → 0 < k → n % k < k
          remainder n k h = omega arith

      pub digits_cell : HasCell (axes_in t i) cell
      digits_cell = record {
        there = All-cons (λ v. v < length cell) i.a (i.b ∷ filter (has i.given.bits) t.vertices) (subst (λ n. i.a < n) (sym d.long) a_below)
            (All-cons (λ v. v < length cell) i.b (filter (has i.given.bits) t.vertices) (subst (λ n. i.b < n) (sym d.long) b_below) d.rest.there);
        cell = (first_less, (second_less, d.rest.cell));
      }

      whole : (n p b x y q : ℕ) → 0 < b → 0 < p → x ≡ n / p / b → y ≡ n / p % b → q ≡ n % p → x * (b * p) + (y * p + q) ≡ n
      whole n p b x y q bp pp ex ey eq' = ap₂ (λ u v. u * (b * p) + (v * p + q)) ex ey ∙ horner (n / p / b) b (n / p % b) p q
          ∙ ap (λ k. k * p + q) (back (n / p) b bp) ∙ ap (λ k. n / p * p + k) eq' ∙ back n p pp
        where
          horner : (u b v p q : ℕ) → u * (b * p) + (v * p + q) ≡ (u * b + v) * p + q
          horner u b v p q = grind arith

          back : (n k : ℕ) → 0 < k → n / k * k + n % k ≡ n
          back n k h = omega arith

      pub digits_place : place_at (axes_in t i) (cell_of cell) ≡ number
      unfolding place_of
      digits_place = whole number (cells_over (axes_of t (has i.given.bits))) (size_in t i.b) (get_or cell i.a 0) (get_or cell i.b 0)
          (place_at (axes_of t (has i.given.bits)) (cell_of cell))
          b_level given_cells d.first d.second d.place

      pub digits_outside : (v : ℕ) → All (λ u. u ≢ v) (axes_in t i).vertices → get_or cell v 0 ≡ 0
      digits_outside v none =
          let rest = All-tail (λ u. u ≢ v) i.a (i.b ∷ filter (has i.given.bits) t.vertices) none in
          d.outside v (λ e. All-head (λ u. u ≢ v) i.a (i.b ∷ filter (has i.given.bits) t.vertices) none (sym e))
          (λ e. All-head (λ u. u ≢ v) i.b (filter (has i.given.bits) t.vertices) rest (sym e))
          (All-tail (λ u. u ≢ v) i.b (filter (has i.given.bits) t.vertices) rest)
