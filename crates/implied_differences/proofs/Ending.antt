-- The best of all cells is the largest difference.
use Rattle.std.proofs.Common.{ℕ, ◌+◌, ◌*◌, ◌≡◌, ◌≢◌, ◌<◌, ◌≤◌, List, get_or, All, sym, ap, ap₂, subst, ◌∙◌, inl, inr, ◌⊎◌, arith}
use Rattle.std.specs.Prelude.{pos, ◌-ℤ◌}
use Rattle.std.specs.Int.{abs_diff}
use Rattle.count_rows.specs.Vocabulary.{Table}
use Rattle.count_table.specs.Vocabulary.{AreCounts, HasCell, place_at, cells_over}
use Rattle.count_eval.specs.Vocabulary.{cell_of}
use Rattle.implications.specs.declared.pairs.Implication.{Implication}
use Rattle.implied_differences.specs.declared.candidates.Candidate.{Candidate}
use Rattle.implied_differences.specs.declared.largest.Difference.{Difference}
use Rattle.implied_differences.specs.declared.layout.Layout.{Layout}
use Rattle.implied_differences.specs.Differences.{left, right, difference, distance, IsReadable, axes_in, IsLargest}
use Rattle.implied_differences.specs.Layouts.{IsLayoutOf}
use Rattle.implied_differences.specs.Blocks.{left_at, right_at, gap_at, number_at, IsSeen, IsOf, IsNone, IsBestOf}
use Rattle.implied_differences.proofs.Agreeing.{left_most, right_most}
use Rattle.implied_differences.proofs.Bases.{same_digits, two_digits}
use Rattle.implied_differences.proofs.Spots.{IsCellIn, given_place, left_is, right_is, distance_is, numbered, first_below, second_below, given_below}
use Rattle.implied_differences.proofs.Spots.{assignment}
use Rattle.implied_differences.proofs.Visiting.{seen_before}
use Rattle.implied_differences.proofs.Walking.{cells_are, a_level, b_level}

module _ (t : Table) (are : AreCounts t) (i : Implication) (r : IsReadable t i) (l : Layout) (h : IsLayoutOf t i l) (c : Candidate) (b : IsBestOf t i l c) where
  seen : (s : ℕ → ℕ) → IsCellIn t are i r l h s → IsSeen l l.count 0 0 (given_place t are i r l h s) (s i.a) (s i.b)
  seen s cell =
      seen_before l l.count (given_place t are i r l h s) (s i.a) (s i.b) (given_below t are i r l h s cell) (first_below t are i r l h s cell)
      (second_below t are i r l h s cell) (given_below t are i r l h s cell)

  -- the number is that of a cell
  total : l.firsts * l.seconds * l.count ≡ cells_over (axes_in t i)
  total = ap₂ (λ x y. x * y * l.count) h.firsts h.seconds ∙ cells_are t are i r l.count h.count

  in_all : (u p q : ℕ) → p < l.firsts → q < l.seconds → u < l.count → number_at l u p q < l.firsts * l.seconds * l.count
  in_all u p q lp lq lu = two_digits (p * l.seconds + q) (l.firsts * l.seconds) l.count u (two_digits p l.firsts l.seconds q lp lq) lu

  positive : 0 < l.firsts → 0 < l.seconds → 0 < l.count → 0 < l.firsts * l.seconds * l.count
  positive x y z = below (number_at l 0 0 0) (l.firsts * l.seconds * l.count) (in_all 0 0 0 x y z)
    where
      below : (m n : ℕ) → m < n → 0 < n
      below m n lt = omega arith

  pub number_below : 0 < l.count → c.number < cells_over (axes_in t i)
  number_below some = go b.best.found
    where
      go : ((u : ℕ) × (p : ℕ) × (q : ℕ) × IsOf b.cells l c u p q) ⊎ IsNone c → c.number < cells_over (axes_in t i)
      go (inl (u, p, q, of)) = subst (λ n. c.number < n) total (subst (λ n. n < l.firsts * l.seconds * l.count) (sym of.number)
          (in_all u p q of.first of.second of.given))
      go (inr none) = subst (λ n. c.number < n) total (subst (λ n. n < l.firsts * l.seconds * l.count) (sym none.number)
          (positive (subst (λ n. 0 < n) (sym h.firsts) (a_level t are i r)) (subst (λ n. 0 < n) (sym h.seconds) (b_level t are i r)) some))

  -- its products are small
  pub products_small : (c.left ≤ 1000000000000000000000000000000) × (c.right ≤ 1000000000000000000000000000000)
  products_small = go b.best.found
    where
      go : ((u : ℕ) × (p : ℕ) × (q : ℕ) × IsOf b.cells l c u p q) ⊎ IsNone c → (c.left ≤ 1000000000000000000000000000000)
          × (c.right ≤ 1000000000000000000000000000000)
      go (inl (u, p, q, of)) =
          let (s, k) = assignment t are i r l h p q u of.first of.second of.given in
          let e = left_is t are i r l h b.cells b.sums s k.cell ∙ ap (λ w. left_at b.cells l w (s i.a) (s i.b)) k.given
          ∙ ap₂ (λ x y. left_at b.cells l u x y) k.first k.second ∙ sym of.left in
          let f = right_is t are i r l h b.cells b.sums s k.cell ∙ ap (λ w. right_at b.cells l w (s i.a) (s i.b)) k.given
          ∙ ap₂ (λ x y. right_at b.cells l u x y) k.first k.second ∙ sym of.right in
          (subst (λ n. n ≤ 1000000000000000000000000000000) e (left_most t are i s), subst (λ n. n ≤ 1000000000000000000000000000000) f (right_most t are i s))
      go (inr none) = (zero_small c.left none.left, zero_small c.right none.right)
        where
          zero_small : (n : ℕ) → n ≡ 0 → n ≤ 1000000000000000000000000000000
          zero_small n e = omega arith

  module _ (cell : List ℕ) (has_cell : HasCell (axes_in t i) cell) (place : place_at (axes_in t i) (cell_of cell) ≡ c.number) where
    -- the cell's difference is that of the two products
    pub record IsDifference : Type 0 where
      pub difference : pos c.left -ℤ pos c.right ≡ difference t i (cell_of cell)
      pub distance : distance t i (cell_of cell) ≡ c.distance

    here : gap_at b.cells l (given_place t are i r l h (cell_of cell)) (get_or cell i.a 0) (get_or cell i.b 0) ≡ distance t i (cell_of cell)
    here = sym (distance_is t are i r l h b.cells b.sums (cell_of cell) has_cell.cell)

    pub is_difference : IsDifference
    is_difference = go b.best.found
      where
        s : ℕ → ℕ
        s v = get_or cell v 0

        go : ((u : ℕ) × (p : ℕ) × (q : ℕ) × IsOf b.cells l c u p q) ⊎ IsNone c → IsDifference
        go (inl (u, p, q, of)) =
            let same = same_digits l.seconds l.count p q u (cell_of cell i.a) (cell_of cell i.b) (given_place t are i r l h (cell_of cell)) of.second
            (second_below t are i r l h (cell_of cell) has_cell.cell)
            of.given (given_below t are i r l h (cell_of cell) has_cell.cell)
            (sym of.number ∙ sym place ∙ numbered t are i r l h (cell_of cell) has_cell.cell) in
            let e : left t i (cell_of cell) ≡ c.left = left_is t are i r l h b.cells b.sums (cell_of cell) has_cell.cell
            ∙ ap (λ w. left_at b.cells l w (cell_of cell i.a) (cell_of cell i.b)) (sym same.third)
            ∙ ap₂ (λ x y. left_at b.cells l u x y) (sym same.first) (sym same.second) ∙ sym of.left in
            let f : right t i (cell_of cell) ≡ c.right = right_is t are i r l h b.cells b.sums (cell_of cell) has_cell.cell
            ∙ ap (λ w. right_at b.cells l w (cell_of cell i.a) (cell_of cell i.b)) (sym same.third)
            ∙ ap₂ (λ x y. right_at b.cells l u x y) (sym same.first) (sym same.second) ∙ sym of.right in
            record {
              difference = ap₂ (λ x y. pos x -ℤ pos y) (sym e) (sym f);
              distance = ap₂ abs_diff e f ∙ sym b.best.distance;
            }
        go (inr none) =
            let zero_gap : c.distance ≡ 0 = b.best.distance ∙ ap₂ abs_diff none.left none.right in
            let most = b.best.greatest (given_place t are i r l h (cell_of cell)) (cell_of cell i.a) (cell_of cell i.b) (seen (cell_of cell) has_cell.cell) in
            let none_apart : distance t i (cell_of cell) ≡ 0 = nothing
            (gap_at b.cells l (given_place t are i r l h (cell_of cell)) (cell_of cell i.a) (cell_of cell i.b)) (distance t i (cell_of cell))
            c.distance here most zero_gap in
            let even = equal (left t i (cell_of cell)) (right t i (cell_of cell)) none_apart in
            record {
              difference = ap₂ (λ x y. pos x -ℤ pos y) none.left none.right ∙ sym (level (left t i (cell_of cell)) (right t i (cell_of cell)) even);
              distance = none_apart ∙ sym zero_gap;
            }
          where
            nothing : (g d m : ℕ) → g ≡ d → g ≤ m → m ≡ 0 → d ≡ 0
            nothing g d m e le z = omega arith

            equal : (x y : ℕ) → abs_diff x y ≡ 0 → x ≡ y
            equal x y e = grind (arith, e)

            level : (x y : ℕ) → x ≡ y → pos x -ℤ pos y ≡ pos 0
            level x y e = grind (arith, e)

  pub best_ends : (d : Difference) → HasCell (axes_in t i) d.cell → ((v : ℕ) → All (λ u. u ≢ v) (axes_in t i).vertices → get_or d.cell v 0 ≡ 0)
      → place_at (axes_in t i) (cell_of d.cell) ≡ c.number → d.value ≡ pos c.left -ℤ pos c.right → IsLargest t i d
  best_ends d has_cell outside place value =
      let is = is_difference d.cell has_cell place in
      record {
        cell = has_cell;
        outside = outside;
        value = value ∙ is.difference;
        greatest = λ s cell. subst (λ n. distance t i s ≤ n) (sym is.distance)
            (subst (λ n. n ≤ c.distance) (sym (distance_is t are i r l h b.cells b.sums s cell))
            (b.best.greatest (given_place t are i r l h s) (s i.a) (s i.b) (seen s cell)));
        first = λ s cell lt. subst (λ n. distance t i s < n) (sym is.distance)
            (subst (λ n. n < c.distance) (sym (distance_is t are i r l h b.cells b.sums s cell))
            (b.best.least (given_place t are i r l h s) (s i.a) (s i.b) (seen s cell)
            (subst (λ n. n < c.number) (numbered t are i r l h s cell) (subst (λ n. place_at (axes_in t i) s < n) place lt))));
      }
