-- The largest difference is 0 wherever a model of the graph matches the counts.
use Rattle.std.proofs.Common.{ℕ, ◌≡◌, ◌≢◌, ◌<◌, Bool, true, false, ◌||◌, List, [], ◌∷◌, get_or, map, All, sym, subst, ◌∙◌, refl}
use Rattle.std.specs.List.{filter}
use Rattle.std.proofs.lemmas.Bool.{or_parts, eqb-false, ltb-true}
use Rattle.std.proofs.lemmas.List.Elements.{All-nil, All-cons}
use Rattle.mixed_graph.specs.Vocabulary.{has}
use Rattle.count_rows.specs.Vocabulary.{Table}
use Rattle.count_table.specs.Vocabulary.{IsCell, AreCounts}
use Rattle.count_eval.specs.Vocabulary.{cell_of}
use Rattle.count_table.proofs.CellLevels.{levels_hold, outside_of}
use Rattle.count_table.proofs.Choosing.{size_in}
use Rattle.implications.specs.declared.pairs.Implication.{Implication}
use Rattle.implications.specs.Vocabulary.{only}
use Rattle.implied_differences.specs.declared.largest.Difference.{Difference}
use Rattle.implied_differences.specs.Differences.{whole_of, IsReadable, axes_in, IsLargest}
use Rattle.implied_differences.specs.Laws.{IsZeroWhereMatched}
use Rattle.implied_differences.proofs.Agreeing.{whole_holds}
use Rattle.implied_differences.proofs.Vanishing.{matched_differences_vanish}

cell-levels : (f at : ℕ → ℕ) (vs : List ℕ) → IsCell (map f vs) (map at vs) → All (λ v. at v < f v) vs
cell-levels f at [] h = All-nil (λ v. at v < f v)
cell-levels f at (v ∷ vs) h = All-cons (λ u. at u < f u) v vs h.0 (cell-levels f at vs h.1)

module _ (t : Table) (are : AreCounts t) (i : Implication) (r : IsReadable t i) (d : Difference) (largest : IsLargest t i d) where
  inside : (v : ℕ) → whole_of i v ≡ true → get_or d.cell v 0 < size_in t v
  inside v e =
      levels_hold (λ u. whole_of i u ≡ true → get_or d.cell u 0 < size_in t u) t.vertices t.levels v
      (whole_holds i (λ u. get_or d.cell u 0 < size_in t u) t.vertices (cell-levels (size_in t) (cell_of d.cell) (axes_in t i).vertices largest.cell.cell))
      (ltb-true 0 (size_in t v) (r.used v e)) e

  outside : (v : ℕ) → whole_of i v ≡ false → get_or d.cell v 0 ≡ 0
  outside v e =
      let p = or_parts (only i.a v) (only i.b v || has i.given.bits v) e in
      let q = or_parts (only i.b v) (has i.given.bits v) p.1 in
      largest.outside v (All-cons (λ u. u ≢ v) i.a (i.b ∷ filter (has i.given.bits) t.vertices) (λ s. eqb-false v i.a p.0 (sym s))
      (All-cons (λ u. u ≢ v) i.b (filter (has i.given.bits) t.vertices) (λ s. eqb-false v i.b q.0 (sym s)) (outside_of t (has i.given.bits) v q.1)))

  pub zero_where_matched : IsZeroWhereMatched t i d
  zero_where_matched g ok is m by = largest.value ∙ matched_differences_vanish g ok i is t r.used m by (cell_of d.cell)
      (λ v lt. within v lt (whole_of i v) refl)
    where
      within : (v : ℕ) → v < m.vertices → (b : Bool) → whole_of i v ≡ b → get_or d.cell v 0 < m.size v
      within v lt true e = subst (λ n. get_or d.cell v 0 < n) (by.matched.sizes v lt (r.used v e)) (inside v e)
      within v lt false e = subst (λ n. n < m.size v) (sym (outside v e)) (by.fits.positive_size v lt)
