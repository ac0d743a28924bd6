-- An assignment that has levels has a cell, and the other way round.
use Rattle.std.proofs.Common.{ℕ, ◌≡◌, ◌≢◌, ◌<◌, Bool, true, false, cond, IsTrue, List, [], ◌∷◌, length, get_or, map, All, refl, ap, subst, inl, inr, arith}
use Rattle.std.specs.List.{filter}
use Rattle.std.proofs.lemmas.Bool.Decides.{eqb_tells}
use Rattle.std.proofs.lemmas.List.Elements.{All-nil, All-cons, All-head, All-tail, All-weaker, filter_passes}
use Rattle.count_rows.specs.Vocabulary.{Field, Table}
use Rattle.count_table.specs.Cells.{IsCell}
use Rattle.count_table.specs.Tables.{levels_in, HasLevels}
use Rattle.count_table.specs.Axes.{axes_of, HasCell}
use Rattle.count_table.proofs.Choosing.{size_in}
use Rattle.count_table.proofs.SumCells.{IsCell-map}

-- the assignment has a place
pub has_cell : (t : Table) (of : ℕ → Bool) (at : List ℕ) → HasLevels t of at → HasCell (axes_of t of) at
has_cell t of at h = record {
  there = All-weaker (λ v. of v ≡ true) (λ v. v < length at) (λ v e. (h v e).0) (filter of t.vertices) (filter_passes of t.vertices);
  cell = IsCell-map (size_in t) (λ v. get_or at v 0) (filter of t.vertices)
      (All-weaker (λ v. of v ≡ true) (λ v. get_or at v 0 < size_in t v) (λ v e. (h v e).1) (filter of t.vertices) (filter_passes of t.vertices));
}

-- what holds of all used vertices holds of one that has a level
pub levels_hold : (Q : ℕ → Type 0) (vs : List ℕ) (levels : List (List Field)) (v : ℕ) → All Q vs → 0 < length (levels_in vs levels v) → Q v
levels_hold Q [] levels v h lt = absurd (omega arith)
levels_hold Q (u ∷ us) [] v h lt = absurd (omega arith)
levels_hold Q (u ∷ us) (ys ∷ levels) v h lt = elim (eqb_tells u v) [
  | inl same ↦ subst Q same.1 (All-head Q u us h)
  | inr other ↦
      let e = ap (λ b. length (cond b ys (levels_in us levels v))) other.0 in
      levels_hold Q us levels v (All-tail Q u us h) (omega (arith, lt, e))
]

-- what holds of the members of a list that pass a test holds of each of its members that passes
pub filter-holds : (P : ℕ → Type 0) (p : ℕ → Bool) (vs : List ℕ) → All P (filter p vs) → All (λ u. p u ≡ true → P u) vs
filter-holds P p [] h = All-nil (λ u. p u ≡ true → P u)
filter-holds P p (v ∷ vs) h = step (p v) refl h (λ k. filter-holds P p vs k)
  where
    step : (b : Bool) → p v ≡ b → All P (cond b (v ∷ filter p vs) (filter p vs)) → (All P (filter p vs) → All (λ u. p u ≡ true → P u) vs)
        → All (λ u. p u ≡ true → P u) (v ∷ vs)
    step true e k rest = All-cons (λ u. p u ≡ true → P u) v vs (λ _. All-head P v (filter p vs) k) (rest (All-tail P v (filter p vs) k))
    step false e k rest = All-cons (λ u. p u ≡ true → P u) v vs (λ member. absurd (cc (e, member))) (rest k)

cell-levels : (f at : ℕ → ℕ) (vs : List ℕ) → IsCell (map f vs) (map at vs) → All (λ v. at v < f v) vs
cell-levels f at [] h = All-nil (λ v. at v < f v)
cell-levels f at (v ∷ vs) h = All-cons (λ u. at u < f u) v vs h.0 (cell-levels f at vs h.1)

-- an assignment that has a cell of a set of used vertices has levels of them
pub has_levels : (t : Table) (of : ℕ → Bool) (at : List ℕ) → ((v : ℕ) → IsTrue (of v) → 0 < size_in t v) → HasCell (axes_of t of) at → HasLevels t of at
has_levels t of at used h v member =
    let levels = cell-levels (size_in t) (λ u. get_or at u 0) (filter of t.vertices) h.cell in
    let all = filter-holds (λ u. (u < length at) × (get_or at u 0 < size_in t u)) of t.vertices (λ i d lt. (h.there i d lt, levels i d lt)) in
    levels_hold (λ u. of u ≡ true → (u < length at) × (get_or at u 0 < size_in t u)) t.vertices t.levels v all (used v member) member

-- a vertex outside the set is none of its used vertices
pub outside_of : (t : Table) (of : ℕ → Bool) (v : ℕ) → of v ≡ false → All (λ u. u ≢ v) (filter of t.vertices)
outside_of t of v out i d lt = λ e. (let member = filter_passes of t.vertices i d lt in let same = ap of e in absurd (cc (member, same, out)))
