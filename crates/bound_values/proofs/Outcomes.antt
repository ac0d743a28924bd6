-- What two levels of the instruments have, summed over the outcomes, is no more than their records.
use Rattle.std.proofs.Common.{ℕ, zero, suc, ◌+◌, ◌*◌, ◌≡◌, ◌<◌, ◌≤◌, Bool, true, false, cond, eqb, not, ◌||◌, List, [], ◌∷◌, length, get_or, All, refl, sym, ap}
use Rattle.std.proofs.Common.{◌∙◌, subst, inl, inr, arith, leb, mul-le-mul_right}
use Rattle.std.proofs.lemmas.Bool.{cases_eq, cases_Bool, or_left, or_right, eqb-true, false≢true}
use Rattle.std.proofs.lemmas.List.{get_or-map, length-map}
use Rattle.std.proofs.lemmas.List.Elements.{All-head, All-tail}
use Rattle.std.proofs.lemmas.List.Sums.{sum_by-cons}
use Rattle.finite_models.specs.Vocabulary.{sum_below, sum_over, set_at}
use Rattle.finite_models.proofs.Bools.{and_first, and_second, not_both}
use Rattle.finite_models.proofs.Positive.{over-mono}
use Rattle.finite_models.proofs.SumLaws.{sum_below-congr, sum_below-zero, set_at-same, set_at-other, over-congr, over-add, over-scale}
use Rattle.count_rows.specs.Vocabulary.{Field, Row, Table, agrees, counted}
use Rattle.count_table.specs.Vocabulary.{sizes_of, IsCell, AreCounts, levels_in}
use Rattle.count_table.proofs.CellLists.{cells_of-are}
use Rattle.count_eval.specs.Vocabulary.{weights_in}
use Rattle.count_eval.proofs.CountedLaws.{counted_shrinks}
use Rattle.count_eval.proofs.TableLaws.{counted_local}
use Rattle.natural_bounds.specs.declared.ends.End.{End}
use Rattle.natural_bounds.specs.declared.ends.End.TheVariants.{AtLeast, AtMost}
use Rattle.natural_bounds.specs.Vocabulary.{Asked, fixed, joint, level}
use Rattle.crossed_bounds.specs.Vocabulary.{at_level, untaken, chosen}
use Rattle.bound_values.specs.Questions.{joint_set, level_set, IsCounted, HasPairs}
use Rattle.table_cells.proofs.Tables.{used_level}

-- ---- sums with one term

one_term : (m : ℕ) (f : ℕ → ℕ) (k a : ℕ) → ((x : ℕ) → f x ≤ k) → ((x : ℕ) → (x ≡ a → ⊥) → f x ≡ 0) → sum_below m f ≤ k
one_term zero f k a le none = omega arith
one_term (suc m) f k a le none = elim (cases_eq m a) [
  | inl e ↦
      let before : sum_below m f ≡ 0 = sum_below-congr m f (λ i. 0) (λ i lt. none i (λ same. absurd (omega (arith, lt, same, e)))) ∙ sum_below-zero m in
      let last = le m in omega (arith, before, last)
  | inr d ↦ let more = one_term m f k a le none in let last = none m d in omega (arith, more, last)
]

-- a sum over y of terms that are at most k, and 0 unless y has the values of one row, is at most k
module _ (y : ℕ → Bool) (size : ℕ → ℕ) (f : (ℕ → ℕ) → ℕ) (k : ℕ) (row : ℕ → ℕ) (none : (c : ℕ → ℕ) (v : ℕ) → y v ≡ true → (c v ≡ row v → ⊥) → f c ≡ 0)
    (P : (ℕ → ℕ) → Type 0) (stays : (c : ℕ → ℕ) (i x : ℕ) → y i ≡ true → P c → P (set_at c i x)) (le : (c : ℕ → ℕ) → P c → f c ≤ k) where
  nothing_there : (n : ℕ) (b : ℕ → ℕ) (v : ℕ) → n ≤ v → y v ≡ true → (b v ≡ row v → ⊥) → sum_over y size n f b ≡ 0
  nothing_there zero b v lt is_y d = none b v is_y d
  nothing_there (suc n) b v lt is_y d = go (y n) (λ c k. nothing_there n c v (omega (arith, lt)) is_y k)
    where
      go : (p : Bool) → ((c : ℕ → ℕ) → (c v ≡ row v → ⊥) → sum_over y size n f c ≡ 0) → cond p (sum_below (size n) (λ x. sum_over y size n f (set_at b n x))) (sum_over y size n f b) ≡ 0
      go true ih = sum_below-congr (size n) (λ x. sum_over y size n f (set_at b n x)) (λ i. 0)
          (λ x less. ih (set_at b n x) (λ same. d (sym (set_at-other b n x v (λ at. absurd (omega (arith, lt, at)))) ∙ same))) ∙ sum_below-zero (size n)
      go false ih = ih b d

  pub one_there : (n : ℕ) (b : ℕ → ℕ) → P b → sum_over y size n f b ≤ k
  one_there zero b p = le b p
  one_there (suc n) b p = go (y n) refl (λ c pc. one_there n c pc)
    where
      go : (q : Bool) → y n ≡ q → ((c : ℕ → ℕ) → P c → sum_over y size n f c ≤ k)
          → cond q (sum_below (size n) (λ x. sum_over y size n f (set_at b n x))) (sum_over y size n f b) ≤ k
      go true e ih = one_term (size n) (λ x. sum_over y size n f (set_at b n x)) k (row n) (λ x. ih (set_at b n x) (stays b n x e p))
          (λ x d. nothing_there n (set_at b n x) n (let r : n ≤ n = omega arith in r) e (λ same. d (sym (set_at-same b n x) ∙ same)))
      go false e ih = ih b p

-- ---- rows

-- the level that a row has of a vertex
abbrev value_at : List ℕ → List ℕ → ℕ → ℕ
value_at [] cell v = 0
value_at (u ∷ us) [] v = 0
value_at (u ∷ us) (x ∷ xs) v = cond (eqb u v) x (value_at us xs v)

meant : (p e : Bool) → p ≡ true → (not p || e) ≡ true → e ≡ true
meant true e h k = k
meant false e h k = absurd (false≢true h)

-- an assignment with which a row agrees has its levels
value_is : (vs : List ℕ) (levels : List (List Field)) (cell : List ℕ) (of : ℕ → Bool) (at : ℕ → ℕ) (v : ℕ) → length cell ≡ length vs
    → 0 < length (levels_in vs levels v) → of v ≡ true → agrees vs cell of at ≡ true → at v ≡ value_at vs cell v
value_is [] levels cell of at v long some is_of h = absurd (omega (arith, some))
value_is (u ∷ us) [] cell of at v long some is_of h = absurd (omega (arith, some))
value_is (u ∷ us) (ys ∷ levels) [] of at v long some is_of h = absurd (omega (arith, long))
value_is (u ∷ us) (ys ∷ levels) (x ∷ xs) of at v long some is_of h = go (eqb u v) refl some (λ k. value_is us levels xs of at v (omega (arith, long)) k is_of
    (and_second (not (of u) || eqb x (at u)) (agrees us xs of at) h))
  where
    go : (c : Bool) → eqb u v ≡ c → 0 < length (cond c ys (levels_in us levels v)) → (0 < length (levels_in us levels v) → at v ≡ value_at us xs v) → at v ≡ cond c x (value_at us xs v)
    go true e k ih =
        let same : u ≡ v = eqb-true u v e in
        ap at (sym same) ∙ sym (eqb-true x (at u) (meant (of u) (eqb x (at u)) (ap of same ∙ is_of)
        (and_first (not (of u) || eqb x (at u)) (agrees us xs of at) h)))
    go false e k ih = ih k

cell_long : (sizes cell : List ℕ) → IsCell sizes cell → length cell ≡ length sizes
cell_long [] [] is = refl
cell_long [] (x ∷ xs) is = absurd is
cell_long (n ∷ ns) [] is = absurd is
cell_long (n ∷ ns) (x ∷ xs) is = ap suc (cell_long ns xs is.1)

rows_long : (t : Table) → AreCounts t → All (λ (r : Row). length r.cell ≡ length t.vertices) t.rows
rows_long t are i d lt =
    let long = ap (λ (l : List (List ℕ)). length l) are.cells in
    let same = length-map t.rows (λ (r : Row). r.cell) in
    let is = subst (IsCell (sizes_of t.levels)) (ap (λ (l : List (List ℕ)). get_or l i d.cell) (sym are.cells)
    ∙ get_or-map (λ (r : Row). r.cell) t.rows i d d.cell lt)
    (cells_of-are (sizes_of t.levels) i d.cell (omega (arith, lt, long, same))) in
    cell_long (sizes_of t.levels) (get_or t.rows i d).cell is ∙ length-map t.levels (λ ys. length ys) ∙ are.matched

-- ---- over the outcomes
module _ (n : ℕ) (t : Table) (q : Asked) (are : AreCounts t) (asked : IsCounted t q) (pairs : HasPairs n t q) (r : ℕ → ℕ) where
  -- an assignment that has what r fixes
  abbrev pub Fixes : (ℕ → ℕ) → Type 0
  Fixes c = (v : ℕ) → q.z v ≡ false → fixed q v ≡ true → c v ≡ r v

  y_level : (v : ℕ) → q.y v ≡ true → level_set q v ≡ false
  y_level v i = pairs.apart v (or_right (q.x v) (q.y v) i)

  y_z : (v : ℕ) → q.y v ≡ true → q.z v ≡ false
  y_z v i = elim (cases_Bool (q.z v)) [ inl e ↦ absurd (not_both (level_set q v) (or_left (q.z v) (fixed q v) e) (y_level v i)) | inr e ↦ e ]

  stays : (c : ℕ → ℕ) (i x : ℕ) → q.y i ≡ true → Fixes c → Fixes (set_at c i x)
  stays c i x is_y p v no_z is_fixed =
      set_at-other c i x v (λ same. not_both (level_set q v) (or_right (q.z v) (fixed q v) is_fixed) (y_level v (subst (λ j. q.y j ≡ true) (sym same) is_y)))
      ∙ p v no_z is_fixed

  -- on the levels it is r
  level_agrees : (c : ℕ → ℕ) → Fixes c → (v : ℕ) → level_set q v ≡ true → at_level q.z r c v ≡ r v
  level_agrees c p v i = go (q.z v) refl
    where
      go : (b : Bool) → q.z v ≡ b → cond b (r v) (c v) ≡ r v
      go true e = refl
      go false e = p v e (subst (λ b. (b || fixed q v) ≡ true) e i)

  rows_most : (rows : List Row) → All (λ (w : Row). length w.cell ≡ length t.vertices) rows → (m : ℕ) (b : ℕ → ℕ) → Fixes b
      → sum_over q.y (weights_in n t).size m (λ c. counted t.vertices rows (joint_set q) (at_level q.z r c)) b ≤ counted t.vertices rows (level_set q) r
  rows_most [] long m b p = one_there q.y (weights_in n t).size (λ c. 0) 0 (λ v. 0) (λ c v i d. refl) Fixes stays
      (λ c pc. let z : 0 ≤ 0 = omega arith in z) m b p
  rows_most (w ∷ rows) long m b p =
      let size = (weights_in n t).size in
      let f = λ (c : ℕ → ℕ). cond (agrees t.vertices w.cell (joint_set q) (at_level q.z r c)) w.count 0 in
      let g = λ (c : ℕ → ℕ). counted t.vertices rows (joint_set q) (at_level q.z r c) in
      let whole = over-congr q.y size m (λ c. counted t.vertices (w ∷ rows) (joint_set q) (at_level q.z r c)) (λ c. f c + g c) b
      (λ c. sum_by-cons (λ (v : Row). cond (agrees t.vertices v.cell (joint_set q) (at_level q.z r c)) v.count 0) w rows) in
      let both = over-add q.y size m f g b in
      let more = rows_most rows (All-tail (λ (v : Row). length v.cell ≡ length t.vertices) w rows long) m b p in
      let here = one_there q.y size f (cond (agrees t.vertices w.cell (level_set q) r) w.count 0) (value_at t.vertices w.cell) (nowhere w (long_here w rows long))
      Fixes stays (λ c pc. fewer w c pc) m b p in
      let parts = sum_by-cons (λ (v : Row). cond (agrees t.vertices v.cell (level_set q) r) v.count 0) w rows in
      omega (arith, whole, both, more, here, parts)
    where
      long_here : (w : Row) (rows : List Row) → All (λ (v : Row). length v.cell ≡ length t.vertices) (w ∷ rows) → length w.cell ≡ length t.vertices
      long_here w rows all = All-head (λ (v : Row). length v.cell ≡ length t.vertices) w rows all

      nowhere : (w : Row) → length w.cell ≡ length t.vertices → (c : ℕ → ℕ) (v : ℕ) → q.y v ≡ true → (c v ≡ value_at t.vertices w.cell v → ⊥)
          → cond (agrees t.vertices w.cell (joint_set q) (at_level q.z r c)) w.count 0 ≡ 0
      nowhere w long c v is_y differ = go (agrees t.vertices w.cell (joint_set q) (at_level q.z r c)) refl
        where
          is_joint : joint_set q v ≡ true
          is_joint = or_right (q.x v) (q.y v || level_set q v) (or_left (q.y v) (level_set q v) is_y)

          go : (p : Bool) → agrees t.vertices w.cell (joint_set q) (at_level q.z r c) ≡ p → cond p w.count 0 ≡ 0
          go true e = absurd (differ (sym (ap (λ z. cond z (r v) (c v)) (y_z v is_y))
              ∙ value_is t.vertices t.levels w.cell (joint_set q) (at_level q.z r c) v long (used_level t v (asked v is_joint)) is_joint e))
          go false e = refl

      fewer : (w : Row) (c : ℕ → ℕ) → Fixes c → cond (agrees t.vertices w.cell (joint_set q) (at_level q.z r c)) w.count 0
          ≤ cond (agrees t.vertices w.cell (level_set q) r) w.count 0
      fewer w c pc =
          let one = counted_shrinks t.vertices (w ∷ []) (joint_set q) (level_set q) (at_level q.z r c)
          (λ v i. or_right (q.x v) (q.y v || level_set q v) (or_right (q.y v) (level_set q v) i)) in
          let same = counted_local t.vertices (w ∷ []) (level_set q) (at_level q.z r c) r (λ v i. level_agrees c pc v i) in
          let p = sum_by-cons (λ (v : Row). cond (agrees t.vertices v.cell (joint_set q) (at_level q.z r c)) v.count 0) w [] in
          let s = sum_by-cons (λ (v : Row). cond (agrees t.vertices v.cell (level_set q) r) v.count 0) w [] in
          omega (arith, one, same, p, s)

  -- what a level has over all outcomes is at most its records
  pub outcomes_most : (m : ℕ) (b : ℕ → ℕ) → Fixes b
      → sum_over q.y (weights_in n t).size m (λ c. joint (weights_in n t) q (at_level q.z r c)) b ≤ level (weights_in n t) q r
  outcomes_most m b p = rows_most t.rows (rows_long t are) m b p

-- ---- two levels
chosen_most : (end : End) (a b : ℕ) → chosen end a b ≤ a + b
chosen_most AtLeast a b = go (leb a b)
  where
    go : (c : Bool) → cond c b a ≤ a + b
    go true = omega arith
    go false = omega arith
chosen_most AtMost a b = go (leb a b)
  where
    go : (c : Bool) → cond c a b ≤ a + b
    go true = omega arith
    go false = omega arith

pub both_most : (end : End) (n : ℕ) (t : Table) (q : Asked) → AreCounts t → IsCounted t q → HasPairs n t q → (r s : ℕ → ℕ) (m : ℕ) (b : ℕ → ℕ)
    → ((v : ℕ) → q.z v ≡ false → fixed q v ≡ true → b v ≡ r v) → ((v : ℕ) → q.z v ≡ false → fixed q v ≡ true → b v ≡ s v)
    → sum_over q.y (weights_in n t).size m (λ c. chosen end (untaken (weights_in n t) q r s c) (untaken (weights_in n t) q s r c)) b
    ≤ 2 * (level (weights_in n t) q r * level (weights_in n t) q s)
both_most end n t q are asked pairs r s m b pr ps =
    let w = weights_in n t in
    let f = λ (c : ℕ → ℕ). joint w q (at_level q.z r c) in
    let g = λ (c : ℕ → ℕ). joint w q (at_level q.z s c) in
    let a = level w q r in let e = level w q s in
    let less = over-mono q.y w.size m (λ c. chosen end (untaken w q r s c) (untaken w q s r c)) (λ c. e * f c + a * g c) b
    (λ c. let k = chosen_most end (f c * e) (g c * a) in let x : f c * e ≡ e * f c = omega arith in let y : g c * a ≡ a * g c = omega arith in
    omega (arith, k, x, y)) in
    let apart = over-add q.y w.size m (λ c. e * f c) (λ c. a * g c) b in
    let first = over-scale q.y w.size m e f b in
    let second = over-scale q.y w.size m a g b in
    let one = mul-le-mul_right e (outcomes_most n t q are asked pairs r m b pr) in
    let two = mul-le-mul_right a (outcomes_most n t q are asked pairs s m b ps) in
    let x : e * sum_over q.y w.size m f b ≡ sum_over q.y w.size m f b * e = omega arith in
    let y : a * sum_over q.y w.size m g b ≡ sum_over q.y w.size m g b * a = omega arith in
    let z : e * a ≡ a * e = omega arith in
    omega (arith, less, apart, first, second, one, two, x, y, z)
