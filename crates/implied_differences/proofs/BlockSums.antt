-- Sums of the cells of a block.
use Rattle.std.proofs.Common.{ℕ, zero, suc, ◌+◌, ◌*◌, ◌≡◌, ◌<◌, ◌≤◌, List, length, get_or, sym, ap, subst, ◌∙◌, inl, inr, arith}
use Rattle.std.proofs.lemmas.Bool.{cases_eq}
use Rattle.count_table.specs.Vocabulary.{sum_below}
use Rattle.count_table.proofs.Counting.{sum-same}
use Rattle.implied_differences.specs.declared.layout.Layout.{Layout}
use Rattle.implied_differences.specs.declared.layout.Line.{Line}
use Rattle.implied_differences.specs.Layouts.{row_of, column_of}
use Rattle.implied_differences.specs.Blocks.{strided, line_at, value_at, row_at, column_at, block_at, IsBlock, AreBegins, AreColumns}
use Rattle.implied_differences.proofs.Numbers.{through}

-- each term is at most the sum, and so is each sum of the first ones
pub term-most : (n : ℕ) (f : ℕ → ℕ) (k : ℕ) → k < n → f k ≤ sum_below n f
term-most zero f k lt = absurd (omega arith)
term-most (suc n) f k lt = elim (cases_eq k n) [
  | inl e ↦ (let g = ap f e in omega (arith, g))
  | inr ne ↦ (let ih = term-most n f k (omega (arith, ne)) in omega (arith, ih))
]

pub part-most : (n k : ℕ) (f : ℕ → ℕ) → k ≤ n → sum_below k f ≤ sum_below n f
part-most zero k f le = (let e : k ≡ zero = omega arith in let g = ap (λ m. sum_below m f) e in omega (arith, g))
part-most (suc n) k f le = elim (cases_eq k (suc n)) [
  | inl e ↦ (let g = ap (λ m. sum_below m f) e in omega (arith, g))
  | inr ne ↦ (let ih = part-most n k f (omega (arith, ne)) in omega (arith, ih))
]

pub sum-most : (n : ℕ) (f g : ℕ → ℕ) → ((k : ℕ) → k < n → f k ≤ g k) → sum_below n f ≤ sum_below n g
sum-most zero f g h = omega arith
sum-most (suc n) f g h = let a = sum-most n f g (λ k lt. h k (omega arith)) in let b = h n (omega arith) in omega (arith, a, b)

module _ (cells : List ℕ) (l : Layout) (begin : ℕ) (b : IsBlock cells l begin) where
  pub column_few : (y : ℕ) → y < l.seconds → column_at cells l begin y ≤ 1000000000000000
  column_few y lt = through (column_at cells l begin y) (block_at cells l begin) 1000000000000000 (term-most l.seconds (λ z. column_at cells l begin z) y lt)
      b.few

  pub value_few : (x y : ℕ) → x < l.firsts → y < l.seconds → value_at cells l begin x y ≤ 1000000000000000
  value_few x y lx ly = through (value_at cells l begin x y) (column_at cells l begin y) 1000000000000000
      (term-most l.firsts (λ z. value_at cells l begin z y) x lx) (column_few y ly)

  pub row_few : (x : ℕ) → x < l.firsts → row_at cells l begin x ≤ 1000000000000000
  row_few x lx = through (row_at cells l begin x) (block_at cells l begin) 1000000000000000
      (sum-most l.seconds (λ y. value_at cells l begin x y) (λ y. column_at cells l begin y)
      (λ y ly. term-most l.firsts (λ z. value_at cells l begin z y) x lx)) b.few

  -- the columns' sum is the block's
  pub columns-total : (columns : List ℕ) → AreColumns cells l begin columns → strided columns 0 1 l.seconds ≡ block_at cells l begin
  columns-total columns h = sum-same l.seconds (λ k. get_or columns (0 + k * 1) 0) (λ y. column_at cells l begin y)
      (λ k lt. ap (λ m. get_or columns m 0) (plain k) ∙ h.each k lt)
    where
      plain : (k : ℕ) → 0 + k * 1 ≡ k
      plain k = omega arith

-- columns that have been summed over the first x levels of a
pub record AreColumnsTo (cells : List ℕ) (l : Layout) (begin x : ℕ) (columns : List ℕ) : Type 0 where
  pub long : length columns ≡ l.seconds
  pub each : (y : ℕ) → y < l.seconds → get_or columns y 0 ≡ sum_below x (λ z. value_at cells l begin z y)

-- one term more
pub sum-next : (n : ℕ) (f : ℕ → ℕ) → sum_below n f + f n ≡ sum_below (n + 1) f
sum-next n f = ap (λ k. sum_below k f) (let e : suc n ≡ n + 1 = omega arith in e)

-- ---- lines of cells

-- the sum of a row
pub row_line : (cells : List ℕ) (l : Layout) (begin x : ℕ) (line : Line) → line ≡ row_of l x → line_at cells line begin ≡ row_at cells l begin x
row_line cells l begin x line e = ap (λ (n : Line). line_at cells n begin) e

-- the sum of a column
pub column_line : (cells : List ℕ) (l : Layout) (begin y : ℕ) (line : Line) → line ≡ column_of l y → line_at cells line begin ≡ column_at cells l begin y
column_line cells l begin y line e =
    ap (λ (n : Line). line_at cells n begin) e
    ∙ sum-same l.firsts (λ k. get_or cells (begin + y * l.second_step + k * l.first_step) 0) (λ x. value_at cells l begin x y)
    (λ k lt. ap (λ n. get_or cells n 0) (let r : begin + y * l.second_step + k * l.first_step ≡ begin + k * l.first_step + y * l.second_step = omega arith in
    r))

module _ (cells : List ℕ) (l : Layout) (begins : List ℕ) (width : ℕ) (h : AreBegins cells l begins width) where
  abbrev IsInside : Line → Type 0
  IsInside line = (j k : ℕ) → j < width → k < line.count → get_or begins j 0 + (line.offset + k * line.step) < length cells

  -- each row of each block is inside the table
  pub row_inside : (x : ℕ) → x < l.firsts → (line : Line) → line ≡ row_of l x → IsInside line
  row_inside x lx line e = subst IsInside (sym e) (λ j k lj lk. let inside = (h.each j lj).inside x k lx lk in omega (arith, inside))

  -- and so is each column
  pub column_inside : (y : ℕ) → y < l.seconds → (line : Line) → line ≡ column_of l y → IsInside line
  column_inside y ly line e = subst IsInside (sym e) (λ j k lj lk. let inside = (h.each j lj).inside k y lk ly in omega (arith, inside))

  -- a row's offset is inside the table
  pub row_offset : (x : ℕ) → x < l.firsts → x * l.first_step < length cells
  row_offset x lx = let b = h.each 0 h.some in let inside = b.inside x 0 lx b.some in omega (arith, inside)

  -- and so is a column's
  pub column_offset : (y : ℕ) → y < l.seconds → 0 < l.firsts → y * l.second_step < length cells
  column_offset y ly some = let inside = (h.each 0 h.some).inside 0 y some ly in omega (arith, inside)
