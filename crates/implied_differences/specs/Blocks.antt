-- Blocks of sums, and the best of their cells; words for the walk, inside this crate.
use Rattle.std.specs.Prelude.{ℕ, ◌≡◌, ◌<◌, ◌≤◌, ◌+◌, ◌*◌, ◌^◌, ◌⊎◌, List, length, slice_index}
use Rattle.std.specs.Int.{abs_diff}
use Rattle.count_table.specs.Vocabulary.{sum_below, AreSums}
use Rattle.count_rows.specs.Vocabulary.{Table}
use Rattle.implications.specs.declared.pairs.Implication.{Implication}
use Rattle.implied_differences.specs.Differences.{whole_of}
use Rattle.implied_differences.specs.declared.candidates.Candidate.{Candidate}
use Rattle.implied_differences.specs.declared.layout.Layout.{Layout}
use Rattle.implied_differences.specs.declared.layout.Line.{Line}
use Rattle.implied_differences.specs.Candidates.{IsOutOfReach}
use Rattle.implied_differences.specs.Layouts.{IsStepped, base_of, gap_of}

-- the sum of so many cells, one each `step` places
abbrev pub strided : List ℕ → ℕ → ℕ → ℕ → ℕ
strided cells begin step count = sum_below count (λ k. slice_index cells (begin + k * step))

-- the sum of a line of cells, in the block that begins there
abbrev pub line_at : List ℕ → Line → ℕ → ℕ
line_at cells line begin = strided cells (begin + line.offset) line.step line.count

-- N(a,b,W) in the block that begins there, at the levels x of a and y of b
abbrev pub value_at : List ℕ → Layout → ℕ → ℕ → ℕ → ℕ
value_at cells l begin x y = slice_index cells (begin + x * l.first_step + y * l.second_step)

-- N(a,W)
abbrev pub row_at : List ℕ → Layout → ℕ → ℕ → ℕ
row_at cells l begin x = sum_below l.seconds (λ y. value_at cells l begin x y)

-- N(b,W)
abbrev pub column_at : List ℕ → Layout → ℕ → ℕ → ℕ
column_at cells l begin y = sum_below l.firsts (λ x. value_at cells l begin x y)

-- N(W)
abbrev pub block_at : List ℕ → Layout → ℕ → ℕ
block_at cells l begin = sum_below l.seconds (λ y. column_at cells l begin y)

-- the block has a column and is inside the table, and its sum is small
pub record IsBlock (cells : List ℕ) (l : Layout) (begin : ℕ) : Type 0 where
  pub some : 0 < l.seconds
  pub inside : (x y : ℕ) → x < l.firsts → y < l.seconds → begin + x * l.first_step + y * l.second_step < length cells
  pub few : block_at cells l begin ≤ 10 ^ 15

-- a block begins at each of so many places, and there is one
pub record AreBegins (cells : List ℕ) (l : Layout) (begins : List ℕ) (width : ℕ) : Type 0 where
  pub some : 0 < width
  pub long : width ≤ length begins
  pub each : (j : ℕ) → j < width → IsBlock cells l (slice_index begins j)

-- the blocks' sums are at hand
pub record IsStrip (cells : List ℕ) (l : Layout) (begins sums : List ℕ) (width : ℕ) : Type 0 where
  pub blocks : AreBegins cells l begins width
  pub long : width ≤ length sums
  pub each : (j : ℕ) → j < width → slice_index sums j ≡ block_at cells l (slice_index begins j)

-- N(b,W) for each level of b
pub record AreColumns (cells : List ℕ) (l : Layout) (begin : ℕ) (columns : List ℕ) : Type 0 where
  pub long : length columns ≡ l.seconds
  pub each : (y : ℕ) → y < l.seconds → slice_index columns y ≡ column_at cells l begin y

-- each cell of the given vertices has a block
pub record AreBlocks (cells : List ℕ) (l : Layout) : Type 0 where
  pub stepped : IsStepped l
  pub gap : gap_of l ≤ 2 ^ 20
  pub few : l.firsts * l.seconds * l.count ≤ 2 ^ 20
  pub small : (w : ℕ) → w < l.count → base_of l w ≤ 2 ^ 20
  pub each : (w : ℕ) → w < l.count → IsBlock cells l (base_of l w)

-- N(a,b,W) N(W) at a cell
abbrev pub left_at : List ℕ → Layout → ℕ → ℕ → ℕ → ℕ
left_at cells l w x y = value_at cells l (base_of l w) x y * block_at cells l (base_of l w)

-- N(a,W) N(b,W) there
abbrev pub right_at : List ℕ → Layout → ℕ → ℕ → ℕ → ℕ
right_at cells l w x y = row_at cells l (base_of l w) x * column_at cells l (base_of l w) y

-- how far the two products are apart
abbrev pub gap_at : List ℕ → Layout → ℕ → ℕ → ℕ → ℕ
gap_at cells l w x y = abs_diff (left_at cells l w x y) (right_at cells l w x y)

-- the number of a cell in order: its levels of a, of b and the number of the given vertices' cell as digits
abbrev pub number_at : Layout → ℕ → ℕ → ℕ → ℕ
number_at l w x y = (x * l.seconds + y) * l.count + w

-- no cell at these levels is ahead, of so many blocks from number w on
pub record IsPassedAt (cells : List ℕ) (l : Layout) (begins : List ℕ) (width w x y : ℕ) (c : Candidate) : Type 0 where
  pub each : (j : ℕ) → j < width → IsOutOfReach c
      (abs_diff (value_at cells l (slice_index begins j) x y * block_at cells l (slice_index begins j))
      (row_at cells l (slice_index begins j) x * column_at cells l (slice_index begins j) y))
      (number_at l (w + j) x y)

-- the cell (u, p, q) is one, and comes before (w, x, y)
pub record IsSeen (l : Layout) (w x y u p q : ℕ) : Type 0 where
  pub first : p < l.firsts
  pub second : q < l.seconds
  pub given : u < l.count
  pub block : u ≤ w
  pub row : u ≡ w → p ≤ x
  pub column : u ≡ w → p ≡ x → q < y

-- the candidate is that of a cell
pub record IsOf (cells : List ℕ) (l : Layout) (c : Candidate) (u p q : ℕ) : Type 0 where
  pub first : p < l.firsts
  pub second : q < l.seconds
  pub given : u < l.count
  pub left : c.left ≡ left_at cells l u p q
  pub right : c.right ≡ right_at cells l u p q
  pub number : c.number ≡ number_at l u p q

-- no cell yet
pub record IsNone (c : Candidate) : Type 0 where
  pub left : c.left ≡ 0
  pub right : c.right ≡ 0
  pub number : c.number ≡ 0

-- the best of the cells before (w, x, y)
pub record IsBest (cells : List ℕ) (l : Layout) (w x y : ℕ) (c : Candidate) : Type 0 where
  pub found : ((u : ℕ) × (p : ℕ) × (q : ℕ) × IsOf cells l c u p q) ⊎ IsNone c
  pub distance : c.distance ≡ abs_diff c.left c.right
  pub greatest : (u p q : ℕ) → IsSeen l w x y u p q → gap_at cells l u p q ≤ c.distance
  pub least : (u p q : ℕ) → IsSeen l w x y u p q → number_at l u p q < c.number → gap_at cells l u p q < c.distance

-- the best of all cells of an implication, by sums over its vertices
pub record IsBestOf (t : Table) (i : Implication) (l : Layout) (c : Candidate) : Type 0 where
  pub cells : List ℕ
  pub sums : AreSums t (whole_of i) cells
  pub best : IsBest cells l l.count 0 0 c
