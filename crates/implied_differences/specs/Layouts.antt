-- Where the sums for the cells of an implication stand in a table in index order; words for the walk, inside this crate.
use Rattle.std.specs.Prelude.{ℕ, ◌≡◌, ◌<◌, ◌+◌, ◌*◌, ◌-◌, ◌/◌, ◌%◌, ◌&&◌, Bool, not, nat_lt, length}
use Rattle.mixed_graph.specs.Vocabulary.{has}
use Rattle.count_rows.specs.Vocabulary.{Table}
use Rattle.count_table.specs.Vocabulary.{levels_in, axes_of, cells_over}
use Rattle.implications.specs.declared.pairs.Implication.{Implication}
use Rattle.implied_differences.specs.declared.layout.Block.{Block}
use Rattle.implied_differences.specs.declared.layout.Layout.{Layout}
use Rattle.implied_differences.specs.declared.layout.Line.{Line}

-- the given vertices between the two
abbrev pub between_pair : Implication → ℕ → Bool
between_pair i v = (has i.given.bits v && nat_lt v i.b) && not (nat_lt v i.a)

-- the given vertices behind both
abbrev pub behind_pair : Implication → ℕ → Bool
behind_pair i v = has i.given.bits v && not (nat_lt v i.b)

-- the numbers of levels and of cells are those of the table, and the steps go over what is behind
pub record IsLayoutOf (t : Table) (i : Implication) (l : Layout) : Type 0 where
  pub firsts : l.firsts ≡ length (levels_in t.vertices t.levels i.a)
  pub seconds : l.seconds ≡ length (levels_in t.vertices t.levels i.b)
  pub between : l.between ≡ cells_over (axes_of t (between_pair i))
  pub second_step : l.second_step ≡ cells_over (axes_of t (behind_pair i))
  pub first_step : l.first_step ≡ l.between * (l.seconds * l.second_step)
  pub count : l.count ≡ cells_over (axes_of t (has i.given.bits))

-- the cells of a block at a level of a
abbrev pub row_of : Layout → ℕ → Line
row_of l x = record { offset = x * l.first_step; step = l.second_step; count = l.seconds }

-- those at a level of b
abbrev pub column_of : Layout → ℕ → Line
column_of l y = record { offset = y * l.second_step; step = l.first_step; count = l.firsts }

-- nothing is empty, and the larger step is what the vertices behind the first make
pub record IsStepped (l : Layout) : Type 0 where
  pub firsts : 0 < l.firsts
  pub seconds : 0 < l.seconds
  pub between : 0 < l.between
  pub behind : 0 < l.second_step
  pub first_step : l.first_step ≡ l.between * (l.seconds * l.second_step)

-- where the block of the cell w of the given vertices begins
unfoldable pub base_of : Layout → ℕ → ℕ
base_of l w = w / (l.between * l.second_step) * (l.firsts * l.first_step) + (w / l.second_step % l.between * (l.seconds * l.second_step) + w % l.second_step)

-- from the first cell of a block to its last
abbrev pub gap_of : Layout → ℕ
gap_of l = (l.firsts - 1) * l.first_step + (l.seconds - 1) * l.second_step

-- the block is that of its number, which has the two parts behind a third one, p
pub record IsBaseWith (l : Layout) (b : Block) (p : ℕ) : Type 0 where
  pub number : b.number ≡ p * (l.between * l.second_step) + (b.between * l.second_step + b.behind)
  pub begin : b.begin ≡ p * (l.firsts * l.first_step) + (b.between * (l.seconds * l.second_step) + b.behind)
  pub between : b.between < l.between
  pub behind : b.behind < l.second_step

-- the block is that of its number
abbrev pub IsBase : Layout → Block → Type 0
IsBase l b = (p : ℕ) × IsBaseWith l b p
