-- What is asked of a table of counts.
use Rattle.std.specs.Prelude.{ℕ, ◌≡◌, ◌*◌, ◌<◌, ◌≤◌, Bool, true, false, ◌||◌, ◌&&◌, ◌==◌, not, nat_le, IsTrue, List, [], ◌∷◌, length}
use Rattle.mixed_graph.specs.Vocabulary.{has, members_below, union, is_empty, is_apart, Apart}
use Rattle.count_rows.specs.Vocabulary.{Table}
use Rattle.count_table.specs.Vocabulary.{AreCounts, levels_in, Margins, cells_under}
use Rattle.count_eval.specs.Vocabulary.{weights_in, is_used}
use Rattle.crossed_bounds.specs.Vocabulary.{IsTwoValued}
use Rattle.natural_bounds.specs.Vocabulary.{Asked, fixed}
use Rattle.bound_values.specs.declared.questions.Question.{Question}
use Rattle.bound_values.specs.declared.questions.Method.{Method}
use Rattle.bound_values.specs.declared.questions.Method.TheVariants.{LevelPairs}

-- a question as sets
abbrev pub asked_of : Question → Asked
asked_of q = record { x = has q.x.bits; y = has q.y.bits; z = has q.instruments.bits; u = has q.strata.bits; c = has q.given.bits }

-- what a stratum fixes and the instruments
abbrev pub level_set : Asked → ℕ → Bool
level_set q v = q.z v || fixed q v

-- these and x
abbrev pub treated_set : Asked → ℕ → Bool
treated_set q v = q.x v || level_set q v

-- these, x and y
abbrev pub joint_set : Asked → ℕ → Bool
joint_set q v = q.x v || (q.y v || level_set q v)

-- what a stratum fixes, as a mask
abbrev pub fixed_mask : Question → ℕ
fixed_mask q = union q.given.bits q.strata.bits

-- what a stratum fixes and the instruments
abbrev pub level_mask : Question → ℕ
level_mask q = union q.instruments.bits (fixed_mask q)

-- these, x and y: all vertices that are asked of
abbrev pub joint_mask : Question → ℕ
joint_mask q = union q.x.bits (union q.y.bits (level_mask q))

-- the table uses all vertices that are asked of
abbrev pub IsCounted : Table → Asked → Type 0
IsCounted t q = (v : ℕ) → IsTrue (joint_set q v) → is_used t v ≡ true

-- ---- pairs of levels

-- x, by its members, is one vertex with two levels
abbrev pub is_two_valued : Table → List ℕ → Bool
is_two_valued t [] = false
is_two_valued t (v ∷ []) = length (levels_in t.vertices t.levels v) == 2
is_two_valued t (u ∷ v ∷ vs) = false

-- what bounds by pairs of levels cost: for each cell of what is asked of, the levels of the instruments and the values of y
abbrev pub pair_steps : Table → Question → ℕ
pair_steps t q = cells_under t q.instruments.bits * cells_under t q.y.bits * cells_under t (joint_mask q)

-- pairs of levels are used: there are instruments, x has two values, neither x nor y meets the instruments or what a stratum fixes, and the steps are few
abbrev pub has_pairs : Table → Question → Bool
has_pairs t q = not (is_empty q.instruments.bits) && (is_apart (union q.x.bits q.y.bits) (level_mask q)
    && (is_two_valued t (members_below (has q.x.bits) 64) && nat_le (pair_steps t q) 1048576))

-- what is known where they are
pub record HasPairs (n : ℕ) (t : Table) (q : Asked) : Type 0 where
  pub two_valued : IsTwoValued (weights_in n t) q.x
  pub apart : Apart (λ v. q.x v || q.y v) (level_set q)

-- two assignments differ in z alone
abbrev pub AreAlikeOutside : (z : ℕ → Bool) → (r t : ℕ → ℕ) → Type 0
AreAlikeOutside z r t = (v : ℕ) → z v ≡ false → r v ≡ t v

-- ---- over a table

-- a question over a table of counts of n vertices, whose sums are at hand
pub record IsScope (n : ℕ) (t : Table) (method : Method) (q : Asked) (sums : Margins) : Type 0 where
  pub table : AreCounts t
  pub same : sums.table ≡ t
  pub asked : IsCounted t q
  pub few : n ≤ 64
  pub below : (v : ℕ) → is_used t v ≡ true → v < n
  pub pairs : method ≡ LevelPairs → HasPairs n t q
