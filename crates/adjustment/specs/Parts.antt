-- The part of a path from its last vertex in a set on. Words for code inside this crate.
use Rattle.std.specs.Prelude.{◌≡◌, ℕ, ◌+◌, ◌<◌, ◌≤◌, Bool, false, IsTrue, slice_index, slice_index_or}
use Rattle.m_separation.specs.declared.marks.Mark.TheVariants.{Out}
use Rattle.m_separation.specs.declared.paths.OpenPath.{OpenPath}

-- the path has a first vertex, in x, and at most 64 vertices, each below 64
pub record BeginsIn (x : ℕ → Bool) (path : OpenPath) : Type 0 where
  pub some : 0 < path.count
  pub few : path.count ≤ 64
  pub vertices : (i : ℕ) → i < path.count → slice_index path.vertices i < 64
  pub begins : IsTrue (x (slice_index path.vertices 0))

-- the vertex at that place is in x, and no later one is
pub record IsLastPlace (x : ℕ → Bool) (path : OpenPath) (place : ℕ) : Type 0 where
  pub below : place < path.count
  pub member : IsTrue (x (slice_index path.vertices place))
  pub last : (i : ℕ) → place < i → i < path.count → x (slice_index path.vertices i) ≡ false

-- part is the path from that place on
pub record IsPartFrom (path : OpenPath) (place : ℕ) (part : OpenPath) : Type 0 where
  pub count : part.count + place ≡ path.count
  pub vertices : (i : ℕ) → i < part.count → slice_index part.vertices i ≡ slice_index path.vertices (place + i)
  pub marks : (i : ℕ) → i < part.count → slice_index_or part.marks i Out ≡ slice_index_or path.marks (place + i) Out

-- part is the path from its last vertex in x on
abbrev pub IsLastPart : (ℕ → Bool) → OpenPath → OpenPath → Type 0
IsLastPart x path part = (place : ℕ) × IsLastPlace x path place × IsPartFrom path place part
