-- Names of vertices, in the order in which they first came.
use Rattle.std.specs.Prelude.{ℕ, ◌≡◌, ◌≢◌, ◌<◌, ◌≤◌, Bool, true, not, ◌||◌, ◌==◌, List, [], ◌∷◌, ◌++◌, length, map, slice_index_or, All, if◌then◌else◌}
use Rattle.std.specs.List.{AllPairs, list_any, list_all, position_or_len}
use Rattle.std.specs.Str.{bytes_eq, is_utf8}
use Rattle.std.specs.Global.{Vec}

-- a byte that may stand in a name: any but the quotation mark, carriage return and line feed
abbrev pub is_line_byte : ℕ → Bool
is_line_byte b = not (b == 34 || b == 13 || b == 10)

-- the form of a name: UTF-8, not empty, and without a quotation mark or a line break
pub record IsName (name : List ℕ) : Type 0 where
  pub utf8 : is_utf8 name ≡ true
  pub some : 0 < length name
  pub line : list_all is_line_byte name ≡ true

-- what is true of the names of a graph: at most 64, each of the form of a name, no two of them equal
pub record AreNames (names : List (List ℕ)) : Type 0 where
  pub few : length names ≤ 64
  pub formed : All IsName names
  pub distinct : AllPairs (λ a b. a ≢ b) names

-- whether the name is in the list
abbrev pub is_named : List (List ℕ) → List ℕ → Bool
is_named names name = list_any (bytes_eq name) names

-- a new name goes last; one that is there keeps its place
abbrev pub with_name : List (List ℕ) → List ℕ → List (List ℕ)
with_name names name = if is_named names name then names else names ++ name ∷ []

-- the index of a name, or how many names there are where it isn't one of them
abbrev pub index_of : List (List ℕ) → List ℕ → ℕ
index_of names name = position_or_len (bytes_eq name) names

-- the name of vertex v
abbrev pub name_of : List (List ℕ) → ℕ → List ℕ
name_of names v = slice_index_or names v []

-- the contents of such vectors of bytes
abbrev pub texts : List (Vec ℕ) → List (List ℕ)
texts names = map (λ (name : Vec ℕ). name.items) names
