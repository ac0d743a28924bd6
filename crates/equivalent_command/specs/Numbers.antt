-- Two graphs with the same names, numbered alike.
use Rattle.std.specs.Prelude.{ℕ, ◌≡◌, ◌<◌, true, List, length, map}
use Rattle.mixed_graph.specs.Vocabulary.{MixedGraph, is_named, index_of, name_of}
use Rattle.latent_projection.specs.Vocabulary.{renumbered}

-- each name is one of the others
abbrev pub AreAmong : List (List ℕ) → List (List ℕ) → Type 0
AreAmong names others = (v : ℕ) → v < length names → is_named others (name_of names v) ≡ true

-- the two lists have the same names
pub record HaveSameNames (names others : List (List ℕ)) : Type 0 where
  pub first : AreAmong names others
  pub second : AreAmong others names

-- where each name stands among the others
abbrev pub places : List (List ℕ) → List (List ℕ) → List ℕ
places names others = map (index_of others) names

-- the graph h, whose names are the others, on the numbers of the names: an edge joins a and b where it joins the vertices of h with their names
abbrev pub on_names : List (List ℕ) → List (List ℕ) → MixedGraph → MixedGraph
on_names names others h = renumbered h (places names others)
