-- The vertices whose levels are read.
use Rattle.std.specs.Prelude.{ℕ, List, [], ◌∷◌}
use Rattle.mixed_graph.specs.Vocabulary.{union, one}
use Rattle.implications.specs.declared.pairs.Implication.{Implication}

-- those of a pair, and those that are given
abbrev pub used_for : Implication → ℕ
used_for i = union (one i.a) (union (one i.b) i.given.bits)

-- those of all pairs
abbrev pub used_in : List Implication → ℕ
used_in [] = 0
used_in (i ∷ is) = union (used_for i) (used_in is)
