-- Relations between vertices as rows of bits, and as sorted lists of pairs.
use Rattle.std.specs.Prelude.{ℕ, Bool, true, List, map, slice_index}
use Rattle.std.specs.List.{flat_map}
use Rattle.mixed_graph.specs.Vocabulary.{has, members_below}

-- row a has b
abbrev pub row_has : List ℕ → ℕ → ℕ → Bool
row_has rows a b = has (slice_index rows a) b

-- the numbers below n, in order
abbrev pub count_up : ℕ → List ℕ
count_up n = members_below (λ _. true) n

-- the pairs of a relation below n, sorted by their first and then by their second end
abbrev pub pairs_below : ℕ → (ℕ → ℕ → Bool) → List (ℕ × ℕ)
pairs_below n joined = flat_map (λ a. map (λ b. (a, b)) (members_below (joined a) n)) (count_up n)
