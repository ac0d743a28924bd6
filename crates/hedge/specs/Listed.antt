-- What the rows of a list of sets hold.
use Rattle.std.specs.Prelude.{ℕ, List, map, take, slice_index}
use Rattle.mixed_graph.specs.declared.sets.VSet.{VSet}

-- the masks of the first `count` sets
abbrev pub first_masks : List VSet → ℕ → List ℕ
first_masks sets count = take count (map (λ s. s.bits) sets)

-- the mask of the set at place i
abbrev pub mask_at : List VSet → ℕ → ℕ
mask_at sets i = slice_index (map (λ s. s.bits) sets) i
