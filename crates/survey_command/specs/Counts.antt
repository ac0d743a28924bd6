-- How many edges a graph has.
use Rattle.std.specs.Prelude.{ℕ, zero, suc, ◌+◌, Bool, ◌&&◌, nat_lt, length}
use Rattle.mixed_graph.specs.Vocabulary.{members_below, MixedGraph}

-- how many pairs (a, b) with a < k and b < n the relation joins
abbrev pub pairs_from : ℕ → (ℕ → ℕ → Bool) → ℕ → ℕ
pairs_from n r zero = zero
pairs_from n r (suc k) = pairs_from n r k + length (members_below (r k) n)

-- the number of arrows
abbrev pub arrow_count : MixedGraph → ℕ
arrow_count g = pairs_from g.vertices g.arrow g.vertices

-- the number of bidirected edges, each with its lower end first
abbrev pub spouse_count : MixedGraph → ℕ
spouse_count g = pairs_from g.vertices (λ a b. g.both a b && nat_lt a b) g.vertices
