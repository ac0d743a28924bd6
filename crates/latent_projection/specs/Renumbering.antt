-- The observed vertices numbered anew, in their old order.
use Rattle.std.specs.Prelude.{ℕ, ◌≡◌, Bool, not, ◌&&◌, List, length, map, nat_lt, slice_index}
use Rattle.mixed_graph.specs.Vocabulary.{members_below, MixedGraph, name_of}
use Rattle.latent_projection.specs.Projection.{IsProjection}

-- the vertices below n outside the latent set, in ascending order: entry k is the old number of the new vertex k
abbrev pub observed_below : (ℕ → Bool) → ℕ → List ℕ
observed_below l n = members_below (λ v. not (l v)) n

-- the set of the new numbers of those members of s that are listed
abbrev pub renumbered_set : List ℕ → (ℕ → Bool) → ℕ → Bool
renumbered_set vs s k = nat_lt k (length vs) && s (slice_index vs k)

-- the graph on the listed vertices, numbered by their places, with the edges of p between them
abbrev pub renumbered : MixedGraph → List ℕ → MixedGraph
renumbered p vs = record {
  vertices = length vs;
  arrow = λ a b. nat_lt a (length vs) && renumbered_set vs (p.arrow (slice_index vs a)) b;
  both = λ a b. nat_lt a (length vs) && renumbered_set vs (p.both (slice_index vs a)) b;
}

-- q is the observed graph of g: the latent projection without its latent vertices, the others numbered anew in their old order
pub record IsObserved (g : MixedGraph) (l : ℕ → Bool) (q : MixedGraph) : Type 0 where
  pub projection : MixedGraph
  pub projects : IsProjection g l projection
  pub renumbers : q ≡ renumbered projection (observed_below l g.vertices)

-- the names of the listed vertices, in the order of the list
abbrev pub names_at : List ℕ → List (List ℕ) → List (List ℕ)
names_at vs names = map (name_of names) vs
