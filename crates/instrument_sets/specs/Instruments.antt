-- The instruments of an effect, vertex by vertex.
use Rattle.std.specs.Prelude.{ℕ, ◌≡◌, Bool, not, ◌&&◌, ◌==◌, nat_lt, List, map, All}
use Rattle.mixed_graph.specs.Vocabulary.{members_below, MixedGraph}
use Rattle.minimal_sets.specs.Vocabulary.{IsListingOf}
use Rattle.instrument_sets.specs.declared.instruments.Candidate.{Candidate}
use Rattle.instrument_sets.specs.Strata.{AreMinimalStrata}

-- each vertex outside x and y once, in ascending order, with the listing of its minimal sets of strata
pub record AreCandidates (g : MixedGraph) (x y : ℕ → Bool) (most : ℕ) (list : List Candidate) : Type 0 where
  pub vertices : map (λ c. c.vertex) list ≡ members_below (λ v. (nat_lt v g.vertices && not (x v)) && not (y v)) 64
  pub strata : All (λ c. IsListingOf (AreMinimalStrata g x y (λ v. v == c.vertex)) most c.strata.sets.items c.strata.more) list
