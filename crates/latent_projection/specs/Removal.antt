-- One step of the projection: a graph without one latent vertex.
use Rattle.std.specs.Prelude.{ℕ, Bool, not, ◌&&◌, ◌||◌, ◌==◌}
use Rattle.mixed_graph.specs.Vocabulary.{MixedGraph}

-- whether a path a <- k -> b, a <- k <-> b or a <-> k -> b leads through k
abbrev pub through : MixedGraph → ℕ → ℕ → ℕ → Bool
through g k a b = (g.arrow k a && g.arrow k b) || ((g.arrow k a && g.both k b) || (g.both a k && g.arrow k b))

-- g without the edges of k, and with an edge for each pair of edges that led through k
abbrev pub without : MixedGraph → ℕ → MixedGraph
without g k = record g {
  arrow = λ a b. not (a == k) && (not (b == k) && (g.arrow a b || (g.arrow a k && g.arrow k b)));
  both = λ a b. not (a == k) && (not (b == k) && (g.both a b || (not (a == b) && through g k a b)));
}
