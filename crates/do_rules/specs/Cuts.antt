-- Graphs with edges cut out, as the do-calculus has them (Pearl, Causality, chapter 3).
use Rattle.std.specs.Prelude.{ℕ, Bool, not, ◌&&◌, ◌||◌, List, slice_index}
use Rattle.mixed_graph.specs.Vocabulary.{has, MixedGraph}

-- g without the edges that have an arrowhead at a member of x
abbrev pub cut_into : MixedGraph → (ℕ → Bool) → MixedGraph
cut_into g x = record g { arrow = λ u v. g.arrow u v && not (x v); both = λ u v. g.both u v && (not (x u) && not (x v)) }

-- g without the arrows out of z
abbrev pub cut_out : MixedGraph → (ℕ → Bool) → MixedGraph
cut_out g z = record g { arrow = λ u v. g.arrow u v && not (z u) }

-- g without u -> v where row u of `out` has v, and without u <-> v where row u of `both` has v or row v has u
abbrev pub cut_edges : MixedGraph → (out both : List ℕ) → MixedGraph
cut_edges g out both = record g {
  arrow = λ u v. g.arrow u v && not (has (slice_index out u) v);
  both = λ u v. g.both u v && not (has (slice_index both u) v || has (slice_index both v) u);
}
