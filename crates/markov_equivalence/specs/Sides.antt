-- The first of two graphs, or the second.
use Rattle.std.specs.Prelude.{Bool, true, false}
use Rattle.mixed_graph.specs.Vocabulary.{MixedGraph}
use Rattle.markov_equivalence.specs.declared.sides.Side.{Side}
use Rattle.markov_equivalence.specs.declared.sides.Side.TheVariants.{First, Second}

-- the graph on that side
abbrev pub one_of : MixedGraph → MixedGraph → Side → MixedGraph
one_of g h First = g
one_of g h Second = h

-- the other side
abbrev pub other_side : Side → Side
other_side First = Second
other_side Second = First

-- the side without what one graph has alone, by whether the second has it
abbrev pub side_without : (in_second : Bool) → Side
side_without true = First
side_without false = Second
