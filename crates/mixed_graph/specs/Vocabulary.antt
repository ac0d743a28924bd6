-- What other crates cite of this one, from one place.
pub use Rattle.mixed_graph.specs.Built.{IsGraphOf}
pub use Rattle.mixed_graph.specs.Graphs.{Agree, IsAcyclic, IsAncestor, IsDescendant, IsDirectedPath, IsMixedGraph, MixedGraph, graph_from, induced, restricted}
pub use Rattle.mixed_graph.specs.Masks.{all, common, is_apart, is_below, is_empty, is_inside, minus, one, union}
pub use Rattle.mixed_graph.specs.NameKeys.{AreBytes, IsKeyed, digits_on}
pub use Rattle.mixed_graph.specs.Names.{AreNames, IsName, index_of, is_line_byte, is_named, name_of, texts, with_name}
pub use Rattle.mixed_graph.specs.Orders.{IsNext, IsOrder, taken_by}
pub use Rattle.mixed_graph.specs.Pairs.{IsCycle, first_loop, has_pair, loop_in}
pub use Rattle.mixed_graph.specs.Reached.{has_in_row}
pub use Rattle.mixed_graph.specs.Sets.{Apart, Within}
pub use Rattle.mixed_graph.specs.Shown.{graph_of}
-- These may be unfolded there.
unfoldable pub use Rattle.mixed_graph.specs.Bits.{has, members_below}
