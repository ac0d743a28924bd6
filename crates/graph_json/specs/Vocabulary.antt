-- What other crates cite of this one, from one place.
pub use Rattle.graph_json.specs.Edges.{edge_members, graph_json}
