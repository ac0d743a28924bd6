-- What other crates cite of this one, from one place.
pub use Rattle.fault_json.specs.GraphFaults.{graph_fault_json, graph_size_json}
pub use Rattle.fault_json.specs.TargetFaults.{target_fault_json}
