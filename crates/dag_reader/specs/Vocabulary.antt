-- What other crates cite of this one, from one place.
pub use Rattle.dag_reader.specs.FaultTexts.{graph_fault_text, size_text}
pub use Rattle.dag_reader.specs.Grammar.{Said}
pub use Rattle.dag_reader.specs.Passes.{arrows_of, doubles_of}
pub use Rattle.dag_reader.specs.Reads.{Tells, is_marked}
pub use Rattle.dag_reader.specs.RoleSets.{AreRoleSets}
pub use Rattle.dag_reader.specs.RoundTrip.{AreSame}
pub use Rattle.dag_reader.specs.Rows.{count_up, pairs_below}
pub use Rattle.dag_reader.specs.Written.{Drawn, drawn_of, role_at}
