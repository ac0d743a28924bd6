-- What other crates cite of this one, from one place.
pub use Rattle.formula_json.specs.Trees.{definitions_json, tree_json}
