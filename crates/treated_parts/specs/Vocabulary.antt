-- What other crates cite of this one, from one place.
pub use Rattle.treated_parts.specs.Parts.{AreTreatedParts, EqualsAmongParts, treated_value}
