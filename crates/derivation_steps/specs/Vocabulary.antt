-- What other crates cite of this one, from one place.
pub use Rattle.derivation_steps.specs.Parts.{Explains, IsDerived}
