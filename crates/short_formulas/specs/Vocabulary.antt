-- What other crates cite of this one, from one place.
pub use Rattle.short_formulas.specs.Short.{IsOrShorter, IsReadable, IsUsable}
