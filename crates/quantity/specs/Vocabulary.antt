-- What other crates cite of this one, from one place.
pub use Rattle.quantity.specs.Exacts.{Equals, exact_div, lowest, product_by}
pub use Rattle.quantity.specs.Intervals.{Covers, ceiling}
pub use Rattle.quantity.specs.Kinds.{Kind, gives, most}
pub use Rattle.quantity.specs.Lawful.{IsLawful, Keeps}
pub use Rattle.quantity.specs.Laws.Exact.{exact_lawful}
pub use Rattle.quantity.specs.Laws.Gcd.{coprime_from}
pub use Rattle.quantity.specs.Laws.Interval.{bounds_lawful}
pub use Rattle.quantity.specs.Texts.{ratio_text, units_text}
-- These may be unfolded there.
unfoldable pub use Rattle.quantity.specs.Divisors.{gcd_of}
