-- What other crates cite of this one, from one place.
pub use Rattle.natural_drawn.specs.Drawn.{DifferOnNestedAsDrawn, EqualsNaturalAsDrawn, IsDirectNilAsDrawn, IsIndirectNilAsDrawn, IsLostNestedAsDrawn, drawn_nested_effect, drawn_parts_value}
