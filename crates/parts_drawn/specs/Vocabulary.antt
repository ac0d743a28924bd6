-- What other crates cite of this one, from one place.
pub use Rattle.parts_drawn.specs.Drawn.{EqualsAmongPartsAsDrawn, MakeUpAmongAsDrawn, MakeUpNestedAsDrawn}
