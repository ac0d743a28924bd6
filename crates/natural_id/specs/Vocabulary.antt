-- What other crates cite of this one, from one place.
pub use Rattle.natural_id.specs.Answers.{AreAlike, IfFormula, IsLostNested, IsRight, IsSplit, IsSplitIn, IsSplitOrNone, IsWitness, IsWitnessOrNone, ReadsBoth, is_hedge, part_view, parts_view}
pub use Rattle.natural_id.specs.Parts.{AreFoundParts, AreNaturalParts, AreRightParts, EqualsNatural, IsFormulaByParts, IsFoundPart, IsNaturalTarget, PlainPart, districts_of, natural_value, parts_value}
