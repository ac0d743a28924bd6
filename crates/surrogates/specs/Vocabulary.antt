-- What other crates cite of this one, from one place.
pub use Rattle.surrogates.specs.Answers.{HasCommon, IfCommon, IfFormula, IfStopped, IsBlockShown, IsBlockedTogether, IsRightBlock, IsRightFormulaWith, IsRightWith, IsStopShown, is_stopped}
pub use Rattle.surrogates.specs.Common.{around}
pub use Rattle.surrogates.specs.Surrogates.{AreDerivedWith, ComesFirst, IsComposedBySteps, IsDerivedUnder, IsFactorUnder, IsStoppedUnder, IsSurrogate, IsSurrogateBySteps, SomeBlocked, without}
