-- What other crates cite of this one, from one place.
pub use Rattle.identify.specs.Answers.{AreShallowSteps, IfFormula, IfHedge, IfHedgeAlone, IsRight, IsRightAlone, IsRightFormula, IsRightHedge, IsShallowFormula, is_hedge, is_hedge_alone}
pub use Rattle.identify.specs.Deciding.{IsIdentifiable, IsNotIdentifiable}
pub use Rattle.identify.specs.Factored.{AreAssembled, IsStopBy}
pub use Rattle.identify.specs.Factors.{IsFactorFault, IsMadeFactor}
pub use Rattle.identify.specs.Hedged.{IsHedgeOf}
pub use Rattle.identify.specs.Lists.{lists_view, onto}
