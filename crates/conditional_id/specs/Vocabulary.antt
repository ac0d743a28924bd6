-- What other crates cite of this one, from one place.
pub use Rattle.conditional_id.specs.Answers.{IfFormula, IfJoint, IsJointEffect, IsJointShown, IsRight, IsRightJoint, SomeFormula, SomeJointHedge, is_joint}
pub use Rattle.conditional_id.specs.Conditionals.{IsConditional, IsConditionalBySteps}
pub use Rattle.conditional_id.specs.HedgeLaws.{AreModelsOf}
pub use Rattle.conditional_id.specs.Settled.{IsSettled}
pub use Rattle.conditional_id.specs.TurnLaws.{IsRightGiven, IsShallowGiven}
