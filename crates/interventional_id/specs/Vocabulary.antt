-- What other crates cite of this one, from one place.
pub use Rattle.interventional_id.specs.Answers.{AreFormulas, IsFormulaOf, IsRight}
pub use Rattle.interventional_id.specs.Drawn.{AreFormulasAsDrawn, EqualsInterventionalAsDrawn, IsRightAsDrawn}
pub use Rattle.interventional_id.specs.Interventional.{EqualsInterventional, interventional_effect, interventional_value, on_mediators, on_outcome}
