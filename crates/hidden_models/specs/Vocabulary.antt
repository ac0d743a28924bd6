-- What other crates cite of this one, from one place.
pub use Rattle.hidden_models.specs.Folding.{Folds, IsMatchedAsDrawn, IsObservedPositive, drawn_effect, drawn_weights, new_number, set_before, values_after, values_before}
pub use Rattle.hidden_models.specs.FoldingLaws.{EqualsAsDrawn}
pub use Rattle.hidden_models.specs.Statements.{AreDependentAsDrawn, AreEqualSidesAsDrawn, AreIndependentAsDrawn, DifferSomewhereAsDrawn}
pub use Rattle.hidden_models.specs.Unfolding.{AgreeAsDrawn, DifferOnAsDrawn, FailsSomewhereAsDrawn, IsFoldedFrom, NotIdentifiableAsDrawn, NotIdentifiableOverAsDrawn, SharesWorlds}
