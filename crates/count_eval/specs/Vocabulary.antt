-- What other crates cite of this one, from one place.
pub use Rattle.count_eval.specs.Answers.{CoversCounts, CoversMatches, CoversWithZeros, IsCellOf, IsEvaluable, IsEvaluationFault, IsPlaceOf}
pub use Rattle.count_eval.specs.Evaluated.{factors_evaluated, formula_value, node_behind, some_zero}
pub use Rattle.count_eval.specs.Laws.{AllUsed, AreUsed, IsMatched, IsUsed, is_supported}
pub use Rattle.count_eval.specs.Preparations.{Preparation}
pub use Rattle.count_eval.specs.Programs.{cell_of, is_used, weights_in}
pub use Rattle.count_eval.specs.Rules.{plain}
pub use Rattle.count_eval.specs.Steps.{each_cell, one_more, whole}
pub use Rattle.count_eval.specs.Stops.{after, placed}
pub use Rattle.count_eval.specs.Supported.{all_over, has_value, have_values}
pub use Rattle.count_eval.specs.WithZeros.{has_value_with_zeros, is_supported_with_zeros, value_of_with_zeros, value_with_zeros}
