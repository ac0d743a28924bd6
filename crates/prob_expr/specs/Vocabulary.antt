-- What other crates cite of this one, from one place.
pub use Rattle.prob_expr.specs.Check.{are_two, cap, check_tree, check_trees, fault_in, fault_in_defs, fault_of, next_node, or_else, ◌>>=◌}
pub use Rattle.prob_expr.specs.Differences.{DifferOn, DifferOnTarget, HasNoFormula, HasNoFormulaOver}
pub use Rattle.prob_expr.specs.Experiments.{AgreeUnderAll}
pub use Rattle.prob_expr.specs.Failing.{FailsSomewhere}
pub use Rattle.prob_expr.specs.Fold.{has_factors}
pub use Rattle.prob_expr.specs.Free.{free_in, free_in_any, free_in_defs, free_of}
pub use Rattle.prob_expr.specs.Listed.{masks_of}
pub use Rattle.prob_expr.specs.Mentioned.{mentioned_in, mentioned_in_any, mentioned_in_defs}
pub use Rattle.prob_expr.specs.Proportional.{AreProportional}
pub use Rattle.prob_expr.specs.TermSets.{are_term_sets}
pub use Rattle.prob_expr.specs.Terms.{all_under, are_terms, are_terms_each, are_under, is_allowed, is_do_free, is_listed, is_term, is_under}
pub use Rattle.prob_expr.specs.Tree.{PlainFormula, PlainTarget, Trees, effect_on, no_trees, term_of, trees_of}
pub use Rattle.prob_expr.specs.TreeCodes.{coded_tree}
pub use Rattle.prob_expr.specs.Uses.{defs_use_only, formula_uses_only, use_only, uses_only}
pub use Rattle.prob_expr.specs.Values.{EqualsEffect, Weights, add_over, effect, product_value, term_value, value, value_of, values_from, weights_of}
pub use Rattle.prob_expr.specs.View.{formula_view, target_view, views}
