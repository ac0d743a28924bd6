-- What other crates cite of this one, from one place.
pub use Rattle.do_derivation.specs.Accepts.{AcceptsNot, Define, are_sets, sets_of, start_of}
pub use Rattle.do_derivation.specs.Answers.{IsApplyFault, UnlessNoMemory}
pub use Rattle.do_derivation.specs.Plans.{PlainDerivation, PlainLemma, no_plans, plans_of}
pub use Rattle.do_derivation.specs.Shapes.{all_of, appended, as_one, chained, child, count_factors, each_below, factor_at, flat, gathered, grouped, groups_of, has_product, is_grouping, is_list_of, narrowed, none_empty, or_nothing, picked, term_with, times_in, unchained, unwrapped, with_child, with_factor}
pub use Rattle.do_derivation.specs.Steps.{IsMade, Makes, MakesAll}
pub use Rattle.do_derivation.specs.Table.{if_made, if_so, is_new, is_part, on_term}
pub use Rattle.do_derivation.specs.View.{derivation_view, lemma_view, listed, move_view, node_view, numbers_of, step_view, steps_view}
pub use Rattle.do_derivation.specs.Words.{bare_word, move_word, set_word}
-- These may be unfolded there.
unfoldable pub use Rattle.do_derivation.specs.Words.{bare_move_of, set_move_of}
