-- What other crates cite of this one, from one place.
pub use Rattle.identification_theory.specs.AnswerDepth.{are_defs_within, are_trees_within, is_tree_within}
pub use Rattle.identification_theory.specs.AnswerLaws.{AreRoots}
pub use Rattle.identification_theory.specs.Depth.{are_lemmas_within, are_plans_within, is_plan_within}
pub use Rattle.identification_theory.specs.Derivations.{AreAllSteps, AreBodySteps, AreFactorSteps, ArePlaceLists, IsComposedAndDerived, IsDerived, Lists, at_each, at_place, at_zero, body_steps, cut_steps, district_steps, group_lists, group_steps, has_pair, home, home_list, home_lists, in_order, main_steps, marginal_steps, more, no_more, place_list, places, single, source_steps, two_or_more, unchain_lists, unchain_steps, universe, unwrap_steps, with_set}
pub use Rattle.identification_theory.specs.Laws.{IsAcceptedFor}
pub use Rattle.identification_theory.specs.Names.{AllNameOnly, AreAll, EachNamesOnly, FormulaNamesOnly, NamesOnly}
pub use Rattle.identification_theory.specs.Procedure.{AreAncestorsIn, AreFactored, AreFactors, IsBody, IsComposed, IsFactor, IsIdentified, IsIdentifiedBy, IsNear, IsParent, IsPillow, IsStopped, IsTarget, IsUnidentified, Source, Split, StopsAt, conditional, marginal, product_of, sum_if}
