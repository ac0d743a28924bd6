use Rattle.hidden_models.proofs.Drawing.{each_is_folded, unfolded_is_positive, difference_is_drawn, difference_over_is_drawn, formula_as_drawn_fixes}
use Rattle.hidden_models.proofs.Drawing.{formula_failure_is_drawn}
use Rattle.hidden_models.proofs.Drawn.{folded_is_positive, folded_keeps_weights, folded_keeps_values, folded_keeps_effects, right_as_drawn}
use Rattle.hidden_models.proofs.Folded.{each_has_folded}
use Rattle.hidden_models.proofs.Statements.{independence_is_drawn, dependence_is_drawn, equation_is_drawn, failure_is_drawn}
use Rattle.hidden_models.proofs.theory.laws.Goals as goal

pub returns : goal.returns
returns c = record {
  folded = each_has_folded;
  positive = folded_is_positive;
  weights = folded_keeps_weights;
  values = folded_keeps_values;
  effects = folded_keeps_effects;
  drawn = right_as_drawn;
  unfolded = each_is_folded;
  unfolded_positive = unfolded_is_positive;
  not_identifiable = difference_is_drawn;
  over_experiments = difference_over_is_drawn;
  fixes = formula_as_drawn_fixes;
  formula_failure = formula_failure_is_drawn;
  independent = independence_is_drawn;
  dependent = dependence_is_drawn;
  equation = equation_is_drawn;
  failure = failure_is_drawn;
}
