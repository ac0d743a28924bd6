use Rattle.prob_expr.proofs.Excluded.{unequal_weights, difference_excludes_formula, experiments_exclude_formula}
use Rattle.prob_expr.proofs.Allowed.{experiments_fix_value}
use Rattle.prob_expr.proofs.Checked.{accepted_is_whole}
use Rattle.prob_expr.proofs.FreeLaws.{value_reads_free}
use Rattle.prob_expr.proofs.Observed.{effect_is_over_total, observed_fixes_value, formula_fixes_effect}
use Rattle.prob_expr.proofs.ValueLaws.{values_are_positive, effects_are_positive}
use Rattle.prob_expr.proofs.theory.laws.Goals as goal

pub returns-clause-positive : goal.returns-clause-positive
returns-clause-positive c = values_are_positive

pub returns-clause-positive_effect : goal.returns-clause-positive_effect
returns-clause-positive_effect c = effects_are_positive

pub returns-clause-whole : goal.returns-clause-whole
returns-clause-whole c = effect_is_over_total

pub returns-clause-observed : goal.returns-clause-observed
returns-clause-observed c = observed_fixes_value

pub returns-clause-fixes : goal.returns-clause-fixes
returns-clause-fixes c = formula_fixes_effect

pub returns-clause-accepted : goal.returns-clause-accepted
returns-clause-accepted c = accepted_is_whole

pub returns-clause-free : goal.returns-clause-free
returns-clause-free c = value_reads_free

pub returns-clause-experiments : goal.returns-clause-experiments
returns-clause-experiments c = experiments_fix_value

pub returns-clause-unequal : goal.returns-clause-unequal
returns-clause-unequal c = unequal_weights

pub returns-clause-excludes : goal.returns-clause-excludes
returns-clause-excludes c = difference_excludes_formula

pub returns-clause-excludes_over : goal.returns-clause-excludes_over
returns-clause-excludes_over c = experiments_exclude_formula
