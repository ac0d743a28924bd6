use Rattle.std.proofs.Common.{ℕ, arith, subst, sym}
use mathlib.Core.Path.{fun_ext}
use Rattle.count_eval.specs.Vocabulary.{cell_of, weights_in}
use Rattle.factor_values.specs.Vocabulary.{factors_view}
use Rattle.prob_expr.specs.Vocabulary.{formula_view}
use Rattle.paired_values.proofs.Levels as levels
use Rattle.paired_values.specs.Cells.{second_levels}
use Rattle.paired_values.specs.Readings.{by_factors, by_split, paired_view, reading_view}
use Rattle.paired_values.specs.Values.{MayAnswer, outcome_at}
use Rattle.paired_values.specs.declared.readings.Reading.{Reading}
use Rattle.paired_values.proofs.cells.value_at.Goals as goal

pub as_observed-second-requires-clause-few : goal.as_observed-second-requires-clause-few
as_observed-second-requires-clause-few g c = c.requires.over.few

pub as_observed-second-requires-clause-within : goal.as_observed-second-requires-clause-within
as_observed-second-requires-clause-within g c = c.requires.over.sets.x_within

pub factors_at-requires-clause-second : goal.factors_at-requires-clause-second
factors_at-requires-clause-second g c =
    let e = c.args.effect.now in
    levels.second_levels e.n e.sets.x.bits c.args.counts.now c.args.cell.now c.requires.cell.long (let few = c.requires.over.few in omega (arith, few))
    c.requires.over.sets.x_within c.requires.over.below c.requires.cell.levels c.as_observed-second.result (omega arith) c.as_observed-second.ensures

pub split_at-requires-clause-second : goal.split_at-requires-clause-second
split_at-requires-clause-second g c =
    let e = c.args.effect.now in
    levels.second_levels e.n e.sets.x.bits c.args.counts.now c.args.cell.now c.requires.cell.long (let few = c.requires.over.few in omega (arith, few))
    c.requires.over.sets.x_within c.requires.over.below c.requires.cell.levels c.as_observed-second.result (omega arith) c.as_observed-second.ensures

pub returns-in-Factors : goal.returns-in-Factors
returns-in-Factors g c =
    let e = paired_view c.args.effect.now in let t = c.args.counts.now in let w = weights_in e.vertices t in let s = cell_of c.args.cell.now in
    subst (λ (r : Reading). MayAnswer g.Q.Quantity.numbers t (outcome_at g.Q.Quantity.kind g.Q.Difference.difference w e (reading_view r) s
    (second_levels e c.args.cell.now)) c.factors_at.result) (sym c.in-Factors.is)
    (subst (λ (u : ℕ → ℕ). MayAnswer g.Q.Quantity.numbers t (outcome_at g.Q.Quantity.kind g.Q.Difference.difference w e
    (by_factors (factors_view c.in-Factors.factors.now)) s u) c.factors_at.result) (fun_ext c.as_observed-second.ensures) c.factors_at.ensures)

pub returns-in-Split : goal.returns-in-Split
returns-in-Split g c =
    let e = paired_view c.args.effect.now in let t = c.args.counts.now in let w = weights_in e.vertices t in let s = cell_of c.args.cell.now in
    subst (λ (r : Reading). MayAnswer g.Q.Quantity.numbers t (outcome_at g.Q.Quantity.kind g.Q.Difference.difference w e (reading_view r) s
    (second_levels e c.args.cell.now)) c.split_at.result) (sym c.in-Split.is)
    (subst (λ (u : ℕ → ℕ). MayAnswer g.Q.Quantity.numbers t (outcome_at g.Q.Quantity.kind g.Q.Difference.difference w e
    (by_split (formula_view c.in-Split.joint.now)) s u) c.split_at.result) (fun_ext c.as_observed-second.ensures) c.split_at.ensures)
