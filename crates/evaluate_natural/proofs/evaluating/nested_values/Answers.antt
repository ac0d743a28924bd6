use Rattle.std.proofs.Common.{sym, subst}
use Rattle.paired_values.specs.Readings.{IsOver}
use Rattle.paired_values.specs.Vocabulary.{AreValuesOver, IsWhyNone, PlainPaired}
use Rattle.evaluate_natural.specs.Effects.{nested_in}
use Rattle.evaluate_natural.proofs.Covered.{nothing_left, values_covered}
use Rattle.evaluate_natural.proofs.Evaluable.{over_paired}
use Rattle.evaluate_natural.proofs.evaluating.nested_values.Goals as goal

pub values_over-requires : goal.values_over-requires
values_over-requires c =
    subst (λ (p : PlainPaired). IsOver p c.args.counts.now) (sym c.paired-effect.ensures)
    (over_paired (nested_in c.args.seen.now c.args.found.now) c.args.counts.now c.requires)

pub returns-in-Ok-clause-values : goal.returns-in-Ok-clause-values
returns-in-Ok-clause-values c =
    values_covered (nested_in c.args.seen.now c.args.found.now) c.args.counts.now c.requires c.args.exact c.laws.ensures.covered c.laws-2.ensures.covered
    c.laws-3.ensures.covers c.laws-4.ensures.covers c.in-Ok.values
    (subst (λ (p : PlainPaired). AreValuesOver c.args.exact p c.args.counts.now c.in-Ok.values) c.paired-effect.ensures c.in-Ok.ensures.values)

pub unreachable-requires : goal.unreachable-requires
unreachable-requires c =
    nothing_left (nested_in c.args.seen.now c.args.found.now) c.args.counts.now c.requires c.args.exact c.in-Err-Below.field-0-0 c.in-Err-Below.field-0
    c.in-Err-Below.field-0-is (λ kept. subst (λ (p : PlainPaired). IsWhyNone c.args.exact p c.args.counts.now c.in-Err-Below.field-0) c.paired-effect.ensures
    (c.in-Err-Below.ensures.fault kept))
