use Rattle.std.proofs.Common.{true, false, sym, subst}
use Rattle.paired_values.specs.Readings.{IsOver}
use Rattle.paired_values.specs.Vocabulary.{PlainPaired, paired_view}
use Rattle.evaluate_treated.specs.Effects.{among_in}
use Rattle.evaluate_treated.proofs.Covered.{AreLaws, if_none, if_shown, laws_for}
use Rattle.evaluate_treated.proofs.Evaluable.{over_paired}
use Rattle.evaluate_treated.proofs.evaluating.among_values.Goals as goal

pub values_over-requires : goal.values_over-requires
values_over-requires c =
    subst (λ (p : PlainPaired). IsOver p c.args.counts.now) (sym c.paired.ensures)
    (over_paired (among_in c.args.seen.now c.args.found.now) c.args.counts.now c.requires.over)

pub returns : goal.returns
returns c =
    let e = among_in c.args.seen.now c.args.found.now in let t = c.args.counts.now in let exact = c.args.exact in
    let fractions : AreLaws true = record {
      factors_counts = c.laws.ensures.covered;
      factors_among = c.laws-3.ensures.covers;
      split_counts = c.laws-5.ensures.enclosed;
      split_among = c.laws-5.ensures.among;
      split_none = c.laws-5.ensures.unmatched;
    } in
    let bounds : AreLaws false = record {
      factors_counts = c.laws-2.ensures.covered;
      factors_among = c.laws-4.ensures.covers;
      split_counts = c.laws-6.ensures.enclosed;
      split_among = c.laws-6.ensures.among;
      split_none = c.laws-6.ensures.unmatched;
    } in
    let laws = laws_for fractions bounds exact in
    record {
      values = if_shown exact laws e t c.requires.over c.requires.levels (paired_view c.paired.result) c.paired.ensures c.values_over.result
          c.values_over.ensures.values;
      fault = if_none exact laws e t c.requires.over c.requires.levels (paired_view c.paired.result) c.paired.ensures c.values_over.result
          c.values_over.ensures.fault;
    }
