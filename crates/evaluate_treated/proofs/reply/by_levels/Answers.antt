use Rattle.std.proofs.Common.{◌≡◌, false, refl, ap, subst, ◌∙◌}
use Rattle.paired_values.specs.Vocabulary.{is_wanting, pinned_in}
use Rattle.paired_values.specs.declared.fault.PairFault.TheVariants.{Below}
use Rattle.paired_values.proofs.ValuedCells.{why_below}
use Rattle.evaluate_treated.specs.Effects.{among_in, paired_in}
use Rattle.evaluate_treated.specs.Walking.{IsNone}
use Rattle.evaluate_treated.proofs.reply.by_levels.Goals as goal

pub among_values-requires-clause-over : goal.among_values-requires-clause-over
among_values-requires-clause-over c = record { identified = c.requires.held.identified; counts = c.used-used.ensures.table; vertices = c.requires.read }

pub returns-in-Err-Below-clause-answer : goal.returns-in-Err-Below-clause-answer
returns-in-Err-Below-clause-answer c =
    let e = among_in c.args.seen.now c.args.found.now in let t = c.args.counts in let exact = c.args.exact in let cell = c.in-Err-Below.cell in
    let none = subst (λ f. is_wanting f ≡ false → IsNone exact e t f) c.in-Err-Below.field-0-is c.in-Err-Below.ensures.fault refl in
    record {
      asked = refl;
      observed = c.in_ok-observed.ensures;
      pinned = c.in_ok-pinned.ensures ∙ ap pinned_in c.paired.ensures;
      table = refl;
      levels = c.requires.levels;
      cell = why_below exact (paired_in e) t (Below cell) none.why cell.items refl;
      none = none.none cell.items refl;
    }
