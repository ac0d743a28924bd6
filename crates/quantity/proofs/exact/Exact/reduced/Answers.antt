use Rattle.std.proofs.Common.{◌≤◌, ◌/◌, ap, ◌∙◌, sym, subst}
use Rattle.quantity.specs.Divisors.{gcd_of}
use Rattle.quantity.specs.Laws.Gcd.{coprime_lowest}
use Rattle.quantity.specs.Kinds.{most}
use Rattle.quantity.proofs.ExactSteps.{lowest_positive, quotient_most}
use Rattle.quantity.proofs.exact.Exact.reduced.Goals as goal

pub invariant_of-result : goal.invariant_of-result
invariant_of-result c = record {
  positive = subst (λ g. 1 ≤ c.args.q / g) (sym c.gcd-g.ensures.value) (lowest_positive c.args.p c.args.q c.requires.positive);
  top = quotient_most c.args.p c.gcd-g.result most c.requires.top;
  bottom = quotient_most c.args.q c.gcd-g.result most c.requires.bottom;
  lowest = ap (λ g. gcd_of (c.args.p / g) (c.args.q / g)) c.gcd-g.ensures.value ∙ coprime_lowest c.args.p c.args.q c.requires.positive;
}
