use Rattle.std.proofs.Common.{◌≡◌, ◌∙◌, Result, Ok, arith}
use Rattle.quantity.specs.declared.fault.QuantityFault.{QuantityFault}
use Rattle.quantity.specs.Vocabulary.{lowest}
use Rattle.quantity.specs.Kinds.{Pair, pair}
use Rattle.bound_values.proofs.Exactly.{whole_lowest, quotient_exact}
use Rattle.bound_values.proofs.wide.ExactOfRatio.of_ratio.Goals as goal

pub invariant_of-top : goal.invariant_of-top
invariant_of-top c =
    let r = c.args.ratio in let four = r.at_most_four in let small = r.small in
    record { positive = omega arith; top = omega (arith, four, small); bottom = omega arith; lowest = whole_lowest r.top }

pub invariant_of-bottom : goal.invariant_of-bottom
invariant_of-bottom c =
    let r = c.args.ratio in let small = r.small in
    record { positive = omega arith; top = omega (arith, small); bottom = omega arith; lowest = whole_lowest r.bottom }

pub returns : goal.returns
returns c =
    let r = c.args.ratio in let four = r.at_most_four in let small = r.small in
    let same : ◌≡◌ {A = Result Pair QuantityFault} (Ok (pair c.in-Ok.quotient.p c.in-Ok.quotient.q)) (Ok (lowest r.top r.bottom)) =
    c.in-Ok.ensures ∙ quotient_exact r.top r.bottom r.positive (omega (arith, four, small)) (omega (arith, small)) in
    let s : pair c.in-Ok.quotient.p c.in-Ok.quotient.q ≡ lowest r.top r.bottom = cc in s
