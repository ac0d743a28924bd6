use Rattle.std.proofs.Common.{◌≡◌, ◌∙◌, Result, Ok, arith}
use Rattle.quantity.specs.declared.fault.QuantityFault.{QuantityFault}
use Rattle.quantity.specs.Vocabulary.{lowest}
use Rattle.quantity.specs.Kinds.{Pair, pair}
use Rattle.differences.proofs.Quotients.{whole_lowest, quotient_exact}
use Rattle.differences.proofs.exact.reduced.Goals as goal

pub invariant_of-top : goal.invariant_of-top
invariant_of-top c = record { positive = omega arith; top = c.requires.top; bottom = omega arith; lowest = whole_lowest c.args.p }

pub invariant_of-bottom : goal.invariant_of-bottom
invariant_of-bottom c = record { positive = omega arith; top = c.requires.bottom; bottom = omega arith; lowest = whole_lowest c.args.q }

pub returns : goal.returns
returns c =
    let p = c.args.p in let q = c.args.q in
    let same : ◌≡◌ {A = Result Pair QuantityFault} (Ok (pair c.in-Ok.quotient.p c.in-Ok.quotient.q)) (Ok (lowest p q)) =
    c.in-Ok.ensures ∙ quotient_exact p q c.requires.positive c.requires.top c.requires.bottom in
    let s : pair c.in-Ok.quotient.p c.in-Ok.quotient.q ≡ lowest p q = cc in s
