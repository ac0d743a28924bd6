use Rattle.std.proofs.Common.{◌*◌, ◌%◌, ◌<◌, arith}
use Rattle.bound_values.proofs.Dividing.{quotient_most, quotient_less}
use Rattle.bound_values.proofs.wide.units_over.Goals as goal

pub returns-clause-few : goal.returns-clause-few
returns-clause-few c =
    let t = c.args.top in let b = c.args.bottom in let some = c.requires.positive in let four = c.requires.at_most_four in
    let rest : t * 1000000 % b < b = omega (arith, some) in
    let later : t * 1000000 % b * 1000000 % b < b = omega (arith, some) in
    let first = quotient_most (t * 1000000) b 4000000 some (omega (arith, four)) in
    let second = quotient_less (t * 1000000 % b * 1000000) b 1000000 some (omega (arith, rest)) in
    let third = quotient_less (t * 1000000 % b * 1000000 % b * 1000000) b 1000000 some (omega (arith, later)) in
    omega (arith, first, second, third)
