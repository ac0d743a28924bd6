use Rattle.std.proofs.Common.{arith}
use Rattle.mixed_graph.proofs.NameKeys.{few}
use Rattle.mixed_graph.proofs.name_keys.key_of_digits.Goals as goal

pub overflow_add-result : goal.overflow_add-result
overflow_add-result c =
    let known = c.requires (omega (arith, c.if-name-gt7.false)) in
    let f = few c.args.name.now (omega (arith, c.if-name-gt7.false)) known.1 in
    let d = known.0 in
    omega (arith, f, d, c.if-name-gt7.false)
