use Rattle.std.proofs.Common.{arith}
use Rattle.std.proofs.Math.Nat.{pow-le-pow_right}
use Rattle.mixed_graph.proofs.name_keys.digits.Goals as goal

pub overflow_mul-number : goal.overflow_mul-number
overflow_mul-number c =
    let p = pow-le-pow_right {n = 256} (omega arith) {i = c.loop-byte.byte-index} {j = 6} (omega arith) in omega (arith, p)
