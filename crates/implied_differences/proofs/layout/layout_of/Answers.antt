use Rattle.std.proofs.Common.{ℕ, ◌*◌, ◌≤◌, sym, subst, arith}
use Rattle.std.proofs.lemmas.Nat.{mul-le}
use Rattle.implied_differences.proofs.Agreeing.{levels_few}
use Rattle.implied_differences.proofs.Walking.{a_below, b_below}
use Rattle.implied_differences.proofs.layout.layout_of.Goals as goal

pub between-requires-clause-a : goal.between-requires-clause-a
between-requires-clause-a c = a_below c.args.c.now c.used-used.ensures.table c.args.i.now c.requires

pub between-requires-clause-b : goal.between-requires-clause-b
between-requires-clause-b c = b_below c.args.c.now c.used-used.ensures.table c.args.i.now c.requires

pub behind-requires : goal.behind-requires
behind-requires c = b_below c.args.c.now c.used-used.ensures.table c.args.i.now c.requires

three_few : (a b p : ℕ) → a ≤ 1048576 → b ≤ 1048576 → p ≤ 1048576 → a * (b * p) ≤ 1152921504606846976
three_few a b p x y z = mul-le a (b * p) 1048576 1099511627776 x (mul-le b p 1048576 1048576 y z)

pub overflow_mul-first_step-2 : goal.overflow_mul-first_step-2
overflow_mul-first_step-2 c =
    let few = subst (λ n. n ≤ 1048576) (sym c.levels-seconds.ensures) (levels_few c.args.c.now c.used-used.ensures.table c.args.i.now.b) in
    let m = three_few c.in_ok-between.between c.levels-seconds.result c.in_ok-second_step.second_step c.in_ok-between.ensures.few few
    c.in_ok-second_step.ensures.few in
    omega (arith, m)
