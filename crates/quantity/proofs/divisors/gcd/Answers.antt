use Rattle.std.proofs.Common.{◌<◌, sym, subst}
use Rattle.std.proofs.lemmas.Nat.Gcd.{IsGcd-from_mod, IsGcd-from_zero, same_from_IsGcd}
use Rattle.quantity.specs.Divisors.{gcd_of}
use Rattle.quantity.specs.Laws.Gcd.{gcd_is, gcd_positive}
use Rattle.quantity.proofs.divisors.gcd.Goals as goal

pub loop-y-preserved : goal.loop-y-preserved
loop-y-preserved c = λ g h. c.loop-y.invariant g (IsGcd-from_mod c.loop-y.x c.loop-y.y g h)

same : goal.returns-clause-value
same c = same_from_IsGcd c.args.a c.args.b c.loop-y.x (gcd_of c.args.a c.args.b)
    (c.loop-y.invariant c.loop-y.x (IsGcd-from_zero c.loop-y.x c.loop-y.y c.loop-y-test.false)) (gcd_is c.args.a c.args.b)

pub returns-clause-value : goal.returns-clause-value
returns-clause-value c = same c

pub returns-clause-positive : goal.returns-clause-positive
returns-clause-positive c = λ some. subst (λ g. 0 < g) (sym (same c)) (gcd_positive c.args.a c.args.b some)
