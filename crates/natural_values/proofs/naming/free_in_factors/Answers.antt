use Rattle.std.proofs.Common.{◌∙◌, ◌||◌, ap, arith, length}
use Rattle.mixed_graph.specs.Vocabulary.{has}
use Rattle.prob_expr.specs.Vocabulary.{free_of}
use Rattle.natural_values.proofs.Uniting.{upto_none, upto_turn, upto_all}
use Rattle.natural_values.proofs.naming.free_in_factors.Goals as goal

pub loop-factor-init : goal.loop-factor-init
loop-factor-init c = upto_none (λ f. free_of f.formula) c.args.factors.now.factors.items

pub loop-factor-preserved : goal.loop-factor-preserved
loop-factor-preserved c =
    upto_turn (λ f. free_of f.formula) c.args.factors.now.factors.items c.deref-factor-items.result.now c.loop-factor.factor-index c.factor-item.result c.loop-factor.all.bits c.union-all.result.bits
    c.deref-factor-items.ensures.value c.loop-factor-test.true c.factor-item.is c.loop-factor.invariant
    (λ v. c.union-all.ensures.members v ∙ ap (λ m. has c.loop-factor.all.bits v || has m v) c.in_ok-free.ensures)

pub returns : goal.returns
returns c = upto_all (λ f. free_of f.formula) c.args.factors.now.factors.items c.loop-factor.factor-index c.loop-factor.all.bits (let e = ap length c.deref-factor-items.ensures.value in omega (arith, c.loop-factor-test.false))
    c.loop-factor.invariant
