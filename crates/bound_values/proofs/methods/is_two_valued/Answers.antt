use Rattle.bound_values.proofs.TwoValued.{some_mask, two_valued_is, has_two_values}
use Rattle.std.proofs.Common.{eqb, ap, sym, ◌∙◌, arith}
use Rattle.mixed_graph.specs.Vocabulary.{has}
use Rattle.bound_values.proofs.methods.is_two_valued.Goals as goal

pub lowest-requires : goal.lowest-requires
lowest-requires c = some_mask c.args.x.bits (let one = c.count.ensures in let is = c.if-count-eq1.true in omega (arith, one, is))

pub returns-then-count-eq1-clause-value : goal.returns-then-count-eq1-clause-value
returns-then-count-eq1-clause-value c =
    ap (λ k. eqb k 2) c.levels.ensures
    ∙ two_valued_is c.args.counts.now (has c.args.x.bits) c.lowest.result (let one = c.count.ensures in let is = c.if-count-eq1.true in omega (arith, one, is))
    c.lowest.ensures.in_range c.lowest.ensures.member

pub returns-then-count-eq1-clause-two_valued : goal.returns-then-count-eq1-clause-two_valued
returns-then-count-eq1-clause-two_valued c n h =
    has_two_values c.args.counts.now c.args.x.bits c.lowest.result (omega arith)
    (let one = c.count.ensures in let is = c.if-count-eq1.true in omega (arith, one, is)) c.lowest.ensures.in_range c.lowest.ensures.member n
    (ap (λ k. eqb k 2) (sym c.levels.ensures) ∙ h)
