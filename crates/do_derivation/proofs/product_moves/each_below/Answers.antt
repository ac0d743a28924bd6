use Rattle.std.proofs.Common.{◌≡◌, true, false, sym, ◌∙◌, rules, arith}
use Rattle.do_derivation.specs.Shapes.{each_below}
use Rattle.do_derivation.proofs.Walks
use Rattle.do_derivation.proofs.product_moves.each_below.Goals as goal

pub returns-then-not-are_below : goal.returns-then-not-are_below
returns-then-not-are_below c =
    let h : each_below c.args.m c.group-item.result.items ≡ false = search rules in
    rw (← c.deref-group-items.ensures.value)
    (sym (sym c.loop-group.invariant ∙ Walks.below_fails c.deref-group-items.result.now c.loop-group.group-index c.group-item.result (omega arith)
    c.group-item.is c.args.m h))

pub loop-group-preserved : goal.loop-group-preserved
loop-group-preserved c =
    let h : each_below c.args.m c.group-item.result.items ≡ true = search rules in
    Walks.below_holds c.deref-group-items.result.now c.loop-group.group-index c.group-item.result (omega arith) c.group-item.is c.args.m h
    ∙ c.loop-group.invariant
