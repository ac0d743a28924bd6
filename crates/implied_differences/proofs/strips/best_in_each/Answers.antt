use Rattle.std.proofs.Common.{◌<◌, ◌≤◌, sym, subst, arith}
use Rattle.implied_differences.specs.Blocks.{IsBlock}
use Rattle.implied_differences.proofs.Bases.{begins, count_few}
use Rattle.implied_differences.proofs.strips.best_in_each.Goals as goal

pub best_in_block-best-requires-clause-block : goal.best_in_block-best-requires-clause-block
best_in_block-best-requires-clause-block c =
    let number = c.loop.invariant.number in
    let lt : c.loop.next.number < c.args.table.now.layout.now.count = omega (arith, number) in
    subst (λ n. IsBlock c.args.table.now.cells.now c.args.table.now.layout.now n) (sym (begins c.args.table.now.layout.now c.loop.next c.loop.invariant.base))
    (c.requires.blocks.each c.loop.next.number lt)

pub best_in_block-best-requires-clause-base : goal.best_in_block-best-requires-clause-base
best_in_block-best-requires-clause-base c = begins c.args.table.now.layout.now c.loop.next c.loop.invariant.base

pub best_in_block-best-requires-clause-number : goal.best_in_block-best-requires-clause-number
best_in_block-best-requires-clause-number c = let number = c.loop.invariant.number in omega (arith, number)

pub best_in_block-best-requires-clause-before : goal.best_in_block-best-requires-clause-before
best_in_block-best-requires-clause-before c = c.loop.invariant.best

pub next-next-requires-clause-begin : goal.next-next-requires-clause-begin
next-next-requires-clause-begin c =
    let number = c.loop.invariant.number in
    let lt : c.loop.next.number < c.args.table.now.layout.now.count = omega (arith, number) in
    subst (λ n. n ≤ 1048576) (sym (begins c.args.table.now.layout.now c.loop.next c.loop.invariant.base)) (c.requires.blocks.small c.loop.next.number lt)

pub next-next-requires-clause-number : goal.next-next-requires-clause-number
next-next-requires-clause-number c =
    let number = c.loop.invariant.number in
    let few = count_few c.args.table.now.layout.now.firsts c.args.table.now.layout.now.seconds c.args.table.now.layout.now.count
    c.requires.blocks.stepped.firsts c.requires.blocks.stepped.seconds c.requires.blocks.few in
    omega (arith, number, few)
