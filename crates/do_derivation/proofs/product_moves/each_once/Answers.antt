use Rattle.std.proofs.Common.{◌≡◌, false, sym, rules}
use Rattle.do_derivation.specs.View.{numbers_of}
use Rattle.do_derivation.specs.Shapes.{times_in, all_of}
use Rattle.do_derivation.proofs.Lists
use Rattle.do_derivation.proofs.product_moves.each_once.Goals as goal
use Rattle.std.proofs.Common.{eqb}

pub returns-then-not-is_once : goal.returns-then-not-is_once
returns-then-not-is_once c =
    let h : eqb (times_in c.loop-i.i (all_of (numbers_of c.args.groups.now.items))) 1 ≡ false = search rules in
    sym (Lists.all_below_fails c.args.m c.loop-i.i (λ i. eqb (times_in i (all_of (numbers_of c.args.groups.now.items))) 1) c.loop-i-test.true h)
