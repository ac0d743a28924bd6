use Rattle.std.proofs.Common.{◌+◌, ◌≡◌, sym, subst, arith}
use Rattle.implied_differences.specs.Blocks.{IsBlock, AreBegins, IsBest}
use Rattle.implied_differences.proofs.Bases.{base_first}
use Rattle.implied_differences.proofs.Visiting.{best_none}
use Rattle.implied_differences.proofs.strips.best_of_strips.Goals as goal
use Rattle.implied_differences.proofs.strips.best_of_strips.Goals.{After-list_begins-next}

pub strips-init : goal.strips-init
strips-init c =
    let first = c.first-block.ensures in
    let none = c.none-best.ensures in
    let number = first.number in
    record {
      begins = c.requires.begins;
      sums = c.requires.sums;
      rows = c.requires.rows;
      across = c.requires.across;
      columns = c.requires.columns;
      within = omega (arith, number);
      base = base_first c.args.table.now.layout.now c.first-block.result c.requires.blocks.stepped first.number first.begin first.between first.behind;
      best = subst (λ n. IsBest c.args.table.now.cells.now c.args.table.now.layout.now n 0 0 c.none-best.result) (sym first.number)
          (best_none c.args.table.now.cells.now c.args.table.now.layout.now c.none-best.result none.left none.right none.distance none.number);
    }

-- the blocks of the strip
blocks : (c : After-list_begins-next) → AreBegins c.args.table.now.cells.now c.args.table.now.layout.now c.list_begins-next.new.begins c.min-width.result
blocks c =
    let within = c.strips.invariant.within in
    record {
      some = omega arith;
      long = (let long = c.strips.invariant.begins in omega arith);
      each = λ j lt. subst (λ n. IsBlock c.args.table.now.cells.now c.args.table.now.layout.now n) (sym (c.list_begins-next.ensures.begins j lt))
          (c.requires.blocks.each (c.strips.block.number + j) (omega arith));
    }

pub sum_blocks-requires-clause-begins : goal.sum_blocks-requires-clause-begins
sum_blocks-requires-clause-begins c = blocks (goal.at.sum_blocks-requires-clause-begins c).After-list_begins-next

pub best_in_strip-best-requires-clause-strip : goal.best_in_strip-best-requires-clause-strip
best_in_strip-best-requires-clause-strip c = record {
  blocks = blocks (goal.at.best_in_strip-best-requires-clause-strip c).After-list_begins-next;
  long = omega arith;
  each = c.sum_blocks.ensures;
}

pub returns : goal.returns
returns c =
    let within = c.strips.invariant.within in
    let e : c.strips.block.number ≡ c.args.table.now.layout.now.count = omega (arith, within) in
    subst (λ n. IsBest c.args.table.now.cells.now c.args.table.now.layout.now n 0 0 c.strips.best) e c.strips.invariant.best
