use Rattle.std.proofs.Common.{◌≤◌, sym, ap, subst, ◌∙◌}
use Rattle.implied_differences.specs.Blocks.{block_at}
use Rattle.implied_differences.proofs.Passing.{best_passed, sums_passed, cells_passed}
use Rattle.implied_differences.proofs.strips.best_in_strip.Goals as goal

pub may_be_passed-requires : goal.may_be_passed-requires
may_be_passed-requires c =
    c.greatest-most.ensures.least 1000000000000000 (λ j lt. subst (λ n. n ≤ 1000000000000000) (sym (c.requires.strip.each j lt))
    (c.requires.strip.blocks.each j lt).few)

pub returns-then-not-may_be_passed : goal.returns-then-not-may_be_passed
returns-then-not-may_be_passed c =
    let cells = c.args.table.now.cells.now in
    let l = c.args.table.now.layout.now in
    let w = c.args.strip.now.first.number in
    let most = c.greatest-most.result in
    best_passed cells l w c.args.strip.now.width c.args.before c.requires.before
    (sums_passed cells l w c.args.strip.now.width most c.args.before
    (λ j lt. subst (λ n. n ≤ most) (c.requires.strip.each j lt ∙ ap (block_at cells l) (c.requires.begins j lt)) (c.greatest-most.ensures.each j lt))
    c.if-not-may_be_passed.ensures.no)

pub returns-then-not-strip_reaches : goal.returns-then-not-strip_reaches
returns-then-not-strip_reaches c =
    let cells = c.args.table.now.cells.now in
    let l = c.args.table.now.layout.now in
    let w = c.args.strip.now.first.number in
    best_passed cells l w c.args.strip.now.width c.args.before c.requires.before
    (cells_passed cells l c.args.strip.now.begins.now w c.args.strip.now.width c.args.before c.requires.begins c.if-not-strip_reaches.ensures.no)
