use Rattle.std.proofs.Common.{◌+◌, ◌*◌, ◌<◌, ◌≤◌, sym, ap, ap₂, subst, ◌∙◌, arith}
use Rattle.std.specs.Int.{abs_diff}
use Rattle.std.proofs.lemmas.Bool.{OnTrue_at, OnFalse_at}
use Rattle.implied_differences.specs.declared.candidates.Candidate.{Candidate}
use Rattle.implied_differences.specs.Blocks.{value_at, row_at, column_at, block_at, IsOf, IsBest}
use Rattle.implied_differences.proofs.BlockSums.{value_few, column_few, row_few}
use Rattle.implied_differences.proofs.Visiting.{best_next, best_stay}
use Rattle.implied_differences.proofs.blocks.best_in_row.Goals as goal
use Rattle.implied_differences.proofs.blocks.best_in_row.Goals.{then-is_ahead, else-is_ahead}

pub overflow_mul-row : goal.overflow_mul-row
overflow_mul-row c = let less = c.requires.block.inside c.args.x 0 c.requires.first c.requires.block.some in omega (arith, less)

pub overflow_add-row : goal.overflow_add-row
overflow_add-row c = let less = c.requires.block.inside c.args.x 0 c.requires.first c.requires.block.some in omega (arith, less)

pub strided_sum-first-requires-clause-room : goal.strided_sum-first-requires-clause-room
strided_sum-first-requires-clause-room c =
    let few = row_few c.args.table.now.cells.now c.args.table.now.layout.now c.args.block.now.begin c.requires.block c.args.x c.requires.first in
    omega (arith, few)

pub new-here-requires-clause-whole : goal.new-here-requires-clause-whole
new-here-requires-clause-whole c = value_few c.args.table.now.cells.now c.args.table.now.layout.now c.args.block.now.begin c.requires.block c.args.x
    c.loop-y.y c.requires.first (omega arith)

pub new-here-requires-clause-first : goal.new-here-requires-clause-first
new-here-requires-clause-first c =
    subst (λ n. n ≤ 1000000000000000) (sym c.strided_sum-first.ensures)
    (row_few c.args.table.now.cells.now c.args.table.now.layout.now c.args.block.now.begin c.requires.block c.args.x c.requires.first)

pub new-here-requires-clause-second : goal.new-here-requires-clause-second
new-here-requires-clause-second c =
    let lt : c.loop-y.y < c.args.table.now.layout.now.seconds = omega arith in
    subst (λ n. n ≤ 1000000000000000) (sym (c.requires.columns.each c.loop-y.y lt))
    (column_few c.args.table.now.cells.now c.args.table.now.layout.now c.args.block.now.begin c.requires.block c.loop-y.y lt)

pub loop-y-preserved : goal.loop-y-preserved
loop-y-preserved c =
    let cells = c.args.table.now.cells.now in
    let l = c.args.table.now.layout.now in
    let x = c.args.x in
    let y = c.loop-y.y in
    let w = c.args.block.now.number in
    let here = c.new-here.result in
    let lt : y < l.seconds = omega arith in
    let of : IsOf cells l here w x y = record {
      first = c.requires.first;
      second = lt;
      given = c.requires.number;
      left = c.new-here.ensures.left ∙ ap (λ n. value_at cells l c.args.block.now.begin x y * n) c.requires.given
          ∙ ap (λ b. value_at cells l b x y * block_at cells l b) c.requires.base;
      right = c.new-here.ensures.right ∙ ap₂ (λ m n. m * n) c.strided_sum-first.ensures (c.requires.columns.each y lt)
          ∙ ap (λ b. row_at cells l b x * column_at cells l b y) c.requires.base;
      number = c.new-here.ensures.number ∙ c.number-number.ensures;
    } in
    let apart = c.new-here.ensures.distance ∙ sym (ap₂ abs_diff c.new-here.ensures.left c.new-here.ensures.right) in
    elim c.if-is_ahead.branch [
      | then-is_ahead v ↦ subst (λ (k : Candidate). IsBest cells l w x (y + 1) k) (sym v.best-is)
          (best_next cells l w x y c.loop-y.best here c.loop-y.invariant of apart (OnTrue_at v.if-is_ahead.true c.is_ahead.ensures.yes))
      | else-is_ahead v ↦ subst (λ (k : Candidate). IsBest cells l w x (y + 1) k) (sym v.best-is)
          (best_stay cells l w x y c.loop-y.best here c.loop-y.invariant of apart (OnFalse_at v.if-is_ahead.false c.is_ahead.ensures.no))
    ]
