use Rattle.std.proofs.Common.{rules, suc, ◌+◌, get_or, ap₂, ◌∙◌, arith}
use Rattle.implied_differences.specs.Blocks.{column_at}
use Rattle.implied_differences.proofs.BlockSums.{part-most, sum-next, column_line, column_inside, column_offset}
use Rattle.implied_differences.proofs.strips.sum_blocks.Goals as goal

pub column_cells-requires : goal.column_cells-requires
column_cells-requires c =
    let less = column_offset c.args.table.now.cells.now c.args.table.now.layout.now c.args.begins.now c.args.width c.requires.begins c.loop-y.y (omega arith)
    c.requires.firsts in
    omega (arith, less)

pub add_line-requires-clause-inside : goal.add_line-requires-clause-inside
add_line-requires-clause-inside c =
    column_inside c.args.table.now.cells.now c.args.table.now.layout.now c.args.begins.now c.args.width c.requires.begins c.loop-y.y (omega arith)
    c.column_cells.result c.column_cells.ensures

pub add_line-requires-clause-room : goal.add_line-requires-clause-room
add_line-requires-clause-room c j lt =
    let cells = c.args.table.now.cells.now in
    let l = c.args.table.now.layout.now in
    let begin = get_or c.args.begins.now j 0 in
    let line = column_line cells l begin c.loop-y.y c.column_cells.result c.column_cells.ensures in
    let so_far = c.loop-y.invariant.each j lt in
    let most = part-most l.seconds (suc c.loop-y.y) (λ z. column_at cells l begin z) (omega arith) in
    let few = (c.requires.begins.each j lt).few in
    omega (arith, line, so_far, most, few)

pub loop-y-preserved : goal.loop-y-preserved
loop-y-preserved c = record {
  long = search rules;
  each = λ j lt.
      let cells = c.args.table.now.cells.now in
      let l = c.args.table.now.layout.now in
      let begin = get_or c.args.begins.now j 0 in
      c.add_line.ensures j lt ∙ ap₂ (λ m n. m + n) (c.loop-y.invariant.each j lt)
      (column_line cells l begin c.loop-y.y c.column_cells.result c.column_cells.ensures)
      ∙ sum-next c.loop-y.y (λ z. column_at cells l begin z);
}
