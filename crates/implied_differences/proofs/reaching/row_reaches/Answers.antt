use Rattle.std.proofs.Common.{rules, ℕ, ◌+◌, ◌*◌, ◌≡◌, ◌<◌, List, length, get_or, sym, ap, ap₂, subst, inl, inr, arith}
use Rattle.std.specs.Int.{abs_diff}
use Rattle.std.proofs.lemmas.Bool.{cases_eq}
use Rattle.implied_differences.specs.declared.layout.Layout.{Layout}
use Rattle.implied_differences.specs.Blocks.{value_at, column_at, number_at, IsPassedAt}
use Rattle.implied_differences.proofs.BlockSums.{column_few, column_line, column_inside, column_offset}
use Rattle.implied_differences.proofs.Pairs.{gap_in, value_most, row_most, column_most, out_alike, seconds_passed, seen_below}
use Rattle.implied_differences.proofs.reaching.row_reaches.Goals as goal
use Rattle.implied_differences.proofs.reaching.row_reaches.Goals.{After-fill, After-add_line}

-- a cell's place from where its block begins
placed : (cells : List ℕ) (l : Layout) (begin x y : ℕ) → get_or cells (begin + (x * l.first_step + y * l.second_step)) 0 ≡ value_at cells l begin x y
placed cells l begin x y = ap (λ n. get_or cells n 0) (let e : begin + (x * l.first_step + y * l.second_step) ≡ begin + x * l.first_step + y * l.second_step =
    omega arith in e)

-- the level that is looked at is one
level : (c : After-fill) → c.loop-y.y < c.args.table.now.layout.now.seconds
level c = seen_below c.args.table.now.layout.now.seconds c.levels_to_see-y-end.result c.loop-y.y c.levels_to_see-y-end.ensures.two
    c.levels_to_see-y-end.ensures.other (omega arith)

-- the cell of each block at the two levels is inside the table
inside : (c : After-fill) (j : ℕ) → j < c.args.strip.now.width
    → get_or c.args.strip.now.begins.now j 0 + c.args.x * c.args.table.now.layout.now.first_step
    + c.loop-y.y * c.args.table.now.layout.now.second_step < length c.args.table.now.cells.now
inside c j lt = (c.requires.strip.blocks.each j lt).inside c.args.x c.loop-y.y c.requires.first (level c)

-- the sum of each block's column
column : (c : After-add_line) (j : ℕ) → j < c.args.strip.now.width
    → get_or c.add_line.new.sums j 0 ≡ column_at c.args.table.now.cells.now c.args.table.now.layout.now (get_or c.args.strip.now.begins.now j 0) c.loop-y.y
column c j lt =
    let zero : get_or c.fill.new.self j 0 ≡ 0 = search rules in
    let line = column_line c.args.table.now.cells.now c.args.table.now.layout.now (get_or c.args.strip.now.begins.now j 0)
    c.loop-y.y c.column_cells.result c.column_cells.ensures in
    let added = c.add_line.ensures j lt in
    omega (arith, added, zero, line)

pub column_cells-requires : goal.column_cells-requires
column_cells-requires c =
    let less = column_offset c.args.table.now.cells.now c.args.table.now.layout.now c.args.strip.now.begins.now c.args.strip.now.width c.requires.strip.blocks
    c.loop-y.y (level (goal.at.column_cells-requires c).After-fill) (omega arith) in
    omega (arith, less)

pub add_line-requires-clause-inside : goal.add_line-requires-clause-inside
add_line-requires-clause-inside c =
    column_inside c.args.table.now.cells.now c.args.table.now.layout.now c.args.strip.now.begins.now c.args.strip.now.width c.requires.strip.blocks c.loop-y.y
    (level (goal.at.add_line-requires-clause-inside c).After-fill) c.column_cells.result c.column_cells.ensures

pub add_line-requires-clause-room : goal.add_line-requires-clause-room
add_line-requires-clause-room c j lt =
    let zero : get_or c.fill.new.self j 0 ≡ 0 = search rules in
    let begin = get_or c.args.strip.now.begins.now j 0 in
    let line = column_line c.args.table.now.cells.now c.args.table.now.layout.now begin c.loop-y.y c.column_cells.result c.column_cells.ensures in
    let few = column_few c.args.table.now.cells.now c.args.table.now.layout.now begin (c.requires.strip.blocks.each j lt) c.loop-y.y
    (level (goal.at.add_line-requires-clause-room c).After-fill) in
    omega (arith, zero, line, few)

pub number-requires-clause-second : goal.number-requires-clause-second
number-requires-clause-second c = level (goal.at.number-requires-clause-second c).After-fill

pub overflow_mul-offset : goal.overflow_mul-offset
overflow_mul-offset c = let less = inside (goal.at.overflow_mul-offset c).After-fill 0 c.requires.strip.blocks.some in omega (arith, less)

pub overflow_mul-offset-in-loop-y : goal.overflow_mul-offset-in-loop-y
overflow_mul-offset-in-loop-y c = let less = inside (goal.at.overflow_mul-offset-in-loop-y c).After-fill 0 c.requires.strip.blocks.some in omega (arith, less)

pub overflow_add-offset : goal.overflow_add-offset
overflow_add-offset c = let less = inside (goal.at.overflow_add-offset c).After-fill 0 c.requires.strip.blocks.some in omega (arith, less)

pub any_reaches-requires-clause-inside : goal.any_reaches-requires-clause-inside
any_reaches-requires-clause-inside c j lt = let less = inside (goal.at.any_reaches-requires-clause-inside c).After-fill j lt in omega (arith, less)

pub any_reaches-requires-clause-small_cells : goal.any_reaches-requires-clause-small_cells
any_reaches-requires-clause-small_cells c j lt =
    let begin = get_or c.args.strip.now.begins.now j 0 in
    let e = placed c.args.table.now.cells.now c.args.table.now.layout.now begin c.args.x c.loop-y.y in
    let most = value_most c.args.table.now.cells.now c.args.table.now.layout.now begin c.args.x c.loop-y.y c.requires.first
    (level (goal.at.any_reaches-requires-clause-small_cells c).After-fill) in
    let sum = c.requires.strip.each j lt in
    let small = c.requires.small j lt in
    omega (arith, e, most, sum, small)

pub any_reaches-requires-clause-small_rows : goal.any_reaches-requires-clause-small_rows
any_reaches-requires-clause-small_rows c j lt =
    let most = row_most c.args.table.now.cells.now c.args.table.now.layout.now (get_or c.args.strip.now.begins.now j 0) c.args.x c.requires.first in
    let row = c.requires.rows j lt in
    let sum = c.requires.strip.each j lt in
    let small = c.requires.small j lt in
    omega (arith, most, row, sum, small)

pub any_reaches-requires-clause-small_columns : goal.any_reaches-requires-clause-small_columns
any_reaches-requires-clause-small_columns c j lt =
    let most = column_most c.args.table.now.cells.now c.args.table.now.layout.now (get_or c.args.strip.now.begins.now j 0) c.loop-y.y
    (level (goal.at.any_reaches-requires-clause-small_columns c).After-fill) in
    let total = column (goal.at.any_reaches-requires-clause-small_columns c).After-add_line j lt in
    let sum = c.requires.strip.each j lt in
    let small = c.requires.small j lt in
    omega (arith, most, total, sum, small)

pub loop-y-preserved : goal.loop-y-preserved
loop-y-preserved c =
    let cells = c.args.table.now.cells.now in
    let l = c.args.table.now.layout.now in
    let begins = c.args.strip.now.begins.now in
    let w = c.args.strip.now.first.number in
    let x = c.args.x in
    let y = c.loop-y.y in
    record {
      long = search rules;
      each = λ k lt. elim (cases_eq k y) [
        | inl e ↦ subst (λ n. IsPassedAt cells l begins c.args.strip.now.width w x n c.args.before.now) (sym e) (record {
          each = λ j less.
              let begin = get_or begins j 0 in
              let gap = abs_diff (get_or cells (begin + (x * l.first_step + y * l.second_step)) 0 * get_or c.args.strip.now.sums.now j 0)
              (get_or c.args.rows.now j 0 * get_or c.add_line.new.sums j 0) in
              let number = c.number.ensures in
              out_alike cells l begins c.args.strip.now.width w c.args.before.now gap (gap_in cells l begin x y) c.number.result (number_at l (w + j) x y)
              (sym (ap₂ abs_diff (ap₂ (λ m n. m * n) (placed cells l begin x y) (c.requires.strip.each j less))
              (ap₂ (λ m n. m * n) (c.requires.rows j less) (column (goal.at.loop-y-preserved c).After-add_line j less))))
              (omega (arith, number))
              (c.limit-limit.ensures gap (c.if-any_reaches.ensures.no j less));
        })
        | inr ne ↦ c.loop-y.invariant.each k (omega (arith, ne))
      ];
    }

pub returns : goal.returns
returns c = record {
  no = seconds_passed c.args.table.now.cells.now c.args.table.now.layout.now c.args.strip.now.begins.now c.args.strip.now.width c.args.strip.now.first.number
      c.args.before.now c.args.x c.levels_to_see-y-end.result
      c.levels_to_see-y-end.ensures.two c.levels_to_see-y-end.ensures.other (λ k lt. c.loop-y.invariant.each k (omega arith));
}
