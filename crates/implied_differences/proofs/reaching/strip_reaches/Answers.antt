use Rattle.std.proofs.Common.{rules, ℕ, ◌≡◌, ◌<◌, get_or, sym, subst, inl, inr, arith}
use Rattle.std.proofs.lemmas.Bool.{cases_eq}
use Rattle.implied_differences.specs.Blocks.{IsPassedAt}
use Rattle.implied_differences.proofs.BlockSums.{row_few, row_line, row_inside, row_offset}
use Rattle.implied_differences.proofs.Pairs.{firsts_passed, seen_below}
use Rattle.implied_differences.proofs.reaching.strip_reaches.Goals as goal
use Rattle.implied_differences.proofs.reaching.strip_reaches.Goals.{After-fill}

-- the level that is looked at is one
level : (c : After-fill) → c.loop-x.x < c.args.table.now.layout.now.firsts
level c = seen_below c.args.table.now.layout.now.firsts c.levels_to_see-x-end.result c.loop-x.x c.levels_to_see-x-end.ensures.two
    c.levels_to_see-x-end.ensures.other (omega arith)

pub row_cells-requires : goal.row_cells-requires
row_cells-requires c =
    let less = row_offset c.args.table.now.cells.now c.args.table.now.layout.now c.args.strip.now.begins.now c.args.strip.now.width c.requires.strip.blocks
    c.loop-x.x (level (goal.at.row_cells-requires c).After-fill) in
    omega (arith, less)

pub add_line-requires-clause-inside : goal.add_line-requires-clause-inside
add_line-requires-clause-inside c =
    row_inside c.args.table.now.cells.now c.args.table.now.layout.now c.args.strip.now.begins.now c.args.strip.now.width c.requires.strip.blocks c.loop-x.x
    (level (goal.at.add_line-requires-clause-inside c).After-fill) c.row_cells.result c.row_cells.ensures

pub add_line-requires-clause-room : goal.add_line-requires-clause-room
add_line-requires-clause-room c j lt =
    let zero : get_or c.fill.new.self j 0 ≡ 0 = search rules in
    let begin = get_or c.args.strip.now.begins.now j 0 in
    let line = row_line c.args.table.now.cells.now c.args.table.now.layout.now begin c.loop-x.x c.row_cells.result c.row_cells.ensures in
    let few = row_few c.args.table.now.cells.now c.args.table.now.layout.now begin (c.requires.strip.blocks.each j lt) c.loop-x.x
    (level (goal.at.add_line-requires-clause-room c).After-fill) in
    omega (arith, zero, line, few)

pub row_reaches-requires-clause-first : goal.row_reaches-requires-clause-first
row_reaches-requires-clause-first c = level (goal.at.row_reaches-requires-clause-first c).After-fill

pub row_reaches-requires-clause-rows : goal.row_reaches-requires-clause-rows
row_reaches-requires-clause-rows c j lt =
    let zero : get_or c.fill.new.self j 0 ≡ 0 = search rules in
    let line = row_line c.args.table.now.cells.now c.args.table.now.layout.now (get_or c.args.strip.now.begins.now j 0)
    c.loop-x.x c.row_cells.result c.row_cells.ensures in
    let added = c.add_line.ensures j lt in
    omega (arith, added, zero, line)

pub loop-x-preserved : goal.loop-x-preserved
loop-x-preserved c =
    let strip = c.args.strip.now in
    record {
      long_rows = search rules;
      long_columns = search rules;
      each = λ k lt. elim (cases_eq k c.loop-x.x) [
        | inl e ↦ subst (λ n. (y : ℕ) → y < c.args.table.now.layout.now.seconds
            → IsPassedAt c.args.table.now.cells.now c.args.table.now.layout.now strip.begins.now strip.width strip.first.number n y c.args.before.now) (sym e)
            c.if-row_reaches.ensures.no
        | inr ne ↦ c.loop-x.invariant.each k (omega (arith, ne))
      ];
    }

pub returns : goal.returns
returns c = record {
  no = firsts_passed c.args.table.now.cells.now c.args.table.now.layout.now c.args.strip.now.begins.now c.args.strip.now.width c.args.strip.now.first.number
      c.args.before.now c.levels_to_see-x-end.result
      c.levels_to_see-x-end.ensures.two c.levels_to_see-x-end.ensures.other (λ k lt. c.loop-x.invariant.each k (omega arith));
}
