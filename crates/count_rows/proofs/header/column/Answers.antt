use Rattle.std.proofs.Common.{◌∙◌, ◌+◌, arith, length-drop}
use Rattle.count_rows.proofs.HeaderSteps.{absent, once, twice}
use Rattle.count_rows.proofs.header.column.Goals as goal

pub returns-then-first-count-clause-fault : goal.returns-then-first-count-clause-fault
returns-then-first-count-clause-fault c n =
    absent c.args.header.now c.args.name.now (omega (arith, c.column_from-first.ensures.place, c.count.ensures, c.if-first-count.true))
    ∙ c.no_column.ensures n

pub returns-then-column_from-count-clause-fault : goal.returns-then-column_from-count-clause-fault
returns-then-column_from-count-clause-fault c n =
    let xs = c.args.header.now in
    twice xs c.args.name.now c.column_from-first.result (omega (arith, c.column_from-first.ensures.place))
    (omega (arith, c.column_from-first.ensures.within, c.count.ensures, c.if-first-count.false))
    (omega (arith, length-drop (c.column_from-first.result + 1) xs, c.column_from.ensures.place, c.count-2.ensures, c.if-column_from-count.true))
    ∙ c.two_columns.ensures n

pub returns-clause-fit : goal.returns-clause-fit
returns-clause-fit c =
    let xs = c.args.header.now in
    once xs c.args.name.now c.column_from-first.result (omega (arith, c.column_from-first.ensures.place))
    (omega (arith, c.column_from-first.ensures.within, c.count.ensures, c.if-first-count.false))
    (omega (
      arith,
      length-drop (c.column_from-first.result + 1) xs,
      c.column_from.ensures.place,
      c.column_from.ensures.within,
      c.count-2.ensures,
      c.if-column_from-count.false,
    ))
