use Rattle.std.proofs.Common.{rules, ◌≡◌, ◌/◌, ◌%◌, length, ap, ◌∙◌, arith}
use Rattle.std.proofs.lemmas.Grind.{common_steps}
use Rattle.implied_differences.proofs.Writing.{written_cell, written_place}
use Rattle.implied_differences.proofs.cells.cell_at.Goals as goal

pub returns-clause-cell : goal.returns-clause-cell
returns-clause-cell c =
    let long : length c.cell-cell.result ≡ 64 = first_of (search rules, grind (arith, common_steps)) in
    written_cell c.args.given.now c.cell-cell.result c.args.a c.args.b (c.args.number / c.count-count.result / c.args.seconds)
    (c.args.number / c.count-count.result % c.args.seconds)
    long c.requires.a c.requires.b c.requires.differ c.requires.a_apart c.requires.b_apart c.cell-cell.ensures.cell

pub returns-clause-place : goal.returns-clause-place
returns-clause-place c =
    let long : length c.cell-cell.result ≡ 64 = first_of (search rules, grind (arith, common_steps)) in
    written_place c.args.given.now c.cell-cell.result c.args.a c.args.b (c.args.number / c.count-count.result / c.args.seconds)
    (c.args.number / c.count-count.result % c.args.seconds)
    long c.requires.a c.requires.b c.requires.differ c.requires.a_apart c.requires.b_apart
    ∙ c.cell-cell.ensures.place ∙ ap (λ n. c.args.number % n) c.count-count.ensures.count
