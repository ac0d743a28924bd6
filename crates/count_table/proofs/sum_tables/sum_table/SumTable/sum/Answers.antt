use Rattle.std.proofs.Common.{ap, sym, subst, ◌∙◌, get_or, arith}
use Rattle.std.proofs.lemmas.List.{get_or_read}
use Rattle.mixed_graph.specs.Vocabulary.{has}
use Rattle.count_rows.specs.Vocabulary.{counted}
use Rattle.count_table.specs.Tables.{HasLevels}
use Rattle.count_table.specs.Axes.{Axes, HasCell, place_at, cells_over}
use Rattle.count_table.specs.Sums.{Margin}
use Rattle.count_table.proofs.CellLevels.{has_cell}
use Rattle.count_table.proofs.sum_tables.sum_table.SumTable.sum.Goals as goal

pub place-requires : goal.place-requires
place-requires c =
    let ready = subst (λ (m : Margin). HasLevels m.table (has m.set) c.args.at.now) (sym c.self.view_is) c.requires in
    subst (λ (a : Axes). HasCell a c.args.at.now) (sym c.self.invariant.places)
    (has_cell c.self.inside.counts.now (has c.self.inside.of.bits) c.args.at.now ready)

pub returns : goal.returns
returns c =
    let ready = subst (λ (m : Margin). HasLevels m.table (has m.set) c.args.at.now) (sym c.self.view_is) c.requires in
    let cell = has_cell c.self.inside.counts.now (has c.self.inside.of.bits) c.args.at.now ready in
    let kept = c.self.invariant.sums in
    let long = kept.long in
    let many = ap cells_over c.self.invariant.places in
    get_or_read c.self.inside.sums.items c.place.result c.index.result.now (let w = c.place.ensures.within in omega (arith, w, long, many)) c.index.ensures 0
    ∙ ap (λ i. get_or c.self.inside.sums.items i 0) (c.place.ensures.place
    ∙ ap (λ (a : Axes). place_at a (λ v. get_or c.args.at.now v 0)) c.self.invariant.places)
    ∙ kept.each (λ v. get_or c.args.at.now v 0) cell.cell
    ∙ ap (λ (m : Margin). counted m.table.vertices m.table.rows (has m.set) (λ v. get_or c.args.at.now v 0)) c.self.view_is
