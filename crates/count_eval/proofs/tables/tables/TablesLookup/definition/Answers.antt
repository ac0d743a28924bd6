use Rattle.std.proofs.Common.{◌≡◌, sym, subst, length, get_or, Ok, []}
use Rattle.std.specs.Prelude.{IfSome}
use Rattle.mixed_graph.specs.Vocabulary.{has}
use Rattle.prob_expr.specs.Vocabulary.{free_in_defs, formula_view}
use Rattle.count_table.specs.Vocabulary.{HasLevels, HasCell}
use Rattle.count_eval.specs.Programs.{weights_in, is_used, cell_of, known}
use Rattle.count_table.specs.Axes.{Axes}
use Rattle.count_eval.specs.Rules.{rule}
use Rattle.count_eval.specs.Preparations.{Preparation}
use Rattle.count_eval.proofs.TableLaws.{has_cell, held_by}
use Rattle.count_eval.proofs.tables.tables.TablesLookup.definition.Goals as goal

pub value-requires : goal.value-requires
value-requires g c =
    let i = c.self.inside in let t = i.counts.now in let cell = c.args.cell.now in
    let right = c.self.invariant.right c.args.k c.in-Some.table.now c.in-Some.ensures.lookup.3.0 c.in-Some.ensures.lookup.1 in
    let levels = subst (λ (p : Preparation). HasLevels p.counts (is_used p.counts) cell) (sym c.self.view_is) c.requires in
    subst (λ (a : Axes). HasCell a cell) (sym right.over) (has_cell t (has (get_or (free_in_defs [] (formula_view i.formula.now).defs) c.args.k 0))
    cell c.self.invariant.counts levels)

pub returns-in-Some : goal.returns-in-Some
returns-in-Some g c =
    let i = c.self.inside in let t = i.counts.now in let x = c.in-Some.table.now in
    let right = c.self.invariant.right c.args.k x c.in-Some.ensures.lookup.3.0 c.in-Some.ensures.lookup.1 in
    let has = value-requires g c.before in
    subst (λ (p : Preparation). IfSome c.value.result (λ q. known (rule g.Q.Quantity.kind p.zero) (weights_in p.vertices p.counts) p.formula.defs
    (length p.formula.defs) c.args.k (cell_of c.args.cell.now) ≡ Ok (g.Q.Quantity.numbers q)))
    c.self.view_is
    (held_by g.Q.Quantity.numbers (rule g.Q.Quantity.kind i.zero) i.vertices t (formula_view i.formula.now).defs c.args.k x.places x.values.items
    (cell_of c.args.cell.now) c.value.result right has.cell c.value.ensures)
