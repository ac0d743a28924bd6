use Rattle.std.proofs.Common.{◌≡◌, ap, sym, ◌∙◌, false, true}
use Rattle.count_table.specs.Axes.{cells_over}
use Rattle.count_table.specs.Sums.{Margins, sets_with}
use Rattle.count_table.proofs.MarginSteps.{any_over, any-found, sets_same, sets_more, margins_more}
use Rattle.count_table.proofs.sum_tables.sum_tables.SumTables.add.Goals as goal

pub returns-then-is_some-clause-sets : goal.returns-then-is_some-clause-sets
returns-then-is_some-clause-sets c =
    let found : any_over c.self.inside.tables.items c.args.of.bits ≡ true =
    rw c.as_slice.ensures.value at (any-found _ c.args.of.bits c.table_of.result c.table_of.ensures)
    ∙ sym c.is_some.ensures ∙ c.if-is_some.true in
    ap (λ (m : Margins). m.sets) (sym c.self.view_is) ∙ sym (sets_same c.self.inside.counts.now c.self.inside.tables.items c.args.of.bits c.args.most found)
    ∙ ap (λ (m : Margins). sets_with m c.args.of.bits c.args.most) c.self.view_is

pub invariant_of-self-2 : goal.invariant_of-self-2
invariant_of-self-2 c =
    margins_more c.self.inside.counts.now c.self.inside.tables.items c.push.new.self.items c.in_ok-table.table c.args.of.bits c.self.inside.cells
    c.count-2.result
    c.self.invariant c.in_ok-push.ensures.items
    c.in_ok-table.ensures.table c.in_ok-table.ensures.set (c.count-2.ensures.count ∙ ap cells_over c.in_ok-places.ensures)

pub returns-clause-sets : goal.returns-clause-sets
returns-clause-sets c =
    let none : any_over c.self.inside.tables.items c.args.of.bits ≡ false =
    rw c.as_slice.ensures.value at (any-found _ c.args.of.bits c.table_of.result c.table_of.ensures)
    ∙ sym c.is_some.ensures ∙ c.if-is_some.false in
    let same : c.count.result ≡ c.count-2.result = c.count.ensures.count ∙ sym c.count-2.ensures.count in
    sets_more c.self.inside.counts.now c.self.inside.tables.items c.push.new.self.items c.in_ok-table.table c.args.of.bits c.args.most c.self.inside.cells
    c.count.result
    c.self.invariant c.in_ok-push.ensures.items
    c.in_ok-table.ensures.set (c.count.ensures.count ∙ ap cells_over c.in_ok-places.ensures) none (sym c.has_room.ensures ∙ c.if-not-has_room.false)
    ∙ ap (λ (m : Margins). sets_with m c.args.of.bits c.args.most) c.self.view_is
