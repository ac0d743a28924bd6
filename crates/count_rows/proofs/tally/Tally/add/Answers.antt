use Rattle.std.proofs.Common.{◌≡◌, ◌∙◌, ◌+◌, arith, sym, ap, rules, true, List, ℕ, Some}
use Rattle.std.specs.Prelude.{is_ok, not, nat_le}
use Rattle.std.specs.Vec.{with_items}
use Rattle.std.proofs.lemmas.List.{with_items_is}
use Rattle.csv.proofs.ReadFacts.{on-ok}
use Rattle.count_rows.specs.declared.fault.CountFault.TheVariants.{Count}
use Rattle.count_rows.specs.Records.{cell_count}
use Rattle.count_rows.specs.Faults.{most_cells}
use Rattle.count_rows.specs.Tally.{layout_from}
use Rattle.count_rows.proofs.TallySteps.{row_no_count, row_too_large, row_too_much, row_fits, levels_grown, cells_held, counts_held, sum_of-append}
use Rattle.count_rows.proofs.tally.Tally.add.Goals as goal

pub returns-in_default-clause-row : goal.returns-in_default-clause-row
returns-in_default-clause-row c rows h number n =
    row_no_count (layout_from c.args.columns.now) rows c.args.row.now (sym c.count_in_record.ensures ∙ c.in_default.is)
    ∙ ap (λ k. Some (Count k)) (sym number)

pub returns-then-is_too_large-clause-row : goal.returns-then-is_too_large-clause-row
returns-then-is_too_large-clause-row c rows h number n =
    let added = rw (c.as_slice-places.ensures.value, c.as_mut_slice.ensures.value) at (on-ok c.add_fields-added.result
    (sym c.is_err.ensures.value ∙ c.if-is_err.false) c.add_fields-added.ensures.levels) in
    let levels = levels_grown c.args.columns.now.places.items rows c.args.row.now
    c.args.self.now.levels.items c.add_fields-added.new.levels h.levels (search rules) added in
    let whole : (with_items c.args.self.now.levels c.add_fields-added.new.levels).items ≡ c.add_fields-added.new.levels =
    with_items_is c.args.self.now.levels c.add_fields-added.new.levels (search rules) in
    row_too_large (layout_from c.args.columns.now) rows c.args.row.now c.in-Some.count (sym c.in-Some.ensures)
    (ap (λ (l : List (List (List ℕ))). not (nat_le (cell_count l) most_cells)) (sym (c.as_slice.ensures.value ∙ whole ∙ levels)) ∙ sym c.is_too_large.ensures
    ∙ c.if-is_too_large.true)

pub returns-then-count-self-clause-row : goal.returns-then-count-self-clause-row
returns-then-count-self-clause-row c rows h number n =
    let added = rw (c.as_slice-places.ensures.value, c.as_mut_slice.ensures.value) at (on-ok c.add_fields-added.result
    (sym c.is_err.ensures.value ∙ c.if-is_err.false) c.add_fields-added.ensures.levels) in
    let levels = levels_grown c.args.columns.now.places.items rows c.args.row.now
    c.args.self.now.levels.items c.add_fields-added.new.levels h.levels (search rules) added in
    let whole : (with_items c.args.self.now.levels c.add_fields-added.new.levels).items ≡ c.add_fields-added.new.levels =
    with_items_is c.args.self.now.levels c.add_fields-added.new.levels (search rules) in
    let sum = sum_of-append (layout_from c.args.columns.now) rows c.args.row.now c.in-Some.count (sym c.in-Some.ensures) in
    row_too_much (layout_from c.args.columns.now) rows c.args.row.now c.in-Some.count (sym c.in-Some.ensures)
    (ap (λ (l : List (List (List ℕ))). not (nat_le (cell_count l) most_cells)) (sym (c.as_slice.ensures.value ∙ whole ∙ levels)) ∙ sym c.is_too_large.ensures
    ∙ c.if-is_too_large.false)
    (omega (arith, sum, h.sum, c.if-count-self.true))

pub returns-clause-row : goal.returns-clause-row
returns-clause-row c rows h number =
    let added = rw (c.as_slice-places.ensures.value, c.as_mut_slice.ensures.value) at (on-ok c.add_fields-added.result
    (sym c.is_err.ensures.value ∙ c.if-is_err.false) c.add_fields-added.ensures.levels) in
    let levels = levels_grown c.args.columns.now.places.items rows c.args.row.now
    c.args.self.now.levels.items c.add_fields-added.new.levels h.levels (search rules) added in
    let whole : (with_items c.args.self.now.levels c.add_fields-added.new.levels).items ≡ c.add_fields-added.new.levels =
    with_items_is c.args.self.now.levels c.add_fields-added.new.levels (search rules) in
    let cells = rw (c.as_slice-places.ensures.value, c.as_mut_slice.ensures.value) at (on-ok c.add_fields-added.result
    (sym c.is_err.ensures.value ∙ c.if-is_err.false) c.add_fields-added.ensures.cells) in
    let sum = sum_of-append (layout_from c.args.columns.now) rows c.args.row.now c.in-Some.count (sym c.in-Some.ensures) in
    let good : is_ok c.push.result ≡ true = search rules in
    let items = rw good at c.push.ensures.items in (
      record {
        levels = whole ∙ levels;
        cells = cells_held (layout_from c.args.columns.now) rows c.args.row.now
            c.args.self.now.levels.items c.args.self.now.cells.items c.add_fields-added.new.cells.items h.levels h.cells cells;
        counts = counts_held (layout_from c.args.columns.now) rows c.args.row.now
            c.in-Some.count c.args.self.now.counts.items c.push.new.self.items (sym c.in-Some.ensures) h.counts items;
        sum = ap (λ s. s + c.in-Some.count) h.sum ∙ sym sum;
      },
      row_fits (layout_from c.args.columns.now) rows c.args.row.now c.in-Some.count (sym c.in-Some.ensures)
          (ap (λ (l : List (List (List ℕ))). not (nat_le (cell_count l) most_cells)) (sym (c.as_slice.ensures.value ∙ whole ∙ levels))
          ∙ sym c.is_too_large.ensures ∙ c.if-is_too_large.false)
          (omega (arith, sum, h.sum, c.if-count-self.false, c.args.self.now.small)),
    )
