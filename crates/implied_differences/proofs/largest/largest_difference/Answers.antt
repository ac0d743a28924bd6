use Rattle.std.proofs.Common.{ℕ, ◌≢◌, ◌<◌, ◌≤◌, ◌/◌, List, All, get_or, sym, ap, ap₂, subst, ◌∙◌, arith}
use Rattle.mixed_graph.specs.Vocabulary.{has}
use Rattle.count_rows.specs.Vocabulary.{Table}
use Rattle.count_table.specs.Vocabulary.{AreCounts, axes_of, HasCell, place_at, cells_over}
use Rattle.count_eval.specs.Vocabulary.{cell_of}
use Rattle.count_table.specs.Axes.{Axes}
use Rattle.count_table.proofs.Choosing.{axes-are}
use Rattle.count_table.proofs.Lists.{product-pos}
use Rattle.implications.specs.declared.pairs.Implication.{Implication}
use Rattle.implied_differences.specs.declared.layout.Layout.{Layout}
use Rattle.implied_differences.specs.Differences.{axes_in}
use Rattle.implied_differences.specs.Layouts.{IsLayoutOf}
use Rattle.implied_differences.proofs.Agreeing.{levels_few}
use Rattle.implied_differences.proofs.Ending.{number_below, products_small, best_ends}
use Rattle.implied_differences.proofs.Walking.{a_below, b_below, a_outside, b_outside, first_below, digits_from, digits_cell, digits_place, digits_outside}
use Rattle.implied_differences.proofs.Zero.{zero_where_matched}
use Rattle.implied_differences.proofs.largest.largest_difference.Goals as goal

below_few : (x y : ℕ) → x < y → y ≤ 1048576 → x < 4294967296
below_few x y p q = omega arith

at_most_few : (x : ℕ) → x ≤ 1048576 → x < 4294967296
at_most_few x p = omega arith

some_cells : (t : Table) → AreCounts t → (i : Implication) (l : Layout) → IsLayoutOf t i l → 0 < l.count
some_cells t are i l h = subst (λ n. 0 < n) (sym h.count) (product-pos (axes_of t (has i.given.bits)).sizes (axes-are t (has i.given.bits) are).each)

pub cell_at-cell-requires-clause-a : goal.cell_at-cell-requires-clause-a
cell_at-cell-requires-clause-a c = a_below c.args.c.now c.used-used.ensures.table c.args.i.now c.requires

pub cell_at-cell-requires-clause-b : goal.cell_at-cell-requires-clause-b
cell_at-cell-requires-clause-b c = b_below c.args.c.now c.used-used.ensures.table c.args.i.now c.requires

pub cell_at-cell-requires-clause-a_apart : goal.cell_at-cell-requires-clause-a_apart
cell_at-cell-requires-clause-a_apart c =
    subst (λ (x : Axes). All (λ u. u ≢ c.args.i.now.a) x.vertices) (sym c.in_ok-given.ensures)
    (a_outside c.args.c.now c.used-used.ensures.table c.args.i.now c.requires)

pub cell_at-cell-requires-clause-b_apart : goal.cell_at-cell-requires-clause-b_apart
cell_at-cell-requires-clause-b_apart c =
    subst (λ (x : Axes). All (λ u. u ≢ c.args.i.now.b) x.vertices) (sym c.in_ok-given.ensures)
    (b_outside c.args.c.now c.used-used.ensures.table c.args.i.now c.requires)

pub cell_at-cell-requires-clause-few : goal.cell_at-cell-requires-clause-few
cell_at-cell-requires-clause-few c =
    subst (λ n. n < 4294967296) (sym c.in_ok-layout.ensures.seconds) (at_most_few _ (levels_few c.args.c.now c.used-used.ensures.table c.args.i.now.b))

pub cell_at-cell-requires-clause-cells : goal.cell_at-cell-requires-clause-cells
cell_at-cell-requires-clause-cells c =
    subst (λ (x : Axes). 0 < cells_over x) (sym c.in_ok-given.ensures)
    (product-pos (axes_of c.args.c.now (has c.args.i.now.given.bits)).sizes
    (axes-are c.args.c.now (has c.args.i.now.given.bits) c.used-used.ensures.table).each)

pub cell_at-cell-requires-clause-levels : goal.cell_at-cell-requires-clause-levels
cell_at-cell-requires-clause-levels c =
    let t = c.args.c.now in
    let are = c.used-used.ensures.table in
    let i = c.args.i.now in
    let l = c.in_ok-layout.layout in
    let best = c.in_ok-best.best in
    let lt = number_below t are i c.requires l c.in_ok-layout.ensures best c.in_ok-best.ensures (some_cells t are i l c.in_ok-layout.ensures) in
    subst (λ n. n < 4294967296) (sym (ap₂ (λ (x : Axes) k. best.number / cells_over x / k) c.in_ok-given.ensures c.in_ok-layout.ensures.seconds))
    (below_few _ _ (first_below t are i c.requires best.number lt) (levels_few t are i.a))

pub difference_of-requires-clause-left : goal.difference_of-requires-clause-left
difference_of-requires-clause-left c =
    (products_small c.args.c.now c.used-used.ensures.table c.args.i.now c.requires c.in_ok-layout.layout c.in_ok-layout.ensures c.in_ok-best.best
    c.in_ok-best.ensures).0

pub difference_of-requires-clause-right : goal.difference_of-requires-clause-right
difference_of-requires-clause-right c =
    (products_small c.args.c.now c.used-used.ensures.table c.args.i.now c.requires c.in_ok-layout.layout c.in_ok-layout.ensures c.in_ok-best.best
    c.in_ok-best.ensures).1

pub returns-clause-largest : goal.returns-clause-largest
returns-clause-largest c =
    let t = c.args.c.now in
    let are = c.used-used.ensures.table in
    let i = c.args.i.now in
    let r = c.requires in
    let l = c.in_ok-layout.layout in
    let best = c.in_ok-best.best in
    let lt = number_below t are i r l c.in_ok-layout.ensures best c.in_ok-best.ensures (some_cells t are i l c.in_ok-layout.ensures) in
    let cell = c.cell_at-cell.result in
    let e = c.cell_at-cell.ensures in
    let d = digits_from t are i r best.number lt c.in_ok-given.given l.seconds cell c.in_ok-given.ensures c.in_ok-layout.ensures.seconds e.long e.first
    e.second e.cell e.place e.outside in
    let same = c.difference_of.ensures.cell in
    best_ends t are i r l c.in_ok-layout.ensures best c.in_ok-best.ensures c.difference_of.result
    (subst (λ (x : List ℕ). HasCell (axes_in t i) x) (sym same) (digits_cell t are i r best.number lt cell d))
    (λ v none. ap (λ (x : List ℕ). get_or x v 0) same ∙ digits_outside t are i r best.number lt cell d v none)
    (ap (λ (x : List ℕ). place_at (axes_in t i) (cell_of x)) same ∙ digits_place t are i r best.number lt cell d)
    c.difference_of.ensures.value

pub returns-clause-matched : goal.returns-clause-matched
returns-clause-matched c =
    zero_where_matched c.args.c.now c.used-used.ensures.table c.args.i.now c.requires c.difference_of.result (returns-clause-largest c)
