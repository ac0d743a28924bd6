use Rattle.std.proofs.Common.{◌+◌, length, get_or, set, ap, sym, arith}
use Rattle.std.proofs.lemmas.List.{get_or_read}
use Rattle.count_rows.specs.Vocabulary.{cell_count}
use Rattle.count_table.specs.Cells.{sizes_of}
use Rattle.count_table.proofs.Filling.{filling-cell, filling-fits, filling-more, filling-end}
use Rattle.count_table.proofs.cells.counts_of.Goals as goal

pub place_of_cell-place-requires-clause-cell : goal.place_of_cell-place-requires-clause-cell
place_of_cell-place-requires-clause-cell c =
    filling-cell (sizes_of c.args.levels.now) (cell_count c.args.levels.now) (length c.args.levels.now)
    c.loop-count.made.items c.loop-count.rest.now c.args.counts.now c.args.numbers.now c.loop-count.count-index c.loop-count-test.true
    c.loop-count.invariant

pub overflow_add-index_mut : goal.overflow_add-index_mut
overflow_add-index_mut c =
    let size = c.loop-count.invariant.size in
    let within = c.place_of_cell-place.ensures.within in
    let old = get_or_read c.loop-count.made.items c.place_of_cell-place.result c.index_mut.result.now (omega (arith, size, within))
    c.index_mut.ensures.value 0 in
    let fits = filling-fits (sizes_of c.args.levels.now) (cell_count c.args.levels.now) (length c.args.levels.now)
    c.loop-count.made.items c.loop-count.rest.now c.args.counts.now c.args.numbers.now c.loop-count.count-index c.place_of_cell-place.result
    c.loop-count-test.true within c.loop-count.invariant (sym c.place_of_cell-place.ensures.place) in
    omega (arith, old, fits, c.requires.room)

pub loop-count-preserved : goal.loop-count-preserved
loop-count-preserved c =
    let size = c.loop-count.invariant.size in
    let within = c.place_of_cell-place.ensures.within in
    let old = get_or_read c.loop-count.made.items c.place_of_cell-place.result c.index_mut.result.now (omega (arith, size, within))
    c.index_mut.ensures.value 0 in
    filling-more _ _ _ _ _ _ _ _ _ _ c.loop-count-test.true within c.loop-count.invariant (sym c.place_of_cell-place.ensures.place)
    (ap (λ m. set c.loop-count.made.items c.place_of_cell-place.result (m + get_or c.args.counts.now c.loop-count.count-index 0)) old)

pub returns-clause-counts : goal.returns-clause-counts
returns-clause-counts c =
    filling-end (sizes_of c.args.levels.now) (cell_count c.args.levels.now) (length c.args.levels.now)
    c.loop-count.made.items c.loop-count.rest.now c.args.counts.now c.args.numbers.now c.loop-count.count-index (omega (arith, c.loop-count-test.false))
    c.loop-count.invariant
