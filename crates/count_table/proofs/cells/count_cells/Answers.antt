use Rattle.std.proofs.Common.{◌*◌, ap, subst, [], arith}
use Rattle.std.proofs.lemmas.List.{get_or_read}
use Rattle.std.proofs.lemmas.List.Elements.{All-more}
use Rattle.count_rows.specs.Vocabulary.{AreLevels, cell_count}
use Rattle.count_table.proofs.TableSteps.{count_more, count_fits, item_length}
use Rattle.count_table.proofs.cells.count_cells.Goals as goal

pub overflow_mul-cells : goal.overflow_mul-cells
overflow_mul-cells c =
    let n = item_length c.args.levels.now c.loop-level.level-index c.count.result c.level-item.result c.loop-level-test.true c.level-item.is
    c.count.ensures.count in
    let fits = count_fits c.loop-level.cells c.loop-level.level-index (cell_count c.args.levels.now)
    c.args.levels.now c.loop-level-test.true c.requires.each c.loop-level.invariant.count in
    let same = ap (λ k. c.loop-level.cells * k) n in
    omega (arith, fits, same, c.requires.few)

pub loop-level-preserved : goal.loop-level-preserved
loop-level-preserved c =
    let n = item_length c.args.levels.now c.loop-level.level-index c.count.result c.level-item.result c.loop-level-test.true c.level-item.is
    c.count.ensures.count in
    record {
      count = rw n (count_more c.loop-level.cells c.loop-level.level-index (cell_count c.args.levels.now)
          c.args.levels.now c.loop-level-test.true c.loop-level.invariant.count);
      differ = All-more AreLevels c.args.levels.now c.loop-level.level-index [] c.loop-level-test.true c.loop-level.invariant.differ
          (subst AreLevels (get_or_read c.args.levels.now c.loop-level.level-index c.level-item.result c.loop-level-test.true c.level-item.is [])
          c.count.ensures.levels);
    }
