use Rattle.std.proofs.Common.{◌≡◌, drop, map}
use Rattle.count_eval.specs.Vocabulary.{cell_of}
use Rattle.answer_json.specs.Vocabulary.{with_values}
use Rattle.count_json.specs.Cells.{level_json}
use Rattle.count_json.proofs.cells.push_levels.Given as goal

abbrev pub invariant-loop-v : goal.invariant-loop-v
invariant-loop-v l = with_values (map (λ v. level_json l.names l.counts v (cell_of l.cell v)) (drop l.v-index l.vertices)) l.object
    ≡ with_values (map (λ v. level_json l.names l.counts v (cell_of l.cell v)) l.vertices) l.fn.object
