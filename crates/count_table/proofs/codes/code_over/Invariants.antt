use Rattle.std.proofs.Common.{◌≡◌, ◌≤◌, length, drop, slice_index}
use Rattle.mixed_graph.specs.Vocabulary.{has}
use Rattle.count_table.specs.Cells.{sizes_of}
use Rattle.count_table.specs.Codes.{code_under}
use Rattle.count_table.proofs.codes.code_over.Given as goal

abbrev pub invariant-loop-i : goal.invariant-loop-i
invariant-loop-i l = record {
  within : l.i ≤ length l.vertices;
  so_far : l.code ≡ code_under (drop l.i l.vertices) (sizes_of (drop l.i l.levels)) (has l.of.bits) (λ v. slice_index l.at v);
}

abbrev pub decreases-loop-i : goal.decreases-loop-i
decreases-loop-i l = l.i
