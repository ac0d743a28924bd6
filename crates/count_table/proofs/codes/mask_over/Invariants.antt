use Rattle.std.proofs.Common.{◌≡◌, ◌≤◌, length, drop}
use Rattle.mixed_graph.specs.Vocabulary.{has}
use Rattle.count_table.specs.Cells.{sizes_of}
use Rattle.count_table.specs.Codes.{mask_under}
use Rattle.count_table.proofs.codes.mask_over.Given as goal

abbrev pub invariant-loop-i : goal.invariant-loop-i
invariant-loop-i l = record {
  within : l.i ≤ length l.vertices;
  so_far : l.mask ≡ mask_under (drop l.i l.vertices) (sizes_of (drop l.i l.levels)) (has l.of.bits);
}

abbrev pub decreases-loop-i : goal.decreases-loop-i
decreases-loop-i l = l.i
