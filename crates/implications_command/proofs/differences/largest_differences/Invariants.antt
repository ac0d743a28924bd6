use Rattle.std.proofs.Common.{take}
use Rattle.mixed_graph.specs.Vocabulary.{graph_of}
use Rattle.implications_command.specs.Differences.{AreMeasured}
use Rattle.implications_command.proofs.differences.largest_differences.Given as goal

abbrev pub invariant-loop-i : goal.invariant-loop-i
invariant-loop-i l = AreMeasured (graph_of l.seen.graph) l.counts (take l.i-index l.list) l.all.items
