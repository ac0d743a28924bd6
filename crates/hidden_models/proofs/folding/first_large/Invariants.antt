use Rattle.std.proofs.Common.{◌≤◌, get_or}
use Rattle.mixed_graph.specs.Vocabulary.{graph_of}
use Rattle.finite_models.specs.Vocabulary.{AllRight}
use Rattle.hidden_models.specs.Tables.{entries}
use Rattle.hidden_models.proofs.folding.first_large.Given as goal

abbrev pub invariant-loop-k : goal.invariant-loop-k
invariant-loop-k l = AllRight l.k (λ k. entries (graph_of l.parts.projection) l.m l.parts.reached.items (get_or l.kept k 0) ≤ 1048576)
