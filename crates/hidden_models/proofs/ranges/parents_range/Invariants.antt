use Rattle.std.proofs.Common.{◌≡◌, min, get_or}
use Rattle.mixed_graph.specs.Vocabulary.{graph_of}
use Rattle.finite_models.specs.Vocabulary.{radix_range}
use Rattle.hidden_models.proofs.ranges.parents_range.Given as goal

abbrev pub invariant-loop-k : goal.invariant-loop-k
invariant-loop-k l = l.range ≡ min (radix_range l.k (λ k. (graph_of l.p).arrow k l.v) (λ k. get_or l.m.sizes.items k 0)) 1048577
