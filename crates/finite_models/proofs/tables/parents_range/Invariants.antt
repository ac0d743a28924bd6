use Rattle.std.proofs.Common.{◌≡◌, min, get_or}
use Rattle.mixed_graph.specs.Vocabulary.{graph_of}
use Rattle.finite_models.specs.Tables.{radix_range}
use Rattle.finite_models.proofs.tables.parents_range.Given as goal

abbrev pub invariant-loop-p : goal.invariant-loop-p
invariant-loop-p l = l.range ≡ min (radix_range l.p (λ p. (graph_of l.g).arrow p l.v) (λ p. get_or l.m.sizes.items p 0)) l.cap
