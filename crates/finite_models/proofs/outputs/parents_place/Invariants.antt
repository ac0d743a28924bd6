use Rattle.std.proofs.Common.{◌≡◌, get_or}
use Rattle.mixed_graph.specs.Vocabulary.{graph_of}
use Rattle.finite_models.specs.Tables.{radix}
use Rattle.finite_models.proofs.outputs.parents_place.Given as goal

abbrev pub invariant-loop-p : goal.invariant-loop-p
invariant-loop-p l = l.place ≡ radix l.p (λ p. (graph_of l.g).arrow p l.v) (λ p. get_or l.m.sizes.items p 0) (λ p. get_or l.values p 0)
