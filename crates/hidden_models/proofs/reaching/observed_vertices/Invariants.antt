use Rattle.std.proofs.Common.{◌≡◌, not}
use Rattle.mixed_graph.specs.Vocabulary.{has, members_below}
use Rattle.hidden_models.proofs.reaching.observed_vertices.Given as goal

abbrev pub invariant-loop-v : goal.invariant-loop-v
invariant-loop-v l = l.kept.items ≡ members_below (λ v. not (has l.latent.bits v)) l.v
