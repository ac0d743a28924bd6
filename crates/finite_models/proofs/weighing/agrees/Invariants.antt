use Rattle.std.proofs.Common.{◌≡◌, true, get_or}
use Rattle.mixed_graph.specs.Vocabulary.{has}
use Rattle.finite_models.specs.Models.{agree}
use Rattle.finite_models.proofs.weighing.agrees.Given as goal

abbrev pub invariant-loop-v : goal.invariant-loop-v
invariant-loop-v l = agree l.v (has l.event.bits) (λ v. get_or l.values v 0) (λ v. get_or l.at v 0) ≡ true
