use Rattle.std.proofs.Common.{not}
use Rattle.mixed_graph.specs.Vocabulary.{has}
use Rattle.latent_projection.proofs.Numbering.{IsRenumbered}
use Rattle.latent_projection.proofs.numbers.renumber.Given as goal

abbrev pub invariant-loop-v : goal.invariant-loop-v
invariant-loop-v l = IsRenumbered (λ v. not (has l.latent.bits v)) (has l.s.bits) l.v l.place l.found.bits
