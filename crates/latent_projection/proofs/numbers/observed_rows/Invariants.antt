use Rattle.std.proofs.Common.{not}
use Rattle.mixed_graph.specs.Vocabulary.{has}
use Rattle.latent_projection.proofs.Numbering.{AreNewRows}
use Rattle.latent_projection.proofs.numbers.observed_rows.Given as goal

abbrev pub invariant-loop-v : goal.invariant-loop-v
invariant-loop-v l = AreNewRows (λ v. not (has l.latent.bits v)) l.n l.rows l.v l.place l.out
