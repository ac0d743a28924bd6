use Rattle.std.proofs.Common.{◌≡◌, drop}
use Rattle.std.specs.Prelude.{find}
use Rattle.mixed_graph.specs.Vocabulary.{has}
use Rattle.dag_reader.proofs.edges.first_in.Given as goal

abbrev pub invariant-loop-v : goal.invariant-loop-v
invariant-loop-v l = find (λ v. has l.set.bits v) l.left ≡ find (λ v. has l.set.bits v) (drop l.v-index l.left)
