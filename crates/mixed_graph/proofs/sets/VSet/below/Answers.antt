use Rattle.std.proofs.Common.{arith}
use Rattle.mixed_graph.proofs.Masks.{has-ones, has-ones_shl}
use Rattle.mixed_graph.proofs.sets.VSet.below.Goals as goal

pub returns-then-n-eq64-clause-members : goal.returns-then-n-eq64-clause-members
returns-then-n-eq64-clause-members c = λ v. rw c.if-n-eq64.true (has-ones 64 v)

pub returns-else-n-eq64-clause-members : goal.returns-else-n-eq64-clause-members
returns-else-n-eq64-clause-members c = λ v. has-ones_shl c.args.n v (omega arith)
