use Rattle.std.proofs.Common.{drop}
use Rattle.mixed_graph.specs.Vocabulary.{texts}
use Rattle.targets.proofs.Walking.{IsWalking}
use Rattle.targets.proofs.walk.Given as goal

abbrev pub invariant-loop-name : goal.invariant-loop-name
invariant-loop-name l = IsWalking l.all l.observed l.walked.bits l.set.bits (texts l.list) (texts (drop l.name-index l.list))
