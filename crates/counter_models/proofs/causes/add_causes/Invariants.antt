use Rattle.counter_models.proofs.Lists.{Adding}
use Rattle.counter_models.proofs.causes.add_causes.Given as goal

abbrev pub invariant-loop-v : goal.invariant-loop-v
invariant-loop-v l = Adding l.fn.causes.items l.causes.items l.set.bits l.v
