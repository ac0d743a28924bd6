use Rattle.counter_models.proofs.Lists.{Linking}
use Rattle.counter_models.proofs.causes.link_causes.Given as goal

abbrev pub invariant-loop-j : goal.invariant-loop-j
invariant-loop-j l = Linking l.h l.causes.items l.j
