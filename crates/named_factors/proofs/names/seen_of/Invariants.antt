use Rattle.mixed_graph.specs.Vocabulary.{has}
use Rattle.treated_models.specs.Vocabulary.{primed_in}
use Rattle.named_factors.proofs.Seeing.{HasBelow}
use Rattle.named_factors.proofs.names.seen_of.Given as goal

abbrev pub invariant-loop-v : goal.invariant-loop-v
invariant-loop-v l = HasBelow (primed_in l.n l.x.bits (has l.names.bits)) l.seen.bits l.v
