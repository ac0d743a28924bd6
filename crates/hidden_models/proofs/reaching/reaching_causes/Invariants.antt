use Rattle.std.proofs.Common.{◌≡◌}
use Rattle.mixed_graph.specs.Vocabulary.{members_below}
use Rattle.hidden_models.specs.Reaching.{has_some}
use Rattle.hidden_models.proofs.reaching.reaching_causes.Given as goal

abbrev pub invariant-loop-j : goal.invariant-loop-j
invariant-loop-j l = l.kept.items ≡ members_below (has_some l.sets) l.j
