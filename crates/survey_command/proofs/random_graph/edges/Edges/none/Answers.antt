use Rattle.std.proofs.Common.{sym, ◌∙◌}
use Rattle.mixed_graph.proofs.PairMasks.{no_mask}
use Rattle.survey_command.proofs.random_graph.edges.Edges.none.Goals as goal

pub invariant_of-result : goal.invariant_of-result
invariant_of-result c = record { agree = λ u v. no_mask v u ∙ sym (no_mask u v) }

pub returns : goal.returns
returns c = λ u v. no_mask u v
