use Rattle.std.proofs.Math.Logic.{∥∥₁_map}
use Rattle.caller_memory.proofs.kept.kept.KeptDiagram.observed_part.Goals as goal

pub returns-clause-part : goal.returns-clause-part
returns-clause-part c = ∥∥₁_map c.in_ok-seen.ensures.graph (λ graph. record {
  names = c.in_ok-seen.ensures.names;
  graph = graph;
  exposures = c.renumber-exposures.ensures;
  outcomes = c.renumber-outcomes.ensures;
  adjusted = c.renumber-adjusted.ensures;
  no_latent = c.empty.ensures.members;
})
