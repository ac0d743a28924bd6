use Rattle.mixed_graph.specs.Vocabulary.{graph_of}
use Rattle.treated_id.proofs.Joined.{Walking}
use Rattle.treated_id.proofs.paths.joined_path.Given as goal

abbrev pub invariant-steps : goal.invariant-steps
invariant-steps l = Walking (graph_of l.g) l.fn.within.bits l.from l.to l.left.bits l.at l.path.items

abbrev pub decreases-steps : goal.decreases-steps
decreases-steps l = l.left.bits
