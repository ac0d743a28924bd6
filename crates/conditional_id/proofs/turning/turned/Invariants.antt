use Rattle.mixed_graph.specs.Vocabulary.{graph_of}
use Rattle.conditional_id.proofs.Moving.{Moving}
use Rattle.conditional_id.proofs.turning.turned.Given as goal

abbrev pub invariant-moves : goal.invariant-moves
invariant-moves l = Moving (graph_of l.g) l.y.bits l.fn.x.bits l.fn.given.bits l.doing.bits l.left.bits l.steps.items

abbrev pub decreases-moves : goal.decreases-moves
decreases-moves l = l.left.bits
