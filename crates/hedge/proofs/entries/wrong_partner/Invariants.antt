use Rattle.std.proofs.Common.{ℕ, ◌<◌, IsTrue}
use Rattle.mixed_graph.specs.Vocabulary.{has, graph_of}
use Rattle.hedge.specs.Faults.{HasRightPartner}
use Rattle.hedge.proofs.entries.wrong_partner.Given as goal

abbrev pub invariant-loop-v : goal.invariant-loop-v
invariant-loop-v l = (u : ℕ) → u < l.v → IsTrue (has l.h.big.bits u) → HasRightPartner (graph_of l.g) l.h u
