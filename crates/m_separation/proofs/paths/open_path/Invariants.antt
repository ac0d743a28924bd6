use Rattle.std.proofs.Common.{◌≡◌, ◌-◌}
use Rattle.mixed_graph.specs.Vocabulary.{has, graph_of}
use Rattle.m_separation.specs.States.{mask_of, level}
use Rattle.m_separation.proofs.Nearest.{Near}
use Rattle.m_separation.proofs.paths.open_path.Given as goal

abbrev pub invariant-near : goal.invariant-near
invariant-near l = Near (graph_of l.g) (has l.x.bits) (has l.w.bits) (has l.ends.bits) l.levels l.count × (mask_of l.front ≡ level l.levels l.count)

abbrev pub decreases-near : goal.decreases-near
decreases-near l = 64 - l.count
