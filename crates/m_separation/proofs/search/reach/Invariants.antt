use Rattle.std.proofs.Common.{◌+◌, ◌-◌, ◌*◌, ◌^◌, ◌<◌, Bool}
use Rattle.mixed_graph.specs.Vocabulary.{has, graph_of}
use Rattle.m_separation.specs.States.{mask_of}
use Rattle.m_separation.proofs.Searches.{Searching}
use Rattle.m_separation.proofs.search.reach.Given as goal

abbrev pub invariant-grow : goal.invariant-grow
invariant-grow l = Searching (graph_of l.g) (has l.fn.x.bits) (has l.w.bits) (mask_of l.found) (mask_of l.front)
    × ((h : Bool) → mask_of l.found h < 2 ^ 64) × ((h : Bool) → mask_of l.front h < 2 ^ 64)

abbrev pub decreases-grow : goal.decreases-grow
decreases-grow l = ((2 ^ 64 - l.found.heads.bits) + (2 ^ 64 - l.found.tails.bits)) * 2 ^ 65 + (l.front.heads.bits + l.front.tails.bits)
