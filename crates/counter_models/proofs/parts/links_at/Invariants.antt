use Rattle.std.proofs.Common.{◌≡◌, suc, ◌&&◌, slice_index}
use Rattle.mixed_graph.specs.Vocabulary.{has, members_below}
use Rattle.counter_models.specs.Pairs.{is_linked}
use Rattle.counter_models.proofs.parts.links_at.Given as goal

abbrev pub invariant-loop-j : goal.invariant-loop-j
invariant-loop-j l = l.causes.items ≡ members_below (λ j. is_linked l.h j l.v && has l.s.bits (slice_index l.h.links.found (suc j))) l.j
