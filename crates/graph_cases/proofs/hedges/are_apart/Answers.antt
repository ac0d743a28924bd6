use Rattle.mixed_graph.proofs.Masks.{apart_from_meet}
use Rattle.graph_cases.proofs.hedges.are_apart.Goals as goal

pub returns : goal.returns
returns c empty = apart_from_meet c.intersection.result.bits c.args.s.bits c.args.t.bits c.intersection.ensures.members (c.is_empty.ensures.none.0 empty)
