use Rattle.std.proofs.Common.{get_or, arith}
use Rattle.mixed_graph.proofs.Masks.{below_64}
use Rattle.hedge.proofs.entries.is_right_partner.Goals as goal

pub spouses-requires : goal.spouses-requires
spouses-requires c = below_64 c.args.h.now.big.bits (get_or c.args.h.now.links.found c.args.i 0) (omega arith) c.requires.inside
