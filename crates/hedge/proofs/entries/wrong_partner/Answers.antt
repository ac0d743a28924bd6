use Rattle.std.proofs.Common.{get_or, refl, arith}
use Rattle.hedge.proofs.entries.wrong_partner.Goals as goal

pub returns-clause-right : goal.returns-clause-right
returns-clause-right c = λ i p l. let b = c.requires.low (get_or c.args.h.now.links.found i 0) (c.requires.inside i l) in
    c.loop-v.invariant (get_or c.args.h.now.links.found i 0) (omega arith) (c.requires.inside i l) i p l refl
