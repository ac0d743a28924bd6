use Rattle.std.proofs.Common.{arith}
use Rattle.hedge.proofs.entries.unplaced.Goals as goal

pub returns-clause-right : goal.returns-clause-right
returns-clause-right c = λ v i. let l = c.requires v i in c.loop-v.invariant v (omega arith) i
