use Rattle.std.proofs.Common.{◌∙◌}
use Rattle.quantity.specs.Laws.Gcd.{gcd_swap}
use Rattle.quantity.proofs.exact.ExactQuantity.div.Goals as goal

pub times-requires-clause-lowest : goal.times-requires-clause-lowest
times-requires-clause-lowest c = let s = c.args.self.now in let o = c.args.other.now in (s.lowest, gcd_swap o.q o.p ∙ o.lowest)
