use Rattle.std.proofs.Common.{arith}
use Rattle.certificate.proofs.Tables.{pairs_more}
use Rattle.certificate.proofs.hedges.linked.Goals as goal

pub returns-clause-links : goal.returns-clause-links
returns-clause-links c = pairs_more c.args.links.found c.args.links.partner c.args.links.count c.args.v c.args.partner (omega (arith, c.requires.sizes.0))
    (omega (arith, c.requires.sizes.1))
