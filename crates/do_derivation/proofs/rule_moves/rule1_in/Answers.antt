use Rattle.std.proofs.Common.{rules}
use Rattle.do_derivation.proofs.Views.{new_sets}
use Rattle.do_derivation.proofs.rule_moves.rule1_in.Goals as goal

pub rule1-requires-clause-sets : goal.rule1-requires-clause-sets
rule1-requires-clause-sets c = new_sets c.args.g.now.n c.args.e c.in-Prob.of c.in-Prob.doing c.in-Prob.given c.args.z c.in-Prob.is c.requires.terms
    (search rules)
