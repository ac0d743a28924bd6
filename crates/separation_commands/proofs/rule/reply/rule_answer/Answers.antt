use Rattle.targets.proofs.RuleWalks.{some_outcome}
use Rattle.separation_commands.proofs.RuleSets.{four_sets}
use Rattle.separation_commands.proofs.rule.reply.rule_answer.Goals as goal

pub decide-requires-clause-sets : goal.decide-requires-clause-sets
decide-requires-clause-sets c =
    four_sets _ c.args.diagram.now.observed.graph.n c.in_ok-sets.sets.y.bits c.in_ok-sets.sets.x.bits c.in_ok-sets.sets.z.bits c.in_ok-sets.sets.given.bits
    c.args.diagram.now.observed.sized c.in_ok-sets.ensures.sets

pub decide-requires-clause-some : goal.decide-requires-clause-some
decide-requires-clause-some c =
    some_outcome _ c.in_ok-sets.sets.y.bits c.in_ok-sets.sets.x.bits c.in_ok-sets.sets.z.bits c.in_ok-sets.sets.given.bits c.in_ok-sets.ensures.sets
