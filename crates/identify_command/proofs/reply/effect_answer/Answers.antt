use Rattle.std.proofs.Common.{subst}
use Rattle.mixed_graph.specs.Vocabulary.{has, Within}
use Rattle.targets.proofs.Effects.{effect_within_x, effect_within_y, effect_apart, effect_outcome}
use Rattle.identify_command.proofs.reply.effect_answer.Goals as goal

pub decide-requires-clause-x : goal.decide-requires-clause-x
decide-requires-clause-x c = subst (λ n. Within n (has c.in_ok-sets.sets.x.bits)) c.args.diagram.now.observed.sized
    (effect_within_x _ c.in_ok-sets.sets.x.bits c.in_ok-sets.sets.y.bits c.in_ok-sets.ensures.sets)

pub decide-requires-clause-y : goal.decide-requires-clause-y
decide-requires-clause-y c = subst (λ n. Within n (has c.in_ok-sets.sets.y.bits)) c.args.diagram.now.observed.sized
    (effect_within_y _ c.in_ok-sets.sets.x.bits c.in_ok-sets.sets.y.bits c.in_ok-sets.ensures.sets)

pub decide-requires-clause-apart : goal.decide-requires-clause-apart
decide-requires-clause-apart c = effect_apart _ c.in_ok-sets.sets.x.bits c.in_ok-sets.sets.y.bits c.in_ok-sets.ensures.sets

pub decide-requires-clause-some : goal.decide-requires-clause-some
decide-requires-clause-some c = effect_outcome _ c.in_ok-sets.sets.x.bits c.in_ok-sets.sets.y.bits c.in_ok-sets.ensures.sets
