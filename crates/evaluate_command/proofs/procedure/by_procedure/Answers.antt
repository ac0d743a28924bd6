use Rattle.std.proofs.Common.{subst}
use Rattle.mixed_graph.specs.Vocabulary.{has, Within}
use Rattle.targets.proofs.Effects.{effect_within_x, effect_within_y, effect_apart, effect_outcome}
use Rattle.diagram.specs.Vocabulary.{lent}
use Rattle.evaluate_command.specs.Ways.{by_procedure}
use Rattle.evaluate_command.proofs.procedure.by_procedure.Goals as goal

pub find_formula-requires-clause-x : goal.find_formula-requires-clause-x
find_formula-requires-clause-x c = subst (λ n. Within n (has c.in-Ok.sets.x.bits)) c.args.diagram.now.observed.sized
    (effect_within_x _ c.in-Ok.sets.x.bits c.in-Ok.sets.y.bits c.in-Ok.ensures.sets)

pub find_formula-requires-clause-y : goal.find_formula-requires-clause-y
find_formula-requires-clause-y c = subst (λ n. Within n (has c.in-Ok.sets.y.bits)) c.args.diagram.now.observed.sized
    (effect_within_y _ c.in-Ok.sets.x.bits c.in-Ok.sets.y.bits c.in-Ok.ensures.sets)

pub find_formula-requires-clause-apart : goal.find_formula-requires-clause-apart
find_formula-requires-clause-apart c = effect_apart _ c.in-Ok.sets.x.bits c.in-Ok.sets.y.bits c.in-Ok.ensures.sets

pub find_formula-requires-clause-some : goal.find_formula-requires-clause-some
find_formula-requires-clause-some c = effect_outcome _ c.in-Ok.sets.x.bits c.in-Ok.sets.y.bits c.in-Ok.ensures.sets

pub returns-in-Ok : goal.returns-in-Ok
returns-in-Ok c =
    let x = lent c.args.x in let y = lent c.args.y in
    c.or_memory.ensures (by_procedure c.args.short) c.args.diagram.now x y (c.find_formula.ensures x y c.in-Ok.ensures.sets)
