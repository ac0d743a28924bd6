use Rattle.std.proofs.Common.{◌≡◌, sym, subst}
use Rattle.mixed_graph.specs.Vocabulary.{graph_of, one}
use Rattle.prob_expr.specs.Vocabulary.{EqualsEffect, effect_on}
use Rattle.adjustment.specs.Vocabulary.{adjustment_formula}
use Rattle.adjust_command.proofs.Exposures.{is_one, is_not_one}
use Rattle.adjust_command.proofs.criteria.back_door_verdict.Goals as goal
use Rattle.adjust_command.proofs.criteria.back_door_verdict.Goals.{After-back_door}

exposure : (c : After-back_door) → c.args.sets.x.bits ≡ one c.lowest-v.result
exposure c = subst (λ m. m ≡ one c.lowest-v.result) (sym c.if-sets-one.false) (is_one c.one.result.bits c.lowest-v.result c.one.ensures.members)

pub returns-then-sets-one : goal.returns-then-sets-one
returns-then-sets-one c = is_not_one c.args.sets.x.bits c.one.result.bits c.lowest-v.result c.one.ensures.members c.lowest-v.ensures.member c.if-sets-one.true

pub returns-in-Ok : goal.returns-in-Ok
returns-in-Ok c =
    let y = c.args.sets.y.bits in let z = c.args.sets.given.bits in
    let is = exposure (goal.at.returns-in-Ok c).After-back_door in (
      c.lowest-v.result,
      is,
      c.in-Ok.ensures.meets,
      subst (λ m. EqualsEffect (graph_of c.args.graph.now) (effect_on m y) (adjustment_formula m y z)) (sym is)
          c.in-Ok.ensures.effect,
    )

pub returns-in-Err : goal.returns-in-Err
returns-in-Err c = (c.lowest-v.result, exposure (goal.at.returns-in-Err c).After-back_door, c.in-Err.ensures.fault)
