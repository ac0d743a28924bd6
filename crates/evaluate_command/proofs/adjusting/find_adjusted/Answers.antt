use Rattle.std.proofs.Common.{refl, sym, subst}
use Rattle.mixed_graph.specs.Vocabulary.{graph_of}
use Rattle.prob_expr.specs.Vocabulary.{PlainFormula, effect_on}
use Rattle.adjust_command.specs.Vocabulary.{IsVerdict}
use Rattle.evaluate_command.specs.Effects.{effect_for, IsIdentified, IsByAdjusting}
use Rattle.evaluate_command.proofs.RightFormulas.{found_by_adjusting}
use Rattle.evaluate_command.proofs.Unmet.{not_one_fault}
use Rattle.evaluate_command.proofs.adjusting.find_adjusted.Goals as goal

pub returns-in_ok-formula_for-in-Meets : goal.returns-in_ok-formula_for-in-Meets
returns-in_ok-formula_for-in-Meets c = λ on of set asked.
    let seen = c.args.diagram.now.observed in let q = graph_of seen.graph in let b = c.args.by_back_door in
    let x = c.args.sets.x.bits in let y = c.args.sets.y.bits in let z = c.args.sets.given.bits in
    let found = subst (λ (f : PlainFormula). let e = effect_for seen.names q (effect_on x y) f in IsIdentified e × IsByAdjusting b z e)
    (sym c.in_ok-formula_for-in-Meets.ensures)
    (found_by_adjusting seen x y b z c.requires.sets c.requires.some_y (subst (IsVerdict b q x y z) c.in-Meets.is c.judge.ensures)) in
    record { names = refl; graph = refl; identified = found.0; found = (z, asked, found.1) }

pub returns-in-Breaks : goal.returns-in-Breaks
returns-in-Breaks c = λ on of set asked.
    let x = c.args.sets.x.bits in let y = c.args.sets.y.bits in let z = c.args.sets.given.bits in
    (asked, subst (IsVerdict c.args.by_back_door (graph_of c.args.diagram.now.observed.graph) x y z) c.in-Breaks.is c.judge.ensures)

pub returns-in-NotOne : goal.returns-in-NotOne
returns-in-NotOne c = λ on of set asked.
    let x = c.args.sets.x.bits in let y = c.args.sets.y.bits in let z = c.args.sets.given.bits in
    let q = graph_of c.args.diagram.now.observed.graph in
    not_one_fault c.args.by_back_door q set _ c.args.sets asked (subst (IsVerdict c.args.by_back_door q x y z) c.in-NotOne.is c.judge.ensures)
