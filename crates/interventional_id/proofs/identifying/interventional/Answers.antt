use Rattle.std.proofs.Common.{subst, inr}
use Rattle.mixed_graph.specs.Vocabulary.{graph_of}
use Rattle.prob_expr.specs.Vocabulary.{HasNoFormula, formula_view}
use Rattle.interventional_id.specs.Interventional.{on_mediators}
use Rattle.interventional_id.specs.Answers.{IsFormulaOf, IsFormulaOrNone}
use Rattle.interventional_id.proofs.Found.{both}
use Rattle.interventional_id.proofs.identifying.interventional.Goals as goal

pub returns-in_default-2 : goal.returns-in_default-2
returns-in_default-2 c =
    let g = graph_of c.args.g.now in let y = c.args.y.bits in let z = c.args.z.bits in
    inr (subst (λ k. HasNoFormula g (record { x = k; y = y; given = z })) c.union.ensures.mask
    (subst (IsFormulaOrNone g (record { x = c.union.result.bits; y = y; given = z })) c.in_default-2.is c.in_ok-outcome.ensures))

pub returns : goal.returns
returns c =
    let g = graph_of c.args.g.now in let x = c.args.x.bits in let m = c.args.m.bits in let y = c.args.y.bits in let z = c.args.z.bits in
    both g x m y z (formula_view c.in-Some.mediators) (formula_view c.in-Some-2.outcome)
    (subst (IsFormulaOrNone g (on_mediators x m z)) c.in-Some.is c.in_ok-mediators.ensures)
    (subst (λ k. IsFormulaOf g (record { x = k; y = y; given = z }) (formula_view c.in-Some-2.outcome)) c.union.ensures.mask
    (subst (IsFormulaOrNone g (record { x = c.union.result.bits; y = y; given = z })) c.in-Some-2.is c.in_ok-outcome.ensures))
