use Rattle.std.proofs.Common.{◌≡◌, true, [], sym, subst}
use Rattle.mixed_graph.specs.Vocabulary.{graph_of}
use Rattle.prob_expr.specs.Vocabulary.{PlainTarget, formula_view, is_term}
use Rattle.do_derivation.specs.Vocabulary.{AcceptsNot, UnlessNoMemory, derivation_view}
use Rattle.derived_parts.specs.Parts.{derived_view}
use Rattle.derived_parts.specs.Accepted.{IsPartFault, UnlessMemory}
use Rattle.derived_parts.proofs.Turns.{of_derivation, target_is_term}
use Rattle.derived_parts.proofs.checking.check_part.Goals as goal

pub check-requires-clause-target : goal.check-requires-clause-target
check-requires-clause-target c = subst (λ (t : PlainTarget). is_term c.args.g.now.n t.y t.x t.given ≡ true) (sym c.target_of-target.ensures)
    (target_is_term c.args.g.now.n c.args.due.bits c.requires.due)

pub returns-in-Err-clause-fault : goal.returns-in-Err-clause-fault
returns-in-Err-clause-fault c =
    let g = graph_of c.args.g.now in
    let part = c.args.part.now in
    subst (λ why. UnlessMemory why (IsPartFault g c.args.number c.args.due.bits (derived_view part) why)) (sym c.fault_at.ensures)
    (of_derivation g c.args.number c.args.due.bits (derived_view part) c.in-Err.fault c.if-part-due.false
    (subst (λ (t : PlainTarget). UnlessNoMemory c.in-Err.fault
    (AcceptsNot g [] t (formula_view part.formula) (derivation_view part.derivation) c.in-Err.fault)) c.target_of-target.ensures c.in-Err.ensures.fault))
