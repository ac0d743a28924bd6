use Rattle.std.proofs.Common.{IsTrue, ◌↔◌, subst, sym, eq-eqb, ◌∙◌}
use Rattle.mixed_graph.specs.Vocabulary.{graph_of}
use Rattle.conditional_id.specs.Settled.{IsSettled}
use Rattle.identification_theory.proofs.Bools.{clash}
use Rattle.conditional_id.proofs.Found.{hedge_by, settled_by}
use Rattle.conditional_id.proofs.identifying.is_settled.Goals as goal

pub returns-clause-settled : goal.returns-clause-settled
returns-clause-settled c =
    let g = graph_of c.args.g.now in
    subst (λ b. IsTrue b ↔ IsSettled g c.args.doing.bits c.args.left.bits) (sym c.is_formula.ensures)
    (settled_by g c.args.doing.bits c.args.left.bits (λ e. clash c.is_empty.result
    (c.is_empty.ensures.mask ∙ eq-eqb c.args.left.bits 0 e) c.if-is_empty.false) c.in_ok-answer.answer
    c.in_ok-answer.ensures.right)

pub returns-clause-unsettled : goal.returns-clause-unsettled
returns-clause-unsettled c e =
    hedge_by (graph_of c.args.g.now) c.args.doing.bits c.args.left.bits c.in_ok-answer.answer c.in_ok-answer.ensures.exact (sym c.is_formula.ensures ∙ e)
