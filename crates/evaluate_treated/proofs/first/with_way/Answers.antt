use Rattle.std.proofs.Common.{false, Ok, refl, subst}
use Rattle.mixed_graph.specs.Vocabulary.{graph_of}
use Rattle.prob_expr.specs.Vocabulary.{formula_view}
use Rattle.factor_values.specs.Vocabulary.{factors_view}
use Rattle.named_factors.proofs.Shaping.{treated_is_sum_of_terms}
use Rattle.treated_command.specs.Vocabulary.{IsTreatedAnswer}
use Rattle.treated_command.specs.declared.answer.Answer.{Answer}
use Rattle.evaluate_treated.proofs.Known.{by_formula, known_formula}
use Rattle.evaluate_treated.proofs.first.with_way.Goals as goal

pub named_factors-requires-clause-few : goal.named_factors-requires-clause-few
named_factors-requires-clause-few c =
    let q = c.requires.0 in
    (known_formula c.args.diagram.now q c.in-Formula.asked c.in-Formula.formula
    (subst (λ (a : Answer). IsTreatedAnswer false c.args.diagram.now q.x q.y q.given (Ok a)) c.in-Formula.is c.requires.1)).0.few

pub named_factors-requires-clause-terms : goal.named_factors-requires-clause-terms
named_factors-requires-clause-terms c =
    let q = c.requires.0 in let s = c.in-Formula.asked.sets in
    let k = known_formula c.args.diagram.now q c.in-Formula.asked c.in-Formula.formula
    (subst (λ (a : Answer). IsTreatedAnswer false c.args.diagram.now q.x q.y q.given (Ok a)) c.in-Formula.is c.requires.1) in
    (treated_is_sum_of_terms (graph_of c.args.diagram.now.observed.graph) s.x.bits s.y.bits s.given.bits (formula_view c.in-Formula.formula) k.1.formula).terms

pub returns-in-Ok : goal.returns-in-Ok
returns-in-Ok c = λ q is.
    let d = c.args.diagram.now in
    let h = subst (λ (a : Answer). IsTreatedAnswer false d q.x q.y q.given (Ok a)) c.in-Formula.is is in (
      record {
        names = refl;
        graph = refl;
        identified = by_formula d q c.in-Formula.asked c.in-Formula.formula h (factors_view c.in-Ok.factors) c.in-Ok.ensures;
        found = record { formula = c.in-Formula.formula; answered = h; factors = c.in-Ok.ensures };
      },
      tt,
    )

pub with_joint-requires : goal.with_joint-requires
with_joint-requires c =
    let q = c.requires.0 in
    (q, subst (λ (a : Answer). IsTreatedAnswer false c.args.diagram.now q.x q.y q.given (Ok a)) c.in-Unfixed.is c.requires.1)

pub returns-in-Excluded : goal.returns-in-Excluded
returns-in-Excluded c = λ q is.
    (subst (λ (a : Answer). IsTreatedAnswer false c.args.diagram.now q.x q.y q.given (Ok a)) c.in-Excluded.is is, tt)

-- no certificate is asked for
pub unreachable-requires : goal.unreachable-requires
unreachable-requires c =
    let q = c.requires.0 in
    (subst (λ (a : Answer). IsTreatedAnswer false c.args.diagram.now q.x q.y q.given (Ok a)) c.in-Certified.is c.requires.1).is.decided
