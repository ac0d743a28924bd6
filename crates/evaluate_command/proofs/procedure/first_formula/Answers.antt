use Rattle.std.proofs.Common.{false, refl, subst}
use Rattle.mixed_graph.specs.Vocabulary.{graph_of}
use Rattle.identify.specs.Vocabulary.{IsRightAlone}
use Rattle.effect_answers.proofs.Found.{found_alone}
use Rattle.effect_answers.proofs.ReadBack.{hedge_back}
use Rattle.effect_answers.proofs.Writing.{bare_target}
use Rattle.prob_expr.specs.Vocabulary.{formula_view}
use Rattle.evaluate_command.proofs.RightFormulas.{bare_sets, found_by_procedure}
use Rattle.evaluate_command.proofs.procedure.first_formula.Goals as goal

pub returns-in-Formula : goal.returns-in-Formula
returns-in-Formula c = λ x y asked.
    let seen = c.args.diagram.now.observed in let on = c.args.sets.x.bits in let of = c.args.sets.y.bits in
    let right = subst (IsRightAlone (graph_of seen.graph) on of) c.in-Formula.is c.in_ok-formula.ensures.right in
    let found = found_by_procedure seen on of (bare_sets seen.graph.n on of c.requires.x c.requires.y c.requires.apart) c.requires.some false
    (formula_view c.in-Formula.formula) right.derivation right.right right.derived in
    record { names = refl; graph = refl; identified = found.0; found = (asked, found.1) }

pub returns-in-Hedge : goal.returns-in-Hedge
returns-in-Hedge c = λ x y asked.
    let e = c.in_ok-formula.ensures in let on = c.args.sets.x.bits in let of = c.args.sets.y.bits in
    let q = graph_of c.args.diagram.now.observed.graph in
    let is = found_alone q on of c.in-Hedge.hedge c.in-Hedge.pair c.in-Hedge.is e.right e.hedge e.stop e.data e.pair in (
      asked,
      record {
        found = is;
        arrays = c.has_arrays.ensures;
        reads_back = hedge_back q on of c.in-Hedge.hedge (bare_target q.vertices on of c.requires.x c.requires.y c.requires.apart c.requires.some)
            c.has_arrays.ensures is.evidence;
      },
    )
