use Rattle.std.proofs.Common.{false, map, length, List, sym, subst}
use Rattle.prob_expr.specs.View.{view}
use Rattle.prob_expr.specs.declared.expr.Expr.{Expr}
use Rattle.prob_expr.specs.Vocabulary.{formula_view}
use Rattle.count_eval.specs.Programs.{IsBelow}
use Rattle.count_eval.specs.Rules.{rule}
use Rattle.count_eval.specs.Spots.{IsScope}
use Rattle.count_eval.proofs.Accepted.{accepted_below, accepted_ordered}
use Rattle.split_values.proofs.values.joint_at.Goals as goal

pub value_at-requires-clause-scope : goal.value_at-requires-clause-scope
value_at-requires-clause-scope g c =
    let r = c.args.reading.now in let ok = c.requires.effect.formula in let l = r.lookup.now in
    subst (λ (ds : List Expr). IsScope (rule g.Q.Quantity.kind false) r.n (g.L.Lookup.counts l) (map view ds) (g.L.Lookup.holds l)) (sym c.deref.ensures.value)
    (record {
      few = ok.few;
      table = c.requires.table;
      ordered = accepted_ordered r.n (formula_view r.joint.now) ok.accepted;
      used = ok.defs;
      held = λ j s p h. absurd (c.requires.none j s p h);
    })

pub value_at-requires-clause-below : goal.value_at-requires-clause-below
value_at-requires-clause-below g c =
    let r = c.args.reading.now in
    subst (λ (ds : List Expr). IsBelow (length (map view ds)) (view r.joint.now.main)) (sym c.deref.ensures.value)
    (accepted_below r.n (formula_view r.joint.now) c.requires.effect.formula.accepted)
