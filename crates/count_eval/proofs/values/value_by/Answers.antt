use Rattle.std.proofs.Common.{List, sym, subst, map, length, Ok, Err, arith}
use Rattle.std.proofs.lemmas.List.{length-map}
use Rattle.prob_expr.specs.View.{view}
use Rattle.prob_expr.specs.declared.expr.Expr.{Expr}
use Rattle.prob_expr.specs.Vocabulary.{formula_view}
use Rattle.count_eval.specs.Laws.{AllUsed}
use Rattle.count_eval.specs.Rules.{rule}
use Rattle.count_eval.specs.Programs.{weights_in, is_used, cell_of, stop_of, AreValues, IsBelow, AreOrdered}
use Rattle.count_eval.proofs.Accepted.{accepted_below, accepted_ordered}
use Rattle.count_eval.proofs.WholeValues.{main_value, fault_over, covers_counts, covers_with_zeros, covers_matches, denies_matches, needs_no_memory}
use Rattle.count_eval.proofs.values.value_by.Goals as goal

pub value_at-requires-clause-scope : goal.value_at-requires-clause-scope
value_at-requires-clause-scope g c =
    let ok = c.requires.formula in let e = sym c.deref.ensures.value in let t = g.L.Lookup.counts c.args.lookup.now in
    record {
      few = ok.few;
      table = c.requires.table;
      ordered = subst (λ (ds : List Expr). AreOrdered 0 (map view ds)) e (accepted_ordered c.args.n (formula_view c.args.f.now) ok.accepted);
      used = subst (λ (ds : List Expr). AllUsed (is_used t) (map view ds)) e ok.defs;
      held = subst (λ (ds : List Expr). AreValues (rule g.Q.Quantity.kind c.args.zero) (weights_in c.args.n t) (map view ds)
          (g.L.Lookup.holds c.args.lookup.now)) e c.requires.held;
    }

pub value_at-requires-clause-limit : goal.value_at-requires-clause-limit
value_at-requires-clause-limit g c = let long = length-map c.deref.result.now view in omega (arith, long)

pub value_at-requires-clause-below : goal.value_at-requires-clause-below
value_at-requires-clause-below g c =
    let f = c.args.f.now in
    subst (λ (ds : List Expr). IsBelow (length (map view ds)) (view f.main)) (sym c.deref.ensures.value)
    (accepted_below c.args.n (formula_view f) c.requires.formula.accepted)

pub returns-in-Ok-clause-counts : goal.returns-in-Ok-clause-counts
returns-in-Ok-clause-counts g c = λ first.
    let k = g.Q.Quantity.kind in let t = g.L.Lookup.counts c.args.lookup.now in let f = c.args.f.now in let s = cell_of c.args.at.now in let p =
    g.Q.Quantity.numbers c.in-Ok.q in
    covers_counts k g.Q.Quantity.covers g.met.Q.Quantity.lawful c.args.zero first c.args.n t (formula_view f) s p
    (main_value (rule k c.args.zero) (weights_in c.args.n t) f c.deref.result.now c.array_of.result s (Ok p)
    c.deref.ensures.value c.array_of.ensures c.in-Ok.ensures)

pub returns-in-Ok-clause-zeros : goal.returns-in-Ok-clause-zeros
returns-in-Ok-clause-zeros g c =
    let k = g.Q.Quantity.kind in let t = g.L.Lookup.counts c.args.lookup.now in let f = c.args.f.now in let s = cell_of c.args.at.now in let p =
    g.Q.Quantity.numbers c.in-Ok.q in
    covers_with_zeros k g.Q.Quantity.covers g.met.Q.Quantity.lawful c.args.zero c.args.n t (formula_view f) s p
    (main_value (rule k c.args.zero) (weights_in c.args.n t) f c.deref.result.now c.array_of.result s (Ok p)
    c.deref.ensures.value c.array_of.ensures c.in-Ok.ensures)

pub returns-in-Ok-clause-matches : goal.returns-in-Ok-clause-matches
returns-in-Ok-clause-matches g c =
    let k = g.Q.Quantity.kind in let t = g.L.Lookup.counts c.args.lookup.now in let f = c.args.f.now in let s = cell_of c.args.at.now in let p =
    g.Q.Quantity.numbers c.in-Ok.q in
    covers_matches k g.Q.Quantity.covers g.met.Q.Quantity.lawful c.args.zero c.args.n t (formula_view f) s p c.requires.formula
    (main_value (rule k c.args.zero) (weights_in c.args.n t) f c.deref.result.now c.array_of.result s (Ok p)
    c.deref.ensures.value c.array_of.ensures c.in-Ok.ensures)

pub returns-in-Err-clause-value : goal.returns-in-Err-clause-value
returns-in-Err-clause-value g c =
    let t = g.L.Lookup.counts c.args.lookup.now in let stop = stop_of c.in-Err.failure in (
      stop,
      main_value (rule g.Q.Quantity.kind c.args.zero) (weights_in c.args.n t) c.args.f.now c.deref.result.now c.array_of.result (cell_of c.args.at.now)
          (Err stop) c.deref.ensures.value c.array_of.ensures c.in-Err.ensures,
      fault_over t c.args.used.bits c.fault_of.result stop c.requires.table c.requires.used c.fault_of.ensures,
    )

pub returns-in-Err-clause-support : goal.returns-in-Err-clause-support
returns-in-Err-clause-support g c =
    let t = g.L.Lookup.counts c.args.lookup.now in let (stop, e, fault) = returns-in-Err-clause-value g c in
    denies_matches g.Q.Quantity.kind g.Q.Quantity.covers g.met.Q.Quantity.lawful c.args.zero c.args.n t (formula_view c.args.f.now) (cell_of c.args.at.now)
    c.fault_of.result stop c.requires.formula e fault

pub returns-in-Err-clause-memory : goal.returns-in-Err-clause-memory
returns-in-Err-clause-memory g c =
    let (stop, e, fault) = returns-in-Err-clause-value g c in
    needs_no_memory (is_used (g.L.Lookup.counts c.args.lookup.now)) c.fault_of.result stop fault
