use Rattle.std.proofs.Common.{ℕ, ◌≡◌, ◌∙◌, List, [], ◌∷◌, length, length-append, get_or, ap, sym, subst, refl, arith, Option}
use Rattle.mixed_graph.specs.Vocabulary.{has}
use Rattle.prob_expr.specs.Vocabulary.{free_in_defs}
use Rattle.count_eval.specs.Programs.{cell_of}
use Rattle.count_table.specs.Axes.{Axes}
use Rattle.count_table.specs.Vocabulary.{axes_of, place_at, cell_at, IsCell}
use Rattle.count_eval.specs.Rules.{rule}
use Rattle.count_eval.specs.Preparations.{Preparation}
use Rattle.count_eval.specs.Tables.{AreKeptTables}
use Rattle.count_eval.proofs.TableLaws.{IsRight, right_none, right_more, has_levels}
use Rattle.count_eval.proofs.tables.tables.Tables.table_of.Goals as goal

pub loop-place-init : goal.loop-place-init
loop-place-init g c =
    let p = c.args.self.now in
    record {
      long = ap (λ (l : List (Option g.row.Q.Denot)). length l) c.in_ok-values.ensures.items;
      right = right_none g.Q.Quantity.numbers (rule g.Q.Quantity.kind p.zero) p.vertices p.counts p.formula.defs c.args.k
          (axes_of p.counts (has (get_or (free_in_defs [] p.formula.defs) c.args.k 0))) c.in_ok-values.values.items c.in_ok-values.ensures.items;
    }

pub value_of-value-requires-clause-levels : goal.value_of-value-requires-clause-levels
value_of-value-requires-clause-levels g c =
    let p = c.args.self.now in let places = c.in_ok-places.places in
    let kept = subst (λ (p : Preparation). AreKeptTables g.Q.Quantity.numbers (rule g.Q.Quantity.kind p.zero)
    p.vertices p.counts p.formula c.self.inside.sums.now.table c.self.inside.definitions.now) c.self.view_is c.self.invariant in
    let over = c.in_ok-places.ensures ∙ ap (λ (p : Preparation). axes_of p.counts (has c.args.free.bits)) c.self.view_is in
    has_levels p.counts (has c.args.free.bits) places c.cell.result p.vertices over kept.counts kept.evaluable.below (omega (arith, kept.evaluable.few))
    c.cell.ensures.cell c.cell.ensures.outside

pub loop-place-preserved : goal.loop-place-preserved
loop-place-preserved g c =
    let p = c.args.self.now in let places = c.in_ok-places.places in let items = c.loop-place.values.items in let o = c.value_of-value.result in
    let mask = get_or (free_in_defs [] p.formula.defs) c.args.k 0 in
    let kept = subst (λ (p : Preparation). AreKeptTables g.Q.Quantity.numbers (rule g.Q.Quantity.kind p.zero)
    p.vertices p.counts p.formula c.self.inside.sums.now.table c.self.inside.definitions.now) c.self.view_is c.self.invariant in
    let over = c.in_ok-places.ensures ∙ ap (λ (p : Preparation). axes_of p.counts (has c.args.free.bits)) c.self.view_is
    ∙ ap (λ (m : ℕ). axes_of p.counts (has m)) c.requires.free in
    let cell = subst (λ (a : Axes). IsCell a.sizes (cell_at a (cell_of c.cell.result))) over c.cell.ensures.cell.cell in
    let at = subst (λ (a : Axes). place_at a (cell_of c.cell.result) ≡ c.loop-place.place) over c.cell.ensures.place ∙ sym c.loop-place.invariant.long in
    let more = c.in_ok-push.ensures.items in
    record {
      long = ap (λ (l : List (Option g.row.Q.Denot)). length l) more ∙ (let one = length-append items (o ∷ []) in let long = c.loop-place.invariant.long in
          omega (arith, one, long));
      right = subst (λ (l : List (Option g.row.Q.Denot)). IsRight g.Q.Quantity.numbers (rule g.Q.Quantity.kind p.zero)
          p.vertices p.counts p.formula.defs c.args.k (axes_of p.counts (has mask)) l) (sym more)
          (right_more g.Q.Quantity.numbers (rule g.Q.Quantity.kind p.zero) p.vertices p.counts p.formula.defs c.args.k (axes_of p.counts (has mask)) items o
          (cell_of c.cell.result) kept.counts kept.evaluable.below kept.evaluable.defs refl cell at c.value_of-value.ensures c.loop-place.invariant.right);
    }

pub returns-clause-table : goal.returns-clause-table
returns-clause-table g c =
    let p = c.args.self.now in let mask = get_or (free_in_defs [] p.formula.defs) c.args.k 0 in
    let over = c.in_ok-places.ensures ∙ ap (λ (p : Preparation). axes_of p.counts (has c.args.free.bits)) c.self.view_is
    ∙ ap (λ (m : ℕ). axes_of p.counts (has m)) c.requires.free in
    record {
      over = over;
      right = subst (λ (a : Axes). IsRight g.Q.Quantity.numbers (rule g.Q.Quantity.kind p.zero)
          p.vertices p.counts p.formula.defs c.args.k a c.loop-place.values.items) (sym over) c.loop-place.invariant.right;
    }
