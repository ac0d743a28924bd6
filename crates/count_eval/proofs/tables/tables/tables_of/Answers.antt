use Rattle.std.proofs.Common.{ℕ, ◌-◌, ◌≤◌, ◌∙◌, List, [], ◌∷◌, length, length-append, map, ap, sym, subst, arith, Option}
use Rattle.std.specs.Prelude.{IfSome}
use Rattle.std.proofs.lemmas.List.{length-map}
use Rattle.std.proofs.lemmas.List.Sums.{sum_by-cons, sum_by-append}
use Rattle.count_table.specs.Vocabulary.{cells_over}
use Rattle.prob_expr.specs.View.{view}
use Rattle.prob_expr.specs.declared.expr.Expr.{Expr}
use Rattle.prob_expr.specs.Vocabulary.{formula_view}
use Rattle.count_eval.specs.Rules.{rule}
use Rattle.count_eval.specs.Tables.{IsTableOf, AreTables, cells_of}
use Rattle.count_eval.specs.declared.tables.table.DefinitionTable.{DefinitionTable}
use Rattle.count_eval.proofs.TableLaws.{free_count, tables_more}
use Rattle.count_eval.proofs.tables.tables.tables_of.Goals as goal

pub table_of-requires-clause-definition : goal.table_of-requires-clause-definition
table_of-requires-clause-definition g c =
    let many = free_count c.in_ok-free.free.items c.deref.result.now c.in_ok-free.ensures in
    let trees = length-map c.deref.result.now view in
    let whole = ap (λ (l : List Expr). length (map view l)) c.deref.ensures.value in
    omega (arith, many, trees, whole, c.min-k-end.ensures, c.len.ensures, c.loop-k-test.true, c.loop-k.auto.k-end)

pub index-requires : goal.index-requires
index-requires g c =
    let many = free_count c.in_ok-free.free.items c.deref.result.now c.in_ok-free.ensures in
    let whole = ap (λ (l : List Expr). length l) c.deref.ensures.value in
    omega (arith, many, whole, c.deref.ensures.len, c.min-k-end.ensures, c.len.ensures, c.loop-k-test.true)

pub loop-k-preserved : goal.loop-k-preserved
loop-k-preserved g c =
    let f = formula_view c.args.f.now in let t = c.args.c.now in let items = c.loop-k.tables.items in let x = c.in-Some.table in
    let before = c.loop-k.invariant in
    let more = c.in_ok-push.ensures.items in
    let is_new = subst (λ (o : Option (DefinitionTable g.row.Q.Denot)). IfSome o
    (λ y. IsTableOf g.Q.Quantity.numbers (rule g.Q.Quantity.kind c.args.zero) c.args.n t f.defs c.loop-k.k y.places y.values.items))
    c.in-Some.is c.in_ok-table.ensures.table in
    let at = subst (λ (k : ℕ). IsTableOf g.Q.Quantity.numbers (rule g.Q.Quantity.kind c.args.zero) c.args.n t f.defs k x.places x.values.items)
    (sym before.long) is_new in
    let small = subst (λ (o : Option (DefinitionTable g.row.Q.Denot)). IfSome o (λ y. cells_over y.places ≤ 4194304 - c.loop-k.cells - c.cells.result))
    c.in-Some.is c.in_ok-table.ensures.small in
    let all = ap (λ (l : List (DefinitionTable g.row.Q.Denot)). cells_of l) more in
    let sums = sum_by-append (λ (y : DefinitionTable g.row.Q.Denot). cells_over y.places) items (x ∷ []) in
    let one = sum_by-cons (λ (y : DefinitionTable g.row.Q.Denot). cells_over y.places) x [] in
    let room = c.in_ok-add_terms.ensures.most in
    record {
      long = ap (λ (l : List (DefinitionTable g.row.Q.Denot)). length l) more
          ∙ (let more_by_one = length-append items (x ∷ []) in let long = before.long in omega (arith, more_by_one, long));
      table = c.in_ok-add_terms.ensures.table ∙ before.table;
      kept = record {
        evaluable = before.kept.evaluable;
        counts = before.kept.counts;
        sums = before.kept.sums;
        right = subst (λ (l : List (DefinitionTable g.row.Q.Denot)). AreTables g.Q.Quantity.numbers (rule g.Q.Quantity.kind c.args.zero) c.args.n t f.defs l)
            (sym more)
            (tables_more g.Q.Quantity.numbers (rule g.Q.Quantity.kind c.args.zero) c.args.n t f.defs items x before.kept.right at);
      };
      cells = (let so_far = before.cells in let here = c.count-cells.ensures.count in omega (arith, so_far, here, all, sums, one));
      few = (let few = before.few in let there = c.cells.ensures in let here = c.count-cells.ensures.count in let kept = room (omega (arith, few)) in
          omega (arith, few, there, here, small, kept));
    }
