use Rattle.std.proofs.Common.{◌≡◌, ◌∙◌, ◌<◌, ◌≤◌, ℕ, true, false, List, All, OnOk, IfErr, length, set, get_or, take, drop, ◌-◌, refl, sym, ap, subst, arith, rules}
use Rattle.std.proofs.lemmas.List.{set-set, set-get_or, length-drop, take_rest}
use Rattle.std.proofs.lemmas.List.Elements.{All-drop, All-take, All-get_or}
use Rattle.count_rows.specs.Vocabulary.{Table}
use Rattle.count_eval.specs.Vocabulary.{is_used}
use Rattle.count_eval.specs.Rules.{rule}
use Rattle.table_cells.specs.Vocabulary.{IsCell}
use Rattle.evaluate_command.specs.Listed.{plain_in}
use Rattle.evaluate_command.specs.Printing.{Appends, IsFaultAt}
use Rattle.evaluate_command.specs.Stopped.{is_stop_memory}
use Rattle.table_cells.proofs.CellLists.{cells_at_none}
use Rattle.evaluate_command.proofs.Printed.{appends_none, appends_turn, appends_all, fault_turn}
use Rattle.table_cells.proofs.Tables.{set_is_cell}
use Rattle.evaluate_command.proofs.cells.+push_cells.Goals as goal

pub push_cell-requires : goal.push_cell-requires
push_cell-requires g t c = subst (λ (u : Table). IsCell c.args.prepared.now.vertices u c.args.cell.now) (sym c.requires.counts) c.requires.cell

pub returns-in_default-clause-values : goal.returns-in_default-clause-values
returns-in_default-clause-values g t c =
    subst (λ (cs : List (List ℕ)). OnOk c.push_cell.result (
    Appends (rule g.Q.Quantity.kind c.args.prepared.now.zero) g.Q.Quantity.covers c.args.prepared.now
    cs (plain_in g.Q.Quantity.numbers c.args.out.now.items) (plain_in g.Q.Quantity.numbers c.push_cell.new.out.items)))
    (sym (cells_at_none c.args.counts.now c.args.cell.now c.args.vertices.now c.in_default.len_below)) c.push_cell.ensures.values

pub returns-in_default-clause-fault : goal.returns-in_default-clause-fault
returns-in_default-clause-fault g t c =
    subst (λ (cs : List (List ℕ)). IfErr c.push_cell.result (λ f. is_stop_memory f ≡ false
    → IsFaultAt (rule g.Q.Quantity.kind c.args.prepared.now.zero) c.args.prepared.now cs f))
    (sym (cells_at_none c.args.counts.now c.args.cell.now c.args.vertices.now c.in_default.len_below)) c.push_cell.ensures.fault

pub loop-k-init : goal.loop-k-init
loop-k-init g t c = record {
  same = λ j. refl;
  values = appends_none (rule g.Q.Quantity.kind c.args.prepared.now.zero) g.Q.Quantity.covers c.args.prepared.now
      (plain_in g.Q.Quantity.numbers c.args.out.now.items);
}

pub push_cells-requires : goal.push_cells-requires
push_cells-requires g t c =
    let vs = c.args.vertices.now in let v = get_or vs 0 0 in let cell = c.args.cell.now in let n = c.args.prepared.now.vertices in
    let some : 1 ≤ length vs = c.in-len1-up.len_at_least in
    let used : is_used c.args.counts.now v ≡ true = All-get_or (λ u. is_used c.args.counts.now u ≡ true) vs 0 0 (omega (arith, some)) c.requires.vertices in
    let below = c.loop-k-test.true in
    let is_cell : IsCell n c.args.counts.now (set c.loop-k.cell v c.loop-k.k) =
    subst (IsCell n c.args.counts.now) (sym (c.loop-k.invariant.same c.loop-k.k))
    (set_is_cell n c.args.counts.now cell v c.loop-k.k c.requires.cell used (omega (arith, below, c.levels-k-end.ensures))) in
    let rest = take (length vs - 1) (drop 1 vs) in
    let others : All (λ u. is_used c.args.counts.now u ≡ true) rest =
    All-take (λ u. is_used c.args.counts.now u ≡ true) (length vs - 1) (drop 1 vs)
    (All-drop (λ u. is_used c.args.counts.now u ≡ true) 1 vs c.requires.vertices) in
    let less : length rest < length vs = (let l = length-drop 1 vs in omega (arith, ap (λ (us : List ℕ). length us) (take_rest vs 1), l, some)) in
    search (rules, is_cell, others, less)

pub loop-k-preserved : goal.loop-k-preserved
loop-k-preserved g t c =
    let v = get_or c.args.vertices.now 0 0 in
    record {
      same = λ j. ap (λ (x : List ℕ). set x v j) c.in-Ok.ensures.cell ∙ set-set c.loop-k.cell v c.loop-k.k j ∙ c.loop-k.invariant.same j;
      values = appends_turn (rule g.Q.Quantity.kind c.args.prepared.now.zero) g.Q.Quantity.covers c.args.prepared.now
          c.args.counts.now c.args.cell.now c.loop-k.cell v c.loop-k.k _ _ _ _
          c.loop-k.invariant.same c.loop-k.invariant.values c.in-Ok.ensures.values;
    }

pub returns : goal.returns
returns g t c =
    let vs = c.args.vertices.now in let v = get_or vs 0 0 in let cell = c.args.cell.now in
    let top = c.loop-k-test.false in let low = c.loop-k.auto.k-end in
    record {
      values = appends_all (rule g.Q.Quantity.kind c.args.prepared.now.zero) g.Q.Quantity.covers c.args.prepared.now
          c.args.counts.now cell vs (take (length vs - 1) (drop 1 vs)) c.loop-k.k _ _ c.in-len1-up.len_at_least
          (take_rest vs 1) (omega (arith, top, low, c.levels-k-end.ensures)) c.loop-k.invariant.values;
      cell = c.loop-k.invariant.same (get_or cell v 0) ∙ set-get_or cell v 0;
      fault = tt;
    }

pub returns-in-Err-clause-fault : goal.returns-in-Err-clause-fault
returns-in-Err-clause-fault g t c =
    let vs = c.args.vertices.now in
    let below = c.loop-k-test.true in
    λ kept. fault_turn (rule g.Q.Quantity.kind c.args.prepared.now.zero) g.Q.Quantity.covers c.args.prepared.now c.args.counts.now
    c.args.cell.now c.loop-k.cell vs (take (length vs - 1) (drop 1 vs)) c.loop-k.k _ _ _ c.in-len1-up.len_at_least
    (take_rest vs 1) (omega (arith, below, c.levels-k-end.ensures)) c.loop-k.invariant.same c.loop-k.invariant.values (c.in-Err.ensures.fault kept)
