use Rattle.std.proofs.Common.{◌≡◌, ◌<◌, ◌≤◌, ℕ, true, false, List, All, OnOk, IfErr, length, set, get_or, take, drop, ◌-◌, refl, sym, ap, subst, arith, rules}
use Rattle.std.proofs.lemmas.List.{length-drop, take_rest}
use Rattle.std.proofs.lemmas.List.Elements.{All-drop, All-take, All-get_or}
use Rattle.table_cells.specs.Vocabulary.{level_count}
use Rattle.evaluate_command.specs.Vocabulary.{plain_in}
use Rattle.paired_values.specs.Cells.{cells_at, IsAxis, IsNameCell}
use Rattle.paired_values.specs.Readings.{paired_view}
use Rattle.paired_values.specs.Values.{is_wanting}
use Rattle.paired_values.specs.Walking.{Appends, IsFaultAt}
use Rattle.paired_values.specs.declared.axes.Axis.{Axis}
use Rattle.paired_values.proofs.CellLists.{cells_all, cells_at_none}
use Rattle.paired_values.proofs.NameCells.{set_is_name_cell}
use Rattle.paired_values.proofs.Printed.{appends_none, appends_turn, fault_turn}
use Rattle.paired_values.proofs.cells.+push_cells.Goals as goal

pub returns-in_default-clause-values : goal.returns-in_default-clause-values
returns-in_default-clause-values g t c =
    subst (λ (cs : List (List ℕ)). OnOk c.push_cell.result (
    Appends g.Q.Quantity.kind g.Q.Difference.difference (paired_view c.args.effect.now) c.args.counts.now
    cs (plain_in g.Q.Quantity.numbers c.args.out.now.items) (plain_in g.Q.Quantity.numbers c.push_cell.new.out.items)))
    (sym (cells_at_none c.args.counts.now c.args.cell c.args.axes.now c.in_default.len_below)) c.push_cell.ensures.values

pub returns-in_default-clause-fault : goal.returns-in_default-clause-fault
returns-in_default-clause-fault g t c =
    subst (λ (cs : List (List ℕ)). IfErr c.push_cell.result (λ f. is_wanting f ≡ false
    → IsFaultAt g.Q.Quantity.kind g.Q.Difference.difference (paired_view c.args.effect.now) c.args.counts.now cs f))
    (sym (cells_at_none c.args.counts.now c.args.cell c.args.axes.now c.in_default.len_below)) c.push_cell.ensures.fault

pub loop-k-init : goal.loop-k-init
loop-k-init g t c = appends_none g.Q.Quantity.kind g.Q.Difference.difference (paired_view c.args.effect.now) c.args.counts.now
    (plain_in g.Q.Quantity.numbers c.args.out.now.items)

pub push_cells-requires : goal.push_cells-requires
push_cells-requires g t c =
    let axes = c.args.axes.now in let d : Axis = record { vertex = 0; name = 0 } in let a = get_or axes 0 d in
    let n = c.args.effect.now.n in let x = c.args.effect.now.sets.x.bits in let u = c.args.counts.now in
    let some : 1 ≤ length axes = c.in-len1-up.len_at_least in
    let axis : IsAxis n x a = All-get_or (IsAxis n x) axes 0 d (omega (arith, some)) c.requires.axes in
    let below = c.loop-k-test.true in
    let is_cell : IsNameCell n x u (set c.args.cell a.name c.loop-k.k) =
    set_is_name_cell n x u c.args.cell a c.loop-k.k c.requires.over.few c.requires.cell axis (omega (arith, below, c.levels-k-end.ensures)) in
    let rest = take (length axes - 1) (drop 1 axes) in
    let others : All (IsAxis n x) rest = All-take (IsAxis n x) (length axes - 1) (drop 1 axes) (All-drop (IsAxis n x) 1 axes c.requires.axes) in
    let less : length rest < length axes = (let l = length-drop 1 axes in omega (arith, ap (λ (us : List Axis). length us) (take_rest axes 1), l, some)) in
    search (rules, is_cell, others, less)

pub loop-k-preserved : goal.loop-k-preserved
loop-k-preserved g t c =
    let axes = c.args.axes.now in let d : Axis = record { vertex = 0; name = 0 } in let u = c.args.counts.now in
    let rest = take (length axes - 1) (drop 1 axes) in
    appends_turn g.Q.Quantity.kind g.Q.Difference.difference (paired_view c.args.effect.now) u
    (λ (j : ℕ). cells_at u (set c.args.cell (get_or axes 0 d).name j) rest) c.loop-k.k _ _ _ c.loop-k.invariant c.in-Ok.ensures.values

pub returns : goal.returns
returns g t c =
    let axes = c.args.axes.now in let d : Axis = record { vertex = 0; name = 0 } in let u = c.args.counts.now in
    let top = c.loop-k-test.false in let low = c.loop-k.auto.k-end in
    let end : c.loop-k.k ≡ level_count u (get_or axes 0 d).vertex = omega (arith, top, low, c.levels-k-end.ensures) in
    let all = cells_all u c.args.cell axes (take (length axes - 1) (drop 1 axes)) d c.loop-k.k c.in-len1-up.len_at_least (take_rest axes 1) end in
    record {
      values = subst (λ (cs : List (List ℕ)). Appends g.Q.Quantity.kind g.Q.Difference.difference (paired_view c.args.effect.now) u cs
          (plain_in g.Q.Quantity.numbers c.args.out.now.items) (plain_in g.Q.Quantity.numbers c.loop-k.out.items)) all c.loop-k.invariant;
      fault = tt;
    }

pub returns-in-Err-clause-fault : goal.returns-in-Err-clause-fault
returns-in-Err-clause-fault g t c = λ kept.
    let axes = c.args.axes.now in let d : Axis = record { vertex = 0; name = 0 } in let u = c.args.counts.now in
    let e = paired_view c.args.effect.now in
    let rest = take (length axes - 1) (drop 1 axes) in
    let below = c.loop-k-test.true in let n = level_count u (get_or axes 0 d).vertex in
    subst (λ (cs : List (List ℕ)). IsFaultAt g.Q.Quantity.kind g.Q.Difference.difference e u cs c.in-Err.fault)
    (cells_all u c.args.cell axes rest d n c.in-len1-up.len_at_least (take_rest axes 1) refl)
    (fault_turn g.Q.Quantity.kind g.Q.Difference.difference e u
    (λ (j : ℕ). cells_at u (set c.args.cell (get_or axes 0 d).name j) rest) c.loop-k.k n _ _ c.in-Err.fault
    (omega (arith, below, c.levels-k-end.ensures)) c.loop-k.invariant (c.in-Err.ensures.fault kept))
