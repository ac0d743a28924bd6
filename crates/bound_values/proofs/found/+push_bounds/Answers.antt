use Rattle.std.proofs.Common.{◌≡◌, ◌<◌, ◌≤◌, ◌-◌, ℕ, true, List, All, OnOk, IfErr, length, set, get_or, take, drop, refl, sym, ap, subst, arith, rules}
use Rattle.std.proofs.lemmas.List.{length-drop, take_rest}
use Rattle.std.proofs.lemmas.List.Elements.{All-drop, All-take, All-get_or}
use Rattle.count_eval.specs.Vocabulary.{is_used}
use Rattle.table_cells.specs.Vocabulary.{IsCell}
use Rattle.bound_values.specs.Questions.{asked_of}
use Rattle.bound_values.specs.Told.{Appends, IsFaultAt}
use Rattle.bound_values.proofs.Along.{appends_turn, appends_all, fault_turn}
use Rattle.table_cells.proofs.CellLists.{cells_at_none}
use Rattle.table_cells.proofs.Tables.{set_is_cell}
use Rattle.bound_values.proofs.found.+push_bounds.Goals as goal

pub returns-in_default-clause-bounds : goal.returns-in_default-clause-bounds
returns-in_default-clause-bounds t c =
    subst (λ (cs : List (List ℕ)). OnOk c.push_cell.result (Appends c.args.exact c.args.scope.now.question.method c.args.scope.now.n c.args.scope.now.counts.now
    (asked_of c.args.scope.now.question) cs c.args.out.now.items c.push_cell.new.out.items))
    (sym (cells_at_none c.args.scope.now.counts.now c.args.cell c.args.vertices.now c.in_default.len_below)) c.push_cell.ensures.bounds

pub returns-in_default-clause-fault : goal.returns-in_default-clause-fault
returns-in_default-clause-fault t c =
    subst (λ (cs : List (List ℕ)). IfErr c.push_cell.result (IsFaultAt c.args.exact c.args.scope.now.question.method c.args.scope.now.n
    c.args.scope.now.counts.now (asked_of c.args.scope.now.question) cs))
    (sym (cells_at_none c.args.scope.now.counts.now c.args.cell c.args.vertices.now c.in_default.len_below)) c.push_cell.ensures.fault

pub push_bounds-requires : goal.push_bounds-requires
push_bounds-requires t c =
    let table = c.args.scope.now.counts.now in let vs = c.args.vertices.now in let v = get_or vs 0 0 in
    let some : 1 ≤ length vs = c.in-len1-up.len_at_least in
    let used : is_used table v ≡ true = All-get_or (λ u. is_used table u ≡ true) vs 0 0 (omega (arith, some)) c.requires.vertices in
    let below = c.loop-k-test.true in
    let is_cell : IsCell 64 table (set c.args.cell v c.loop-k.k) =
    set_is_cell 64 table c.args.cell v c.loop-k.k c.requires.cell used (omega (arith, below, c.levels-k-end.ensures)) in
    let rest = take (length vs - 1) (drop 1 vs) in
    let others : All (λ u. is_used table u ≡ true) rest = All-take (λ u. is_used table u ≡ true) (length vs - 1) (drop 1 vs)
    (All-drop (λ u. is_used table u ≡ true) 1 vs c.requires.vertices) in
    let less : length rest < length vs = (let l = length-drop 1 vs in omega (arith, ap (λ (us : List ℕ). length us) (take_rest vs 1), l, some)) in
    search (rules, is_cell, others, less)

pub returns-in-Err-clause-fault : goal.returns-in-Err-clause-fault
returns-in-Err-clause-fault t c =
    let vs = c.args.vertices.now in let q = c.args.scope.now.question in let below = c.loop-k-test.true in
    fault_turn c.args.exact q.method c.args.scope.now.n c.args.scope.now.counts.now (asked_of q) c.args.cell vs (take (length vs - 1) (drop 1 vs))
    (get_or vs 0 0) refl (take_rest vs 1) c.in-len1-up.len_at_least c.loop-k.k _ _ c.in-Err.fault (omega (arith, below, c.levels-k-end.ensures))
    c.loop-k.invariant c.in-Err.ensures.fault

pub loop-k-preserved : goal.loop-k-preserved
loop-k-preserved t c =
    let vs = c.args.vertices.now in let q = c.args.scope.now.question in
    appends_turn c.args.exact q.method c.args.scope.now.n c.args.scope.now.counts.now (asked_of q) c.args.cell vs (take (length vs - 1) (drop 1 vs))
    (get_or vs 0 0) c.loop-k.k _ _ _ c.loop-k.invariant c.in-Ok.ensures.bounds

pub returns-clause-bounds : goal.returns-clause-bounds
returns-clause-bounds t c =
    let vs = c.args.vertices.now in let q = c.args.scope.now.question in
    let top = c.loop-k-test.false in let low = c.loop-k.auto.k-end in
    appends_all c.args.exact q.method c.args.scope.now.n c.args.scope.now.counts.now (asked_of q) c.args.cell vs (take (length vs - 1) (drop 1 vs))
    (get_or vs 0 0) refl (take_rest vs 1) c.in-len1-up.len_at_least c.loop-k.k _ _ (omega (arith, top, low, c.levels-k-end.ensures)) c.loop-k.invariant
