use Rattle.std.proofs.Common.{◌≡◌, ◌<◌, ◌≤◌, ◌-◌, ℕ, true, List, All, length, set, get_or, take, drop, refl, sym, ap, subst, arith, rules}
use Rattle.std.proofs.lemmas.List.{length-drop, take_rest}
use Rattle.std.proofs.lemmas.List.Elements.{All-drop, All-take, All-get_or}
use Rattle.count_eval.specs.Vocabulary.{weights_in, is_used, cell_of}
use Rattle.table_cells.specs.Vocabulary.{IsCell}
use Rattle.bound_values.specs.Questions.{asked_of}
use Rattle.bound_values.specs.Found.{are_crossed, IsFirstCrossing}
use Rattle.table_cells.proofs.CellLists.{cells_at_none}
use Rattle.bound_values.proofs.Finding.{none_turn, none_after, found_turn}
use Rattle.table_cells.proofs.Tables.{set_is_cell}
use Rattle.bound_values.proofs.found.+first_crossing.Goals as goal

pub returns-in_default : goal.returns-in_default
returns-in_default t c =
    subst (λ (cs : List (List ℕ)). IsFirstCrossing c.args.scope.now.question.method c.args.scope.now.n c.args.scope.now.counts.now (asked_of c.args.scope.now.question) cs c.one_crossing.result)
    (sym (cells_at_none c.args.scope.now.counts.now c.args.cell c.args.vertices.now c.in_default.len_below)) c.one_crossing.ensures

pub first_crossing-requires : goal.first_crossing-requires
first_crossing-requires t c =
    let table = c.args.scope.now.counts.now in let vs = c.args.vertices.now in let v = get_or vs 0 0 in
    let some : 1 ≤ length vs = c.in-len1-up.len_at_least in
    let used : is_used table v ≡ true = All-get_or (λ u. is_used table u ≡ true) vs 0 0 (omega (arith, some)) c.requires.vertices in
    let below = c.loop-k-test.true in
    let is_cell : IsCell 64 table (set c.args.cell v c.loop-k.k) =
    set_is_cell 64 table c.args.cell v c.loop-k.k c.requires.cell used (omega (arith, below, c.levels-k-end.ensures)) in
    let rest = take (length vs - 1) (drop 1 vs) in
    let others : All (λ u. is_used table u ≡ true) rest = All-take (λ u. is_used table u ≡ true) (length vs - 1) (drop 1 vs)
    (All-drop (λ u. is_used table u ≡ true) 1 vs c.requires.vertices) in
    let less : length rest < length vs = (let l = length-drop 1 vs in omega (arith, ap (λ (us : List ℕ). length us) (take_rest vs 1), l, some)) in
    search (rules, is_cell, others, less)

pub returns-in-Some : goal.returns-in-Some
returns-in-Some t c =
    let vs = c.args.vertices.now in let n = c.args.scope.now.n in let table = c.args.scope.now.counts.now in let below = c.loop-k-test.true in (
      found_turn (λ cell. are_crossed c.args.scope.now.question.method (weights_in n table) (asked_of c.args.scope.now.question) (cell_of cell)) table c.args.cell vs
          (take (length vs - 1) (drop 1 vs)) (get_or vs 0 0) refl (take_rest vs 1) c.in-len1-up.len_at_least c.loop-k.k c.in-Some.found.cell
          (omega (arith, below, c.levels-k-end.ensures)) c.loop-k.invariant c.in-Some.ensures.0,
      c.in-Some.ensures.1,
    )

pub loop-k-preserved : goal.loop-k-preserved
loop-k-preserved t c =
    let vs = c.args.vertices.now in
    none_turn (λ cell. are_crossed c.args.scope.now.question.method (weights_in c.args.scope.now.n c.args.scope.now.counts.now) (asked_of c.args.scope.now.question) (cell_of cell))
    c.args.scope.now.counts.now c.args.cell vs (take (length vs - 1) (drop 1 vs)) (get_or vs 0 0) refl (take_rest vs 1) c.in-len1-up.len_at_least c.loop-k.k
    c.loop-k.invariant c.in-None.ensures

pub returns : goal.returns
returns t c =
    let vs = c.args.vertices.now in
    let top = c.loop-k-test.false in let low = c.loop-k.auto.k-end in
    none_after (λ cell. are_crossed c.args.scope.now.question.method (weights_in c.args.scope.now.n c.args.scope.now.counts.now) (asked_of c.args.scope.now.question) (cell_of cell))
    c.args.scope.now.counts.now c.args.cell vs (take (length vs - 1) (drop 1 vs)) (get_or vs 0 0) refl (take_rest vs 1) c.in-len1-up.len_at_least c.loop-k.k
    (omega (arith, top, low, c.levels-k-end.ensures)) c.loop-k.invariant
