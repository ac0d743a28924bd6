use Rattle.std.proofs.Common.{ℕ, ◌≡◌, Bool, List, Result, Ok, Err, IfOk, sym, subst}
use Rattle.mixed_graph.specs.Vocabulary.{has}
use Rattle.count_rows.specs.Vocabulary.{Table}
use Rattle.count_table.specs.Vocabulary.{AreSums}
use Rattle.implications.specs.declared.pairs.Implication.{Implication}
use Rattle.implied_differences.specs.declared.candidates.Candidate.{Candidate}
use Rattle.implied_differences.specs.declared.layout.Layout.{Layout}
use Rattle.implied_differences.specs.Differences.{whole_of}
use Rattle.implied_differences.specs.Blocks.{IsBest, IsBestOf}
use Rattle.implied_differences.proofs.AllSums.{counts_are_sums}
use Rattle.implied_differences.proofs.Spots.{blocks}
use Rattle.implied_differences.proofs.Walking.{a_below, b_below}
use Rattle.implied_differences.proofs.largest.best_of.Goals as goal

pub vertices_of-whole-requires-clause-a : goal.vertices_of-whole-requires-clause-a
vertices_of-whole-requires-clause-a c = a_below c.args.c.now c.used-used.ensures.table c.args.i.now c.requires.readable

pub vertices_of-whole-requires-clause-b : goal.vertices_of-whole-requires-clause-b
vertices_of-whole-requires-clause-b c = b_below c.args.c.now c.used-used.ensures.table c.args.i.now c.requires.readable

best_from : {E : Type 0} (t : Table) (i : Implication) (l : Layout) (cells : List ℕ) → AreSums t (whole_of i) cells → (r : Result Candidate E)
    → IfOk r (λ best. IsBest cells l l.count 0 0 best) → IfOk r (λ best. IsBestOf t i l best)
best_from t i l cells sums (Ok best) h = record { cells = cells; sums = sums; best = h }
best_from t i l cells sums (Err e) h = h

sums_from : (t t' : Table) (of of' : ℕ → Bool) (cells : List ℕ) → t' ≡ t → of' ≡ of → AreSums t' of' cells → AreSums t of cells
sums_from t t' of of' cells e f h = subst (λ (x : Table). AreSums x of cells) e (subst (λ (s : ℕ → Bool). AreSums t' s cells) f h)

pub best_in_strips-requires : goal.best_in_strips-requires
best_in_strips-requires c =
    let sums = counts_are_sums c.args.c.now c.used-used.ensures.table c.args.i.now c.used-used.result.bits c.vertices_of-whole.result.bits
    c.difference.result.bits c.used-used.ensures.members
    c.vertices_of-whole.ensures c.difference.ensures.members (c.is_empty.ensures.none.0 c.if-is_empty.true) c.cells.result.now c.cells.ensures.counts in
    blocks c.args.c.now c.used-used.ensures.table c.args.i.now c.requires.readable c.args.l.now c.requires.layout c.cells.result.now sums

pub returns-then-is_empty : goal.returns-then-is_empty
returns-then-is_empty c =
    let sums = counts_are_sums c.args.c.now c.used-used.ensures.table c.args.i.now c.used-used.result.bits c.vertices_of-whole.result.bits
    c.difference.result.bits c.used-used.ensures.members
    c.vertices_of-whole.ensures c.difference.ensures.members (c.is_empty.ensures.none.0 c.if-is_empty.true) c.cells.result.now c.cells.ensures.counts in
    best_from c.args.c.now c.args.i.now c.args.l.now c.cells.result.now sums c.best_in_strips.result c.best_in_strips.ensures

pub best_in_strips-requires-2 : goal.best_in_strips-requires-2
best_in_strips-requires-2 c =
    let sums = sums_from c.args.c.now c.in_ok-sums.sums.table (whole_of c.args.i.now) (has c.in_ok-sums.sums.set) c.sums-2.result.now c.in_ok-sums.ensures.table
    (subst (λ n. has n ≡ whole_of c.args.i.now) (sym c.in_ok-sums.ensures.set) c.vertices_of-whole.ensures) c.sums-2.ensures in
    blocks c.args.c.now c.used-used.ensures.table c.args.i.now c.requires.readable c.args.l.now c.requires.layout c.sums-2.result.now sums
