use Rattle.std.proofs.Common.{ℕ, ◌≡◌, ◌∙◌, Ok, true, sym, ap, arith}
use Rattle.mixed_graph.specs.Vocabulary.{has}
use Rattle.finite_models.proofs.Bools.{either}
use Rattle.mixed_graph.proofs.MaskLaws.{has_join}
use Rattle.count_rows.specs.Vocabulary.{counted}
use Rattle.count_eval.specs.Programs.{cell_of, is_used}
use Rattle.count_eval.proofs.CountedLaws.{counted_shrinks, counted_small, term_is, given_joined}
use Rattle.count_eval.proofs.eval.term.Goals as goal

pub sum-top-requires : goal.sum-top-requires
sum-top-requires g c v member =
    let a = c.args.of.bits in let b = c.args.given.bits in
    c.requires.levels v (either (has a v) (has b v) (is_used (g.L.Lookup.counts c.args.scope.now.lookup.now) v ≡ true)
    (sym (has_join a b v) ∙ ap (λ m. has m v) (sym c.union.ensures.mask) ∙ member) (c.requires.of v) (c.requires.given v))

pub from_ratio-requires-clause-at_most_one : goal.from_ratio-requires-clause-at_most_one
from_ratio-requires-clause-at_most_one g c =
    let t = g.L.Lookup.counts c.args.scope.now.lookup.now in
    let joined : (v : ℕ) → has c.args.given.bits v ≡ true → has c.union.result.bits v ≡ true = λ v e. ap (λ m. has m v) c.union.ensures.mask
    ∙ given_joined c.args.of.bits c.args.given.bits v e in
    let le = counted_shrinks t.vertices t.rows (has c.union.result.bits) (has c.args.given.bits) (cell_of c.args.at.cell) joined in
    omega (arith, le, c.sum-top.ensures, c.sum-bottom.ensures)

pub from_ratio-requires-clause-small : goal.from_ratio-requires-clause-small
from_ratio-requires-clause-small g c =
    let t = g.L.Lookup.counts c.args.scope.now.lookup.now in
    let small = counted_small t.vertices t.rows (has c.args.given.bits) (cell_of c.args.at.cell) in
    let most = c.requires.table.most in
    omega (arith, small, most, c.sum-bottom.ensures)

pub returns : goal.returns
returns g c =
    let t = g.L.Lookup.counts c.args.scope.now.lookup.now in
    ap (λ x. Ok x) c.from_ratio.ensures
    ∙ term_is g.Q.Quantity.kind c.args.at.def c.args.at.node (cell_of c.args.at.cell) c.args.of.bits c.args.given.bits
    (λ a. counted t.vertices t.rows a (cell_of c.args.at.cell))
    c.sum-top.result c.sum-bottom.result (c.sum-top.ensures ∙ ap (λ m. counted t.vertices t.rows (has m) (cell_of c.args.at.cell)) c.union.ensures.mask)
    c.sum-bottom.ensures c.if-bottom-eq0.false
