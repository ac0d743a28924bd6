use Rattle.std.proofs.Common.{◌≡◌, ℕ, ◌∙◌, sym, ap, arith, false, inl, inr, List, ◌≤◌, length, below_more}
use Rattle.std.proofs.lemmas.Bool.{cases_lt, or_parts}
use Rattle.std.proofs.lemmas.List.{get_or_past}
use Rattle.mixed_graph.specs.Vocabulary.{has}
use Rattle.mixed_graph.proofs.Masks.{has-zero}
use Rattle.dag_reader.specs.Rows.{row_has}
use Rattle.dag_reader.proofs.edges.has_loop.Goals as goal

past : (rows : List ℕ) (v : ℕ) → length rows ≤ v → row_has rows v v ≡ false
past rows v over = ap (λ m. has m v) (get_or_past rows v 0 over) ∙ has-zero v

pub loop-v-preserved : goal.loop-v-preserved
loop-v-preserved c =
    let here = c.union.ensures.members c.loop-v.v in
    below_more _ _ c.loop-v.invariant (sym (rw (c.row-row.ensures, c.row-both.ensures) at here) ∙ sym c.has.ensures ∙ c.if-has.false)

pub returns : goal.returns
returns c = λ f v. elim (cases_lt v 64) [
  | inl below ↦ or_parts (row_has c.args.edges.now.arrows v v) (row_has c.args.edges.now.doubles v v) (c.loop-v.invariant v (omega arith))
  | inr over ↦ (past c.args.edges.now.arrows v (omega arith), past c.args.edges.now.doubles v (omega arith))
]
