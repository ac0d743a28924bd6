use Rattle.std.proofs.Common.{ℕ, ◌≡◌, false, get_or, arith, ap, ◌∙◌}
use Rattle.std.proofs.lemmas.List.{get_or_past}
use Rattle.mixed_graph.specs.Vocabulary.{has}
use Rattle.mixed_graph.proofs.Masks.{has-zero}
use Rattle.latent_projection.proofs.Rows.{no_row, row_more, rows_whole}
use Rattle.latent_projection.proofs.latents.arrows_past.Goals as goal

pub loop-v-init : goal.loop-v-init
loop-v-init c = no_row _

pub loop-v-preserved : goal.loop-v-preserved
loop-v-preserved c = row_more _ _ _ _ (omega arith) (λ b.
    let p = c.only_if-in-loop-v.ensures b in let q = c.difference.ensures.members b in let r = c.union.ensures.members b in let s = c.only_if.ensures b in
    let t = c.one-gone.ensures.members b in let u = c.has.ensures in
    let row = ap (λ m. has m b) c.row-row.ensures in let through = ap (λ m. has m c.args.k) c.row-row.ensures in let next =
    ap (λ m. has m b) c.row-next.ensures in
    grind arith) c.loop-v.invariant

pub returns : goal.returns
returns c = rows_whole _ _ _ c.loop-v.invariant (λ a b h.
    let none : (d : ℕ) → has (get_or c.args.rows.now a 0) d ≡ false = (λ d. ap (λ m. has m d) (get_or_past c.args.rows.now a 0 (omega arith)) ∙ has-zero d) in
    let x = none b in let y = none c.args.k in grind arith)
