use Rattle.std.proofs.Common.{ℕ, Bool, ◌≡◌, ◌==◌, ◌&&◌, ◌||◌, not, true, false, get_or, arith, sym, ap, ap₂, ◌∙◌, inl, inr, subst}
use Rattle.std.proofs.lemmas.Bool.{cases_eq, eq-eqb, ne_eqb, false_from_ne_true}
use Rattle.mixed_graph.specs.Vocabulary.{has}
use Rattle.latent_projection.proofs.Rows.{no_row, row_more, rows_whole}
use Rattle.latent_projection.proofs.latents.spouses_past.Goals as goal

pub loop-v-init : goal.loop-v-init
loop-v-init c = no_row _

-- the bit of a vertex for itself, and for another
own_bit : (keep bk svk ckv ckb skb : Bool)
    → (keep && ((false || ((ckv && (ckb || skb)) || (svk && ckb))) && not (bk || true)))
    ≡ (keep && (not bk && (false || (not true && ((ckv && ckb) || ((ckv && skb) || (svk && ckb)))))))
own_bit keep bk svk ckv ckb skb = grind arith

other_bit : (keep bk svb svk ckv ckb skb : Bool)
    → (keep && ((svb || ((ckv && (ckb || skb)) || (svk && ckb))) && not (bk || false)))
    ≡ (keep && (not bk && (svb || (not false && ((ckv && ckb) || ((ckv && skb) || (svk && ckb)))))))
other_bit keep bk svb svk ckv ckb skb = grind arith

pub loop-v-preserved : goal.loop-v-preserved
loop-v-preserved c = row_more _ _ _ _ (omega arith) (λ b.
    let g = c.args.g.now in let k = c.args.k in let v = c.loop-v.v in
    let kept = c.only_if-in-loop-v-2.ensures b ∙ ap (λ t. not (v == k) && t) (c.difference.ensures.members b) in
    let joined = c.union.ensures.members b ∙ ap₂ (λ s t. s || t) (c.spouses-row.ensures.members b) (c.union-past.ensures.members b) in
    let headed = c.union-headed.ensures.members b ∙ ap₂ (λ s t. s || t) (c.children-children.ensures.members b) (c.spouses.ensures.members b) in
    let head = c.only_if.ensures b ∙ ap₂ (λ s t. s && t) (c.has.ensures ∙ c.children-children.ensures.members v) headed in
    let kids = c.only_if-in-loop-v.ensures b ∙ ap₂ (λ s t. s && t) (c.has-in-loop-v.ensures ∙ c.spouses-row.ensures.members k)
    (c.children-children.ensures.members b) in
    let gone = c.union-in-loop-v.ensures.members b ∙ ap₂ (λ s t. s || t) (c.one-gone.ensures.members b) (c.one.ensures.members b) in
    kept ∙ ap₂ (λ s t. not (v == k) && (s && not t)) (joined ∙ ap₂ (λ s t. has (get_or g.spouses v 0) b || (s || t)) head kids) gone
    ∙ elim (cases_eq b v) [
      | inl e ↦
          let z : has (get_or g.spouses v 0) b ≡ false = subst (λ d. has (get_or g.spouses v 0) d ≡ false) (sym e) (g.valid.no_loop v) in
          rw (eq-eqb b v e, eq-eqb v b (sym e), z) (own_bit (not (v == k)) (b == k) (has (get_or g.spouses v 0) k) (has (get_or g.children k 0) v)
          (has (get_or g.children k 0) b) (has (get_or g.spouses k 0) b))
      | inr d ↦
          rw (ne_eqb b v d, ne_eqb v b (λ e. d (sym e)))
          (other_bit (not (v == k)) (b == k) (has (get_or g.spouses v 0) b) (has (get_or g.spouses v 0) k) (has (get_or g.children k 0) v)
          (has (get_or g.children k 0) b) (has (get_or g.spouses k 0) b))
    ]) c.loop-v.invariant

pub returns : goal.returns
returns c = rows_whole _ _ _ c.loop-v.invariant (λ a b h.
    let valid = c.args.g.now.valid in let small = c.args.g.now.small in
    let child : has (get_or c.args.g.now.children c.args.k 0) a ≡ false =
    false_from_ne_true _ (λ t. absurd (omega (arith, valid.head_below c.args.k a t, small))) in
    let spouse : (d : ℕ) → has (get_or c.args.g.now.spouses a 0) d ≡ false =
    λ d. false_from_ne_true _ (λ t. absurd (omega (arith, valid.both_below a d t, small))) in
    let x = spouse b in let y = spouse c.args.k in grind arith)
