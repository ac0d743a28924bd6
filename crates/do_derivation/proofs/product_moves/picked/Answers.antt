use Rattle.std.proofs.Common.{◌≡◌, ◌+◌, true, length, drop, refl, sym, ap, ◌∙◌, rules, arith}
use Rattle.prob_expr.specs.Vocabulary.{views}
use Rattle.do_derivation.specs.Shapes.{appended, picked, each_below}
use Rattle.do_derivation.proofs.Walks
use Rattle.do_derivation.proofs.product_moves.picked.Goals as goal

pub index-requires : goal.index-requires
index-requires c =
    let h : each_below (length c.args.factors.now.items) c.deref-i-items.result.now ≡ true = rw c.deref-i-items.ensures.value c.requires.within in
    let low = Walks.below_at (length c.args.factors.now.items) c.deref-i-items.result.now c.loop-i.i-index h (omega arith) in
    search (rules, low)

pub loop-i-preserved : goal.loop-i-preserved
loop-i-preserved c =
    let h : each_below (length c.args.factors.now.items) c.deref-i-items.result.now ≡ true = rw c.deref-i-items.ensures.value c.requires.within in
    let low = Walks.below_at (length c.args.factors.now.items) c.deref-i-items.result.now c.loop-i.i-index h (omega arith) in
    ap (λ es. appended (views es) (picked (views c.args.factors.now.items) (drop (c.loop-i.i-index + 1) c.deref-i-items.result.now))) c.in_ok-push.ensures.items
    ∙ Walks.picked_step c.args.factors.now.items c.loop-i.made.items c.deref-i-items.result.now c.loop-i.i-index c.in_ok-copy_expr.field-0 c.index.result.now
    (omega arith) low c.index.ensures c.in_ok-copy_expr.ensures
    ∙ c.loop-i.invariant

pub returns : goal.returns
returns c =
    rw (← c.deref-i-items.ensures.value)
    (sym (Walks.walk_end (λ l. picked (views c.args.factors.now.items) l) c.loop-i.made.items c.deref-i-items.result.now c.loop-i.i-index (omega arith) refl)
    ∙ c.loop-i.invariant)
