use Rattle.std.proofs.Common.{◌≡◌, ◌<◌, ◌^◌, true, ltb, length, get_or, refl, ap, subst, arith}
use Rattle.certificate_json.specs.Vocabulary.{are_below}
use Rattle.effect_answers.proofs.Keeping.{one_more_kept, all_kept}
use Rattle.effect_answers.proofs.kept.numbers_kept.Goals as goal

pub loop-k-preserved : goal.loop-k-preserved
loop-k-preserved c =
    let xs = c.args.list.now.items in
    let i = c.loop-k.k-index in
    let same = c.deref-k-items.ensures.value in
    let lt : i < length xs = subst (λ l. i < length l) same c.loop-k-test.true in
    let here : ltb (get_or xs i 0) (2 ^ 32) ≡ true = subst (λ l. ltb (get_or l i 0) (2 ^ 32) ≡ true) same c.number_kept.ensures in
    one_more_kept (are_below (2 ^ 32)) (λ k. ltb k (2 ^ 32)) (λ x xs. refl) xs i 0 lt here c.loop-k.invariant

pub returns : goal.returns
returns c = all_kept (are_below (2 ^ 32)) refl c.args.list.now.items c.loop-k.k-index (let e = ap length c.deref-k-items.ensures.value in omega arith)
    c.loop-k.invariant
