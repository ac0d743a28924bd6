use Rattle.std.proofs.Common.{◌≡◌, ◌<◌, ◌∙◌, sym, ap, length, arith}
use Rattle.mixed_graph.specs.Vocabulary.{has}
use Rattle.finite_models.specs.Vocabulary.{weights_of}
use Rattle.finite_models.proofs.Places.{weights_of-at}
use Rattle.finite_models.proofs.Capped.{range_more}
use Rattle.hidden_models.specs.Reaching.{mask_at}
use Rattle.hidden_models.proofs.Masks.{mask_is}
use Rattle.hidden_models.proofs.ranges.causes_range.Goals as goal

pub loop-j-preserved : goal.loop-j-preserved
loop-j-preserved c =
    let lt : c.loop-j.j < length c.args.m.now.causes.items = (let k = c.args.m.now.causes.ok in omega arith) in
    range_more c.loop-j.j (λ j. has (mask_at c.args.reached.now j) c.args.v) (λ j. length (weights_of c.args.m.now.causes.items j))
    c.args.start c.loop-j.range c.len.result c.widened-range.result 1048577 c.has.result c.loop-j.invariant
    (c.has.ensures ∙ ap (λ b. has b c.args.v) (sym (mask_is c.args.reached.now c.loop-j.j)))
    (let l : c.len.result ≡ length c.index.result.now.weights.items = (let k = c.index.result.now.weights.ok in omega arith) in
    l ∙ ap length (sym (weights_of-at c.args.m.now.causes.items c.loop-j.j c.index.result.now lt c.index.ensures))) c.widened-range.ensures
