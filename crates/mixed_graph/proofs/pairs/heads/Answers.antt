use Rattle.std.proofs.Common.{ℕ, ◌||◌, ◌&&◌, ◌==◌, get_or, sym, ap, ◌∙◌, arith, length-set}
use Rattle.std.proofs.lemmas.List.{length-replicate}
use Rattle.mixed_graph.proofs.PairMasks.{mask_more, joins_more, no_mask}
use Rattle.mixed_graph.proofs.pairs.heads.Goals as goal

pub loop-p-init : goal.loop-p-init
loop-p-init c = (λ a b. no_mask a b, length-replicate {A = ℕ} 64 0)

pub loop-p-preserved : goal.loop-p-preserved
loop-p-preserved c = (
  λ a b.
      let ends = c.requires c.loop-p.p-index (0, 0) c.loop-p-test.true in
      mask_more c.loop-p.masks (get_or c.args.pairs.now c.loop-p.p-index (0, 0)).0 (get_or c.args.pairs.now c.loop-p.p-index (0, 0)).1 a b (omega arith) ends.1
      ∙ ap (λ t. t || ((a == (get_or c.args.pairs.now c.loop-p.p-index (0, 0)).0) && (b == (get_or c.args.pairs.now c.loop-p.p-index (0, 0)).1)))
      (c.loop-p.invariant.0 a b)
      ∙ sym (joins_more c.args.pairs.now c.loop-p.p-index a b c.loop-p-test.true),
  simp length-set c.loop-p.invariant.1,
)
