use Rattle.std.proofs.Common.{ℕ, ◌||◌, ◌&&◌, ◌==◌, get_or, sym, ap, ◌∙◌, arith, length-set}
use Rattle.std.proofs.lemmas.List.{length-replicate}
use Rattle.mixed_graph.specs.Bits.{has}
use Rattle.mixed_graph.proofs.PairMasks.{mask_more, joins_more, no_mask, and_swap}
use Rattle.mixed_graph.proofs.pairs.tails.Goals as goal

pub loop-p-init : goal.loop-p-init
loop-p-init c = (λ a b. no_mask b a, length-replicate {A = ℕ} 64 0)

pub loop-p-preserved : goal.loop-p-preserved
loop-p-preserved c = (
  λ a b.
      let ends = c.requires c.loop-p.p-index (0, 0) c.loop-p-test.true in
      mask_more c.loop-p.masks (get_or c.args.pairs.now c.loop-p.p-index (0, 0)).1 (get_or c.args.pairs.now c.loop-p.p-index (0, 0)).0 b a (omega arith) ends.0
      ∙ ap (λ t. has (get_or c.loop-p.masks b 0) a || t) (and_swap (b == (get_or c.args.pairs.now c.loop-p.p-index (0, 0)).1)
      (a == (get_or c.args.pairs.now c.loop-p.p-index (0, 0)).0))
      ∙ ap (λ t. t || ((a == (get_or c.args.pairs.now c.loop-p.p-index (0, 0)).0) && (b == (get_or c.args.pairs.now c.loop-p.p-index (0, 0)).1)))
      (c.loop-p.invariant.0 a b)
      ∙ sym (joins_more c.args.pairs.now c.loop-p.p-index a b c.loop-p-test.true),
  simp length-set c.loop-p.invariant.1,
)
