use Rattle.std.proofs.Common.{ℕ, get_or, inl, inr, sym, ap, ◌∙◌, arith}
use Rattle.std.proofs.lemmas.Bool.{cases_lt}
use Rattle.std.proofs.lemmas.List.{length-replicate}
use Rattle.mixed_graph.specs.Vocabulary.{has}
use Rattle.mixed_graph.proofs.Masks.{has-zero, has-above}
use Rattle.mixed_graph.proofs.PairMasks.{blank}
use Rattle.do_rules.proofs.cuts.rows.transposed.Goals as goal

pub loop-v-init : goal.loop-v-init
loop-v-init c = (λ a b h. absurd (omega arith), λ a h. blank 64 a, length-replicate {A = ℕ} 64 0)

pub returns : goal.returns
returns c = λ u v. elim (cases_lt v 64) [
  | inl lt ↦ c.loop-v.invariant.0 v u (omega arith)
  | inr ge ↦ ap (λ m. has m u) (c.loop-v.invariant.1 v (omega arith)) ∙ has-zero u
      ∙ sym (has-above (get_or c.args.rows.now u 0) v (c.fits-rows u) ge)
]
