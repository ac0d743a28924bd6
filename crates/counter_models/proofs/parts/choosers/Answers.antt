use Rattle.std.proofs.Common.{◌∙◌, sym, ap, ◌&&◌, ◌==◌, slice_index, inl, inr, arith}
use Rattle.std.proofs.lemmas.Bool.{cases_lt}
use Rattle.mixed_graph.proofs.Masks.{has-above}
use Rattle.counter_models.proofs.parts.choosers.Goals as goal

pub returns : goal.returns
returns c = λ w. elim (cases_lt w 64) [
  | inl l ↦ c.loop-u.invariant.seen w (omega arith)
  | inr ge ↦ c.loop-u.invariant.unseen w (omega arith) ∙ sym (ap (λ b. b && (slice_index c.args.choice.now.next w == c.args.v))
      (has-above c.args.set.bits w (omega arith) ge))
]
