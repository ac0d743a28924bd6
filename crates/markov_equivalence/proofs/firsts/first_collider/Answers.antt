use Rattle.std.proofs.Common.{arith, inl, inr}
use Rattle.std.proofs.lemmas.Bool.{cases_eq}
use Rattle.markov_equivalence.proofs.firsts.first_collider.Goals as goal

pub loop-a-preserved : goal.loop-a-preserved
loop-a-preserved c = λ x y m lt lt'. elim (cases_eq x c.loop-a.a) [
  | inl e ↦ rw e (c.in_default.ensures.none y m (rw e at lt'))
  | inr d ↦ c.loop-a.invariant x y m (omega arith) lt'
]
