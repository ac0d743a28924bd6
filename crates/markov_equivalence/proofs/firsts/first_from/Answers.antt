use Rattle.std.proofs.Common.{sym, ◌∙◌, arith, inl, inr}
use Rattle.std.proofs.lemmas.Bool.{cases_eq}
use Rattle.markov_equivalence.proofs.firsts.first_from.Goals as goal

pub loop-b-preserved : goal.loop-b-preserved
loop-b-preserved c = λ y m lt lt'. elim (cases_eq y c.loop-b.b) [
  | inl e ↦ rw e (sym (c.colliders.ensures m) ∙ c.in_default.ensures.same m ∙ c.colliders-in-loop-b.ensures m)
  | inr d ↦ c.loop-b.invariant y m lt (omega arith)
]
