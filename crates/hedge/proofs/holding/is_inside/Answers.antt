use Rattle.std.proofs.Common.{◌≡◌, false, inl, inr, arith}
use Rattle.std.proofs.lemmas.Bool.{cases_Bool}
use Rattle.mixed_graph.specs.Vocabulary.{has}
use Rattle.mixed_graph.proofs.Masks.{has-zero, zero_from_empty}
use Rattle.hedge.proofs.holding.is_inside.Goals as goal

pub returns : goal.returns
returns c = (
  λ t v i. (let d = c.difference.ensures.members v in let z : has c.difference.result.bits v ≡ false = rw (c.is_empty.ensures.none.0 t) (has-zero v) in
      elim (cases_Bool (has c.args.t.bits v)) [ inl in' ↦ in' | inr out ↦ absurd (grind arith) ]),
  λ sub. c.is_empty.ensures.none.1 (zero_from_empty c.difference.result.bits (λ v. (let d = c.difference.ensures.members v in let k = sub v in
      elim (cases_Bool (has c.args.s.bits v)) [ inl i ↦ grind arith | inr o ↦ grind arith ]))),
)
