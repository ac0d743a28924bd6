use Rattle.std.proofs.Common.{◌≡◌, true, false, arith, inl, inr, nat_lt}
use Rattle.std.proofs.lemmas.Bool.{cases_Bool, ltb-true, lt-ltb}
use Rattle.mixed_graph.specs.Bits.{has}
use Rattle.mixed_graph.proofs.Masks.{has-zero, zero_from_empty}
use Rattle.mixed_graph.proofs.mixed.Graph.covers.Goals as goal

pub returns : goal.returns
returns c = (
  λ t v h. (let z = c.is_empty.ensures.none.0 t in
      let d = c.difference.ensures.members v in let b = c.below.ensures.members v in
      let n : has c.difference.result.bits v ≡ false = rw z (has-zero v) in
      ltb-true v c.args.self.now.n (grind arith)),
  λ within. c.is_empty.ensures.none.1 (zero_from_empty c.difference.result.bits (λ v.
      let d = c.difference.ensures.members v in let b = c.below.ensures.members v in
      elim (cases_Bool (has c.args.s.bits v)) [
        | inl i ↦ let t : nat_lt v c.args.self.now.n ≡ true = lt-ltb v c.args.self.now.n (within v i) in grind arith
        | inr o ↦ grind arith
      ])),
)
