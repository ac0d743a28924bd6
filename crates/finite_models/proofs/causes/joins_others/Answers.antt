use Rattle.std.proofs.Common.{◌≡◌, ◌==◌, true, false, sym, ◌∙◌, inl, inr, arith}
use Rattle.std.proofs.lemmas.Bool.{cases_Bool, cases_eq, eq-eqb, ne_eqb}
use Rattle.mixed_graph.specs.Vocabulary.{has}
use Rattle.mixed_graph.proofs.Masks.{has-zero, zero_from_empty}
use Rattle.finite_models.proofs.causes.joins_others.Goals as goal

pub returns-else-not-has : goal.returns-else-not-has
returns-else-not-has c = (
  λ t m u i d. (let one = c.one.ensures.members u in let other : (u == c.args.v) ≡ false = ne_eqb u c.args.v d in
      let a = c.difference.ensures.members u in let b = c.difference-missed.ensures.members u in
      let z : has c.difference-missed.result.bits u ≡ false = rw (c.is_empty.ensures.none.0 t) (has-zero u) in grind arith),
  λ h. c.is_empty.ensures.none.1 (zero_from_empty c.difference-missed.result.bits (λ u.
      (let one = c.one.ensures.members u in let a = c.difference.ensures.members u in let b = c.difference-missed.ensures.members u in
      let k = h (sym c.has.ensures ∙ c.if-not-has.false) u in
      elim (cases_Bool (has c.difference-missed.result.bits u)) [
        | inl t ↦ absurd (elim (cases_eq u c.args.v) [
          | inl e ↦ let same : (u == c.args.v) ≡ true = eq-eqb u c.args.v e in grind arith
          | inr d ↦ elim (cases_Bool (has c.args.children.bits u)) [ inl i ↦ let r = k i d in grind arith | inr o ↦ grind arith ]
        ])
        | inr f ↦ f
      ]))),
)
