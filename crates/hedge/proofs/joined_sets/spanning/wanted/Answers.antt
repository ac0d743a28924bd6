use Rattle.std.proofs.Common.{◌≡◌, false, inl, inr, sym, ◌∙◌, arith}
use Rattle.std.proofs.lemmas.Bool.{cases_Bool, and_parts}
use Rattle.mixed_graph.specs.Vocabulary.{has}
use Rattle.mixed_graph.proofs.Masks.{has-zero, some_member}
use Rattle.hedge.proofs.Trees.{not_true}
use Rattle.hedge.proofs.joined_sets.spanning.wanted.Goals as goal

pub returns-then-is_empty : goal.returns-then-is_empty
returns-then-is_empty c = inr (
  λ u i. (let e = c.difference-rest.ensures.members u in
      let z : has c.difference-rest.result.bits u ≡ false = rw (c.is_empty.ensures.none.0 c.if-is_empty.true) (has-zero u) in
      elim (cases_Bool (has c.args.found.bits u)) [ inl t ↦ t | inr f ↦ absurd (grind arith) ]),
  c.difference.ensures.members,
)

pub returns-else-is_empty : goal.returns-else-is_empty
returns-else-is_empty c =
    let m = some_member c.difference-rest.result.bits (λ z. absurd (let t = c.is_empty.ensures.none.1 z in let f = c.if-is_empty.false in cc)) (omega arith) in
    let e = and_parts _ _ (sym (c.difference-rest.ensures.members m.0) ∙ m.1) in
    inl (m.0, e.0, not_true _ e.1, c.difference-rest.ensures.members)
