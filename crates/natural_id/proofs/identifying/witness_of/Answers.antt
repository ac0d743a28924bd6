use Rattle.std.proofs.Common.{refl, ◌∙◌, ◌≡◌, Bool, true, ◌&&◌, arith}
use Rattle.mixed_graph.specs.Vocabulary.{has}
use Rattle.mixed_graph.proofs.Masks.{positive_from_has}
use Rattle.natural_id.proofs.Answered.{none_meets}
use Rattle.natural_id.proofs.identifying.witness_of.Goals as goal

pub returns-then-is_empty : goal.returns-then-is_empty
returns-then-is_empty c = λ p v e a i j. none_meets c.args.children.bits c.args.through.bits c.args.past.bits c.intersection.result.bits
    c.intersection-both.result.bits c.intersection.ensures.members c.intersection-both.ensures.members (c.if-is_empty.ensures.none.0 refl) v
    ((c.requires.children v).1 (p, e, a)) i j

pub lowest-treatment-requires : goal.lowest-treatment-requires
lowest-treatment-requires c =
    let child = c.lowest-child.result in
    let p = (c.requires.children child).0 (first (has c.args.children.bits child) (has c.args.through.bits child) (has c.args.past.bits child)
    (has c.intersection.result.bits child) (has c.intersection-both.result.bits child) (c.intersection.ensures.members child)
    (c.intersection-both.ensures.members child) c.lowest-child.ensures.member) in
    positive_from_has c.intersection-2.result.bits p.0 (c.intersection-2.ensures.members p.0
    ∙ pair (has c.args.x.bits p.0) (has c.parents.result.bits p.0) p.1 (c.parents.ensures.members p.0 ∙ p.2))
  where
    first : (a b c d e : Bool) → d ≡ (a && b) → e ≡ (d && c) → e ≡ true → a ≡ true
    first a b c d e h i j = grind (arith, h, i, j)

    pair : (p q : Bool) → p ≡ true → q ≡ true → (p && q) ≡ true
    pair p q h j = grind (arith, h, j)
