use Rattle.std.proofs.Common.{◌≡◌, ◌<◌, ℕ, IsTrue, inl, inr, sym, ap, ◌∙◌, subst}
use Rattle.std.proofs.lemmas.Bool.{and_parts, or_cases, or_right}
use Rattle.mixed_graph.specs.Vocabulary.{has, union, one, common}
use Rattle.identification_theory.proofs.Sets.{one-self, one-is}
use Rattle.mixed_graph.proofs.MaskLaws.{has_join, has_meet}
use Rattle.identify.proofs.factors.place.place_of.Goals as goal

-- the earlier members of a set below n, and a vertex below n
below : (n a p v s : ℕ) → s ≡ union (common a p) (one v) → v < n → ((u : ℕ) → IsTrue (has a u) → u < n) → (u : ℕ) → IsTrue (has s u) → u < n
below n a p v s is lt low u i = elim (or_cases _ _ (sym (has_join (common a p) (one v) u) ∙ ap (λ m. has m u) (sym is) ∙ i)) [
  | inl e ↦ low u (and_parts _ _ (sym (has_meet a p u) ∙ e)).0
  | inr e ↦ subst (λ w. w < n) (sym (one-is v u e)) lt
]

member : (a p v s : ℕ) → s ≡ union (common a p) (one v) → IsTrue (has s v)
member a p v s is = ap (λ m. has m v) is ∙ has_join (common a p) (one v) v ∙ or_right _ _ (one-self v)

pub pillow-m-requires-clause-within : goal.pillow-m-requires-clause-within
pillow-m-requires-clause-within c = below c.args.g.now.n c.args.a.bits c.args.before.bits c.args.v c.union-near.result.bits
    (let a = c.union-near.ensures.mask in let b = c.intersection.ensures.mask in let d = c.one.ensures.mask in cc) c.requires.vertex c.requires.within

pub pillow-m-requires-clause-member : goal.pillow-m-requires-clause-member
pillow-m-requires-clause-member c = member c.args.a.bits c.args.before.bits c.args.v c.union-near.result.bits
    (let a = c.union-near.ensures.mask in let b = c.intersection.ensures.mask in let d = c.one.ensures.mask in cc)
