use Rattle.std.proofs.Common.{◌≡◌, Bool, true, false, inl, inr, refl, ap, not, arith}
use Rattle.std.proofs.lemmas.Bool.{cases_eq, eq-eqb, ne_eqb}
use Rattle.mixed_graph.specs.Vocabulary.{has}
use Rattle.mixed_graph.proofs.Masks.{has-zero, some_member}
use Rattle.finite_models.proofs.causes.is_sound.Goals as goal

not_true : (b : Bool) → not b ≡ true → b ≡ false
not_true true e = absurd (cc)
not_true false e = refl

pub returns-then-joined : goal.returns-then-joined
returns-then-joined c = (
  λ t. record {
    positive = (rw c.deref.ensures.value at c.weighs-positive.ensures).0 c.if-joined.true.0;
    child = some_member c.args.c.now.children.bits (λ z. absurd (let e = eq-eqb c.args.c.now.children.bits 0 z in let f = not_true _ t in cc)) (omega arith);
    below = c.covers-low.ensures.0 c.if-joined.true.1;
    joined = c.are_joined-joined.ensures.0 c.if-joined.true.2;
  },
  λ s. elim (cases_eq c.args.c.now.children.bits 0) [
    | inl z ↦ absurd (let e : has c.args.c.now.children.bits s.child.0 ≡ false = rw z (has-zero s.child.0) in let i = s.child.1 in cc)
    | inr d ↦ ap not (ne_eqb c.args.c.now.children.bits 0 d)
  ],
)
