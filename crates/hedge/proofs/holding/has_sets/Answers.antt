use Rattle.std.proofs.Common.{◌≡◌, false, inl, inr, ap, not, arith}
use Rattle.std.proofs.lemmas.Bool.{cases_eq, eq-eqb, ne_eqb}
use Rattle.mixed_graph.specs.Vocabulary.{has}
use Rattle.mixed_graph.proofs.Masks.{has-zero, some_member}
use Rattle.hedge.proofs.Trees.{not_true}
use Rattle.hedge.proofs.holding.has_sets.Goals as goal

pub returns-then-roots_inside : goal.returns-then-roots_inside
returns-then-roots_inside c = (
  λ t. record {
    low = c.covers-low.ensures.0 c.if-roots_inside.true.0;
    small_inside = c.is_inside-small_inside.ensures.0 c.if-roots_inside.true.1;
    roots_inside = c.is_inside-roots_inside.ensures.0 c.if-roots_inside.true.2;
    rooted = some_member c.args.h.now.roots.bits (λ z. absurd (let e = eq-eqb c.args.h.now.roots.bits 0 z in let f = not_true _ t in cc)) (omega arith);
  },
  λ s. elim (cases_eq c.args.h.now.roots.bits 0) [
    | inl z ↦ absurd (let e : has c.args.h.now.roots.bits s.rooted.0 ≡ false = rw z (has-zero s.rooted.0) in let i = s.rooted.1 in cc)
    | inr d ↦ ap not (ne_eqb c.args.h.now.roots.bits 0 d)
  ],
)
