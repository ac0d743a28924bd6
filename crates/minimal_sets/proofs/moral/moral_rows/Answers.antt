use Rattle.std.proofs.Common.{◌≡◌, false, get_or, length-set, sym, ap, ◌∙◌, arith, inl, inr}
use Rattle.std.proofs.lemmas.Bool.{cases_eq, cases_lt}
use Rattle.std.proofs.lemmas.List.{get_or-set_same, get_or-set_other, get_or_past}
use Rattle.mixed_graph.specs.Vocabulary.{has, graph_of}
use Rattle.mixed_graph.proofs.Masks.{below_64, has-zero}
use Rattle.minimal_sets.proofs.Meetings.{meets_inside}
use Rattle.minimal_sets.proofs.moral.moral_rows.Goals as goal

pub rows-preserved : goal.rows-preserved
rows-preserved c = (
  simp length-set c.rows.invariant.0,
  λ a b h. elim (cases_eq a c.rows.u) [
    | inl e ↦ rw e (let k = ap (λ m. has m b) (get_or-set_same c.rows.near c.rows.u c.meeting.result.bits 0 (omega (arith, c.rows.invariant.0))) in
        ((λ i. (c.meeting.ensures b).0 (sym k ∙ i)), (λ m. k ∙ (c.meeting.ensures b).1 m)))
    | inr d ↦ let k = ap (λ m. has m b) (get_or-set_other c.rows.near c.rows.u a c.meeting.result.bits 0 d) in let i = c.rows.invariant.1 a b (omega arith) in
        ((λ j. i.0 (sym k ∙ j)), (λ m. k ∙ i.1 m))
  ],
)

pub returns : goal.returns
returns c = record {
  sound = λ u v e. elim (cases_lt u 64) [
    | inl l ↦ (c.rows.invariant.1 u v (let f = c.rows-test.false in omega arith)).0 e
    | inr ge ↦ absurd (let z : has (get_or c.rows.near u 0) v ≡ false =
        ap (λ m. has m v) (get_or_past c.rows.near u 0 (let n = c.rows.invariant.0 in omega arith)) ∙ has-zero v in grind (arith, z, e))
  ];
  complete = λ u v m. (c.rows.invariant.1 u v (let l = below_64 c.args.within.bits u (omega arith)
      (meets_inside (graph_of c.args.g.now) (has c.args.within.bits) u v m) in let f = c.rows-test.false in omega arith)).1 m;
}
