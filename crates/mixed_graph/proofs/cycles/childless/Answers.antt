use Rattle.std.proofs.Common.{◌≡◌, false, arith, sym, ◌∙◌, inl, inr, get_or, ap, ◌&&◌}
use Rattle.std.proofs.lemmas.Bool.{cases_lt}
use borrow.Author.Count.{below_more}
use Rattle.mixed_graph.specs.Bits.{has}
use Rattle.mixed_graph.proofs.Masks.{has-above, apart_from_meet, some_in_meet}
use Rattle.mixed_graph.proofs.cycles.childless.Goals as goal
use Rattle.mixed_graph.proofs.cycles.childless.Goals.{then-has+else-is_empty, else-has}

pub returns-then-is_empty-clause-found : goal.returns-then-is_empty-clause-found
returns-then-is_empty-clause-found c = (
  omega arith,
  sym c.has.ensures ∙ c.if-has.true,
  apart_from_meet c.intersection-within.result.bits (get_or c.args.children.now c.loop-v.v 0) c.args.set.bits
      (λ u. c.intersection-within.ensures.members u ∙ ap (λ m. has m u && has c.args.set.bits u) c.row.ensures) (c.is_empty.ensures.none.0 c.if-is_empty.true),
  c.loop-v.invariant,
)

pub loop-v-preserved : goal.loop-v-preserved
loop-v-preserved c = below_more _ _ c.loop-v.invariant (elim c.if-has.branch [
  | then-has+else-is_empty w ↦ λ _.
      let m = some_in_meet w.intersection-within.result.bits (get_or c.args.children.now c.loop-v.v 0) c.args.set.bits
      (λ u. w.intersection-within.ensures.members u ∙ ap (λ m. has m u && has c.args.set.bits u) w.row.ensures)
      (λ z. absurd (let t = w.is_empty.ensures.none.1 z in let f = w.if-is_empty.false in cc)) (omega arith) in
      (m.0, m.2, m.1)
  | else-has w ↦ λ h. absurd (let e = c.has.ensures in let f = w.if-has.false in cc)
])

pub returns-clause-none : goal.returns-clause-none
returns-clause-none c = λ v h. elim (cases_lt v 64) [
  | inl lt ↦ c.loop-v.invariant v (omega arith) h
  | inr ge ↦ absurd (let e : has c.args.set.bits v ≡ false = has-above c.args.set.bits v (omega arith) ge in cc)
]
