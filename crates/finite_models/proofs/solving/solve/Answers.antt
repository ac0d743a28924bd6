use Rattle.std.proofs.Common.{◌≡◌, ℕ, ◌<◌, ◌∙◌, refl, sym, subst, length, get_or, arith}
use Rattle.std.proofs.lemmas.Bool.{cond-true, cond-false}
use Rattle.std.proofs.lemmas.List.{get_or-replicate, length-set}
use Rattle.mixed_graph.specs.Vocabulary.{has, graph_of}
use Rattle.finite_models.specs.Models.{intervene, solution}
use Rattle.finite_models.specs.Data.{meaning}
use Rattle.finite_models.specs.Worlds.{value_in_world}
use Rattle.finite_models.proofs.Agreeing.{solved_next, solved_below, taken_solved, kept_in_range}
use Rattle.finite_models.proofs.solving.solve.Goals as goal
use Rattle.finite_models.proofs.solving.solve.Goals.{then-has, else-has}

pub loop-i-init : goal.loop-i-init
loop-i-init c = record {
  entries = refl;
  in_range = λ p lt. (let l : p < 64 = (let k = c.args.g.now.small in omega arith) in
      rw (get_or-replicate {A = ℕ} 64 p 0 0 l) (c.requires.accepted.fits.positive_size p lt));
  solved = λ p taken. absurd (cc);
}

pub loop-i-preserved : goal.loop-i-preserved
loop-i-preserved c =
    let v : ℕ = get_or c.args.order.now.list c.loop-i.i 0 in
    let next = c.requires.order.next c.loop-i.i (omega arith) in
    let here : v < length c.loop-i.values = (let k = c.args.g.now.small in let b = next.below in let e = c.loop-i.invariant.entries in omega arith) in
    let value : c.if-has.value ≡ solution (intervene (meaning (graph_of c.args.g.now) c.args.m.now) (has c.args.do_set.bits) (λ q. get_or c.args.at.now q 0))
    (value_in_world c.args.m.now.causes.items c.args.world) v =
    (let n = solved_next (graph_of c.args.g.now) c.args.g.now.valid (meaning (graph_of c.args.g.now) c.args.m.now) c.requires.accepted.fits
    (has c.args.do_set.bits) (λ q. get_or c.args.at.now q 0) c.requires.in_range
    (value_in_world c.args.m.now.causes.items c.args.world) (λ p. get_or c.loop-i.values p 0) v next.below
    (λ p a. c.loop-i.invariant.solved p (next.parents p a)) in
    elim c.if-has.branch [
      | then-has w ↦ w.value-is ∙ sym (cond-true (has c.args.do_set.bits v) _ _ (sym c.has.ensures ∙ w.if-has.true)) ∙ n
      | else-has w ↦ w.value-is ∙ w.mechanism_value-value.ensures ∙ sym (cond-false (has c.args.do_set.bits v) _ _ (sym c.has.ensures ∙ w.if-has.false)) ∙ n
    ]) in
    record {
      entries = length-set c.loop-i.values v c.if-has.value ∙ c.loop-i.invariant.entries;
      in_range = kept_in_range c.loop-i.values c.args.m.now.sizes.items c.args.g.now.n v c.if-has.value
          (subst (λ x. x < get_or c.args.m.now.sizes.items v 0) (sym value)
          (solved_below (graph_of c.args.g.now) c.args.m.now c.requires.accepted.fits (has c.args.do_set.bits) (λ q. get_or c.args.at.now q 0)
          c.requires.in_range c.args.world v next.below))
          c.loop-i.invariant.in_range here;
      solved = taken_solved c.args.order.now.list c.loop-i.values c.loop-i.i c.if-has.value
          (solution (intervene (meaning (graph_of c.args.g.now) c.args.m.now) (has c.args.do_set.bits) (λ q. get_or c.args.at.now q 0))
          (value_in_world c.args.m.now.causes.items c.args.world)) here value c.loop-i.invariant.solved;
    }
