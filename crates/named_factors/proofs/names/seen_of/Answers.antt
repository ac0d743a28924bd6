use Rattle.std.proofs.Common.{◌+◌, ◌∙◌, ◌||◌, ap, sym, subst, arith}
use Rattle.mixed_graph.specs.Vocabulary.{has}
use Rattle.mixed_graph.specs.declared.sets.VSet.{VSet}
use Rattle.treated_models.specs.Vocabulary.{primed_in}
use Rattle.named_factors.proofs.Seeing.{HasBelow, seen_none, seen_more, seen_skip, seen_all, primed_low}
use Rattle.named_factors.proofs.names.seen_of.Goals as goal
use Rattle.named_factors.proofs.names.seen_of.Goals.{then-is_seen, else-is_seen}

pub loop-v-init : goal.loop-v-init
loop-v-init c = seen_none (primed_in c.args.n c.args.x.bits (has c.args.names.bits))

pub loop-v-preserved : goal.loop-v-preserved
loop-v-preserved c =
    let P = primed_in c.args.n c.args.x.bits (has c.args.names.bits) in let v = c.loop-v.v in let made = c.loop-v.seen.bits in
    elim c.if-is_seen.branch [
      | then-is_seen w ↦ subst (λ (s : VSet). HasBelow P s.bits (v + 1)) (sym w.seen-is)
          (seen_more P made w.union-seen.result.bits v c.loop-v.invariant (sym c.is_seen.ensures ∙ w.if-is_seen.true)
          (λ u. w.union-seen.ensures.members u ∙ ap (λ b. has made u || b) (w.one.ensures.members u)))
      | else-is_seen w ↦ subst (λ (s : VSet). HasBelow P s.bits (v + 1)) (sym w.seen-is)
          (seen_skip P made v c.loop-v.invariant (sym c.is_seen.ensures ∙ w.if-is_seen.false))
    ]

pub returns : goal.returns
returns c = seen_all (primed_in c.args.n c.args.x.bits (has c.args.names.bits)) c.loop-v.seen.bits c.loop-v.v
    (λ u e. let low = primed_low c.args.n c.args.x.bits (has c.args.names.bits) u c.requires.within e in
    omega (arith, low, c.requires.few, c.loop-v-test.false)) c.loop-v.invariant
