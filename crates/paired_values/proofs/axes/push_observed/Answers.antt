use Rattle.std.proofs.Common.{◌∙◌, ℕ, sym, ap, [], ◌∷◌, ◌++◌}
use Rattle.std.specs.Global.{Vec}
use Rattle.mixed_graph.specs.Vocabulary.{has}
use Rattle.treated_models.specs.Vocabulary.{prime_of}
use Rattle.paired_values.specs.declared.axes.Axis.{Axis}
use Rattle.paired_values.proofs.AxisLists.{entries_begun, entries_more, entries_same}
use Rattle.paired_values.proofs.axes.push_observed.Goals as goal
use Rattle.paired_values.proofs.axes.push_observed.Goals.{then-has+in_ok-push, else-has}

observed : (n x : ℕ) → ℕ → Axis
observed n x v = record { vertex = v; name = prime_of n x v }

pub loop-v-init : goal.loop-v-init
unfolding observed
loop-v-init c = entries_begun (observed c.args.n c.args.x.bits) (has c.args.x.bits) c.args.out.now.items

pub loop-v-preserved : goal.loop-v-preserved
unfolding observed
loop-v-preserved c = elim c.if-has.branch [
  | then-has+in_ok-push w ↦
      entries_more (observed c.args.n c.args.x.bits) (has c.args.x.bits) c.loop-v.v c.args.out.now.items c.loop-v.out.items _
      (sym c.has.ensures ∙ w.if-has.true) c.loop-v.invariant
      (ap (λ (x : Vec Axis). x.items) w.out-is ∙ w.in_ok-push.ensures.items
      ∙ ap (λ k. let a : Axis = record { vertex = c.loop-v.v; name = k } in c.loop-v.out.items ++ a ∷ []) w.prime_of-name.ensures)
  | else-has w ↦ ap (λ (x : Vec Axis). x.items) w.out-is
      ∙ entries_same (observed c.args.n c.args.x.bits) (has c.args.x.bits) c.loop-v.v c.args.out.now.items c.loop-v.out.items
      (sym c.has.ensures ∙ w.if-has.false) c.loop-v.invariant
]
