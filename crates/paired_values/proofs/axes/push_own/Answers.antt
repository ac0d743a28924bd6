use Rattle.std.proofs.Common.{◌∙◌, ℕ, sym, ap}
use Rattle.std.specs.Global.{Vec}
use Rattle.mixed_graph.specs.Vocabulary.{has}
use Rattle.paired_values.specs.declared.axes.Axis.{Axis}
use Rattle.paired_values.proofs.AxisLists.{entries_begun, entries_more, entries_same}
use Rattle.paired_values.proofs.axes.push_own.Goals as goal
use Rattle.paired_values.proofs.axes.push_own.Goals.{then-has+in_ok-push, else-has}

own : ℕ → Axis
own v = record { vertex = v; name = v }

pub loop-v-init : goal.loop-v-init
unfolding own
loop-v-init c = entries_begun own (has c.args.set.bits) c.args.out.now.items

pub loop-v-preserved : goal.loop-v-preserved
unfolding own
loop-v-preserved c = elim c.if-has.branch [
  | then-has+in_ok-push w ↦
      entries_more own (has c.args.set.bits) c.loop-v.v c.args.out.now.items c.loop-v.out.items _ (sym c.has.ensures ∙ w.if-has.true) c.loop-v.invariant
      (ap (λ (x : Vec Axis). x.items) w.out-is ∙ w.in_ok-push.ensures.items)
  | else-has w ↦ ap (λ (x : Vec Axis). x.items) w.out-is
      ∙ entries_same own (has c.args.set.bits) c.loop-v.v c.args.out.now.items c.loop-v.out.items (sym c.has.ensures ∙ w.if-has.false) c.loop-v.invariant
]
