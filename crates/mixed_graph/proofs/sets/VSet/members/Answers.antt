use Rattle.std.proofs.Common.{◌∙◌, sym, ap, List, ℕ, [], ◌∷◌, ◌++◌}
use Rattle.std.specs.Global.{Vec}
use Rattle.mixed_graph.specs.Bits.{has}
use Rattle.mixed_graph.proofs.MemberLists.{members-nil, members-in, members-out}
use Rattle.mixed_graph.proofs.sets.VSet.members.Goals as goal
use Rattle.mixed_graph.proofs.sets.VSet.members.Goals.{then-has+in_ok-push, else-has}

pub loop-v-init : goal.loop-v-init
loop-v-init c = c.new-list.ensures.items ∙ members-nil (has c.args.self.bits)

pub loop-v-preserved : goal.loop-v-preserved
loop-v-preserved c = elim c.if-has.branch [
  | then-has+in_ok-push w ↦
      ap (λ (x : Vec ℕ). x.items) w.list-is ∙ w.in_ok-push.ensures.items ∙ ap (λ (l : List ℕ). l ++ c.loop-v.v ∷ []) c.loop-v.invariant
      ∙ sym (members-in (has c.args.self.bits) c.loop-v.v (sym c.has.ensures ∙ w.if-has.true))
  | else-has w ↦ ap (λ (x : Vec ℕ). x.items) w.list-is ∙ c.loop-v.invariant
      ∙ sym (members-out (has c.args.self.bits) c.loop-v.v (sym c.has.ensures ∙ w.if-has.false))
]
