use Rattle.std.proofs.Common.{◌∙◌, sym, ap, List, ℕ, [], ◌∷◌, ◌++◌, append-nil, append_assoc}
use Rattle.std.specs.Global.{Vec}
use Rattle.mixed_graph.specs.Vocabulary.{has, members_below}
use Rattle.mixed_graph.proofs.MemberLists.{members-nil, members-in, members-out}
use Rattle.evaluate_command.proofs.cells.push_members.Goals as goal
use Rattle.evaluate_command.proofs.cells.push_members.Goals.{then-has+in_ok-push, else-has}

pub loop-v-init : goal.loop-v-init
loop-v-init c = sym (append-nil c.args.out.now.items) ∙ ap (λ (l : List ℕ). c.args.out.now.items ++ l) (members-nil (has c.args.set.bits))

pub loop-v-preserved : goal.loop-v-preserved
loop-v-preserved c = elim c.if-has.branch [
  | then-has+in_ok-push w ↦
      ap (λ (x : Vec ℕ). x.items) w.out-is ∙ w.in_ok-push.ensures.items ∙ ap (λ (l : List ℕ). l ++ c.loop-v.v ∷ []) c.loop-v.invariant
      ∙ append_assoc c.args.out.now.items (members_below (has c.args.set.bits) c.loop-v.v) (c.loop-v.v ∷ [])
      ∙ ap (λ (l : List ℕ). c.args.out.now.items ++ l) (sym (members-in (has c.args.set.bits) c.loop-v.v (sym c.has.ensures ∙ w.if-has.true)))
  | else-has w ↦ ap (λ (x : Vec ℕ). x.items) w.out-is ∙ c.loop-v.invariant
      ∙ ap (λ (l : List ℕ). c.args.out.now.items ++ l) (sym (members-out (has c.args.set.bits) c.loop-v.v (sym c.has.ensures ∙ w.if-has.false)))
]
