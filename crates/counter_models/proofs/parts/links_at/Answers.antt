use Rattle.std.proofs.Common.{suc, ◌∙◌, sym, ap, ◌&&◌, slice_index}
use Rattle.mixed_graph.specs.Vocabulary.{has}
use Rattle.counter_models.specs.Pairs.{is_linked}
use Rattle.counter_models.proofs.Lists.{members-none, members-more, members-skip}
use Rattle.counter_models.proofs.parts.links_at.Goals as goal
use Rattle.counter_models.proofs.parts.links_at.Goals.{then-is_link_at+in_ok-push, else-is_link_at}

pub loop-j-init : goal.loop-j-init
loop-j-init c = c.new-causes.ensures.items ∙ sym (members-none (λ j. is_linked c.args.h.now j c.args.v
    && has c.args.s.bits (slice_index c.args.h.now.links.found (suc j))))

pub loop-j-preserved : goal.loop-j-preserved
loop-j-preserved c = elim c.if-is_link_at.branch [
  | then-is_link_at+in_ok-push w ↦ members-more (λ j. is_linked c.args.h.now j c.args.v && has c.args.s.bits (slice_index c.args.h.now.links.found (suc j)))
      c.loop-j.j c.loop-j.causes.items c.if-is_link_at.causes.items
      c.loop-j.invariant (sym c.is_link_at.ensures ∙ w.if-is_link_at.true) (ap (λ q. q.items) w.causes-is ∙ w.in_ok-push.ensures.items)
  | else-is_link_at w ↦ rw w.causes-is (members-skip (λ j. is_linked c.args.h.now j c.args.v
      && has c.args.s.bits (slice_index c.args.h.now.links.found (suc j)))
      c.loop-j.j c.loop-j.causes.items
      c.loop-j.invariant (sym c.is_link_at.ensures ∙ w.if-is_link_at.false))
]
