use Rattle.std.proofs.Common.{◌∙◌, ap₂, ◌||◌}
use Rattle.counter_models.proofs.Lists.{linking-more, joins-at}
use Rattle.counter_models.proofs.causes.link_causes.Goals as goal

pub loop-j-preserved : goal.loop-j-preserved
loop-j-preserved c = linking-more c.args.h.now c.loop-j.causes.items c.push.new.self.items
    (record { weights = c.in_ok-vec.field-0; children = c.union.result }) c.loop-j.j
    c.in_ok-push.ensures.items c.in_ok-vec.ensures.items
    (λ u. c.union.ensures.members u ∙ ap₂ (λ p q. p || q) (c.one-entry.ensures.members u) (c.one-partner.ensures.members u)
    ∙ joins-at c.args.h.now c.loop-j.j u) c.loop-j.invariant
