use Rattle.std.proofs.Common.{sym, subst}
use Rattle.mixed_graph.specs.Vocabulary.{has}
use Rattle.minimal_sets.specs.Progress.{IsSoFar}
use Rattle.minimal_sets.specs.Rows.{is_near}
use Rattle.minimal_sets.proofs.separators.listing.turn.Goals as goal

pub returns-clause-listed : goal.returns-clause-listed
returns-clause-listed g c = subst
    (λ t. IsSoFar (is_near c.args.p.now.near) (has c.args.p.now.allowed.bits) (has c.args.p.now.x.bits) (has c.args.p.now.y.bits) t c.spread.new.todo.items)
    (sym c.in_ok-push.ensures.items) (c.in_ok-spread.ensures.listed c.args.sets.now.items c.requires.work)
