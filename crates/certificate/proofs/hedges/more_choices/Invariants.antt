use Rattle.std.proofs.Common.{◌≡◌, drop, replicate}
use Rattle.serde_json.specs.View.{items_view}
use Rattle.certificate.specs.HedgeReading.{more_choices}
use Rattle.certificate.proofs.hedges.more_choices.Given as goal

abbrev pub invariant-loop-count : goal.invariant-loop-count
invariant-loop-count l = more_choices l.names l.count l.choice.next (items_view (drop l.count l.ds))
    ≡ more_choices l.names 0 (replicate 64 64) (items_view l.ds)
