use Rattle.std.proofs.Common.{◌≡◌, drop}
use Rattle.serde_json.specs.View.{items_view}
use Rattle.step_json.specs.Reading.{more_of_set}
use Rattle.step_json.proofs.lists.more_of_set.Given as goal

abbrev pub invariant-loop-count : goal.invariant-loop-count
invariant-loop-count l = more_of_set l.names l.barred.bits l.count l.set.bits (items_view (drop l.count l.ds))
    ≡ more_of_set l.names l.barred.bits 0 0 (items_view l.ds)
