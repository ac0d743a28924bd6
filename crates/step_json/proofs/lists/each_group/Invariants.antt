use Rattle.std.proofs.Common.{◌≡◌, drop, []}
use Rattle.serde_json.specs.View.{items_view}
use Rattle.step_json.specs.View.{groups_view}
use Rattle.step_json.specs.Reading.{each, numbers_in}
use Rattle.step_json.proofs.lists.each_group.Given as goal

abbrev pub invariant-loop-d : goal.invariant-loop-d
invariant-loop-d l = each numbers_in (groups_view l.all.items) (items_view (drop l.d-index l.ds)) ≡ each numbers_in [] (items_view l.ds)
