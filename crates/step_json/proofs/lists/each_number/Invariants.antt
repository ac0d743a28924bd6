use Rattle.std.proofs.Common.{◌≡◌, drop, []}
use Rattle.serde_json.specs.View.{items_view}
use Rattle.step_json.specs.Reading.{each, number_in}
use Rattle.step_json.proofs.lists.each_number.Given as goal

abbrev pub invariant-loop-d : goal.invariant-loop-d
invariant-loop-d l = each number_in l.all.items (items_view (drop l.d-index l.ds)) ≡ each number_in [] (items_view l.ds)
