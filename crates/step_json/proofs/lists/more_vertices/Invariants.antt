use Rattle.std.proofs.Common.{◌≡◌, ◌≤◌, drop, vec_len, []}
use Rattle.serde_json.specs.View.{items_view}
use Rattle.step_json.specs.Reading.{more_vertices}
use Rattle.step_json.proofs.lists.more_vertices.Given as goal

abbrev pub invariant-loop-d : goal.invariant-loop-d
invariant-loop-d l = (more_vertices l.names l.all.items (items_view (drop l.d-index l.ds)) ≡ more_vertices l.names [] (items_view l.ds)) × (vec_len l.all ≤ 64)
