use Rattle.std.proofs.Common.{◌≡◌, map, take}
use Rattle.answer_json.specs.Values.{vertex_json}
use Rattle.answer_json.specs.Progress.{items}
use Rattle.answer_json.proofs.object.Object.vertices.Given as goal

abbrev pub invariant-loop-v : goal.invariant-loop-v
invariant-loop-v l = l.self ≡ items l.fn.self (map (vertex_json l.names) (take l.v-index l.vertices))
