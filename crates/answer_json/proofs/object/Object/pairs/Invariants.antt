use Rattle.std.proofs.Common.{◌≡◌, map, take}
use Rattle.answer_json.specs.Values.{pair_json}
use Rattle.answer_json.specs.Progress.{items}
use Rattle.answer_json.proofs.object.Object.pairs.Given as goal

abbrev pub invariant-loop-pair : goal.invariant-loop-pair
invariant-loop-pair l = l.self ≡ items l.fn.self (map (pair_json l.names) (take l.pair-index l.pairs))
