use Rattle.std.proofs.Common.{◌≡◌, map, take}
use Rattle.std.specs.Prelude.{decimal}
use Rattle.json.specs.Json.{number}
use Rattle.answer_json.specs.Progress.{items}
use Rattle.answer_json.proofs.object.Object.numbers.Given as goal

abbrev pub invariant-loop-byte : goal.invariant-loop-byte
invariant-loop-byte l = l.self ≡ items l.fn.self (map (λ b. number (decimal b)) (take l.byte-index l.bytes))
