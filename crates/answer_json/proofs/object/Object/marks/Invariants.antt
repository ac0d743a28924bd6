use Rattle.std.proofs.Common.{◌≡◌, map, take}
use Rattle.json.specs.Json.{string}
use Rattle.answer_json.specs.Values.{mark_word}
use Rattle.answer_json.specs.Progress.{items}
use Rattle.answer_json.proofs.object.Object.marks.Given as goal

abbrev pub invariant-loop-mark : goal.invariant-loop-mark
invariant-loop-mark l = l.self ≡ items l.fn.self (map (λ m. string (mark_word m)) (take l.mark-index l.marks))
