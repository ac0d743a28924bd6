use Rattle.std.proofs.Common.{◌≡◌, map, take}
use Rattle.answer_json.specs.Values.{text_json}
use Rattle.answer_json.specs.Progress.{items}
use Rattle.answer_json.proofs.object.Object.texts.Given as goal

abbrev pub invariant-loop-text : goal.invariant-loop-text
invariant-loop-text l = l.self ≡ items l.fn.self (map text_json (take l.text-index l.texts.items))
