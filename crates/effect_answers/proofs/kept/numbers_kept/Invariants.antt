use Rattle.std.proofs.Common.{◌≡◌, ◌^◌, drop}
use Rattle.certificate_json.specs.Vocabulary.{are_below}
use Rattle.effect_answers.proofs.kept.numbers_kept.Given as goal

abbrev pub invariant-loop-k : goal.invariant-loop-k
invariant-loop-k l = are_below (2 ^ 32) (drop l.k-index l.list.items) ≡ are_below (2 ^ 32) l.list.items
