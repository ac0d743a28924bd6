use Rattle.std.proofs.Common.{◌≡◌, ◌^◌, drop}
use Rattle.do_derivation.specs.Vocabulary.{numbers_of}
use Rattle.certificate_json.specs.Vocabulary.{groups_below}
use Rattle.effect_answers.proofs.kept.groups_kept.Given as goal

abbrev pub invariant-loop-group : goal.invariant-loop-group
invariant-loop-group l = groups_below (2 ^ 32) (numbers_of (drop l.group-index l.list.items)) ≡ groups_below (2 ^ 32) (numbers_of l.list.items)
