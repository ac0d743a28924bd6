use Rattle.std.proofs.Common.{ℕ, ◌^◌, List, map}
use Rattle.std.specs.Global.{Vec}
use Rattle.do_derivation.specs.Vocabulary.{numbers_of}
use Rattle.certificate_json.specs.StepSizes.{groups_below}
use Rattle.certificate_json.specs.Steps.{numbers_json}
use Rattle.certificate_json.proofs.Keeping.{IsOnTheWay}
use Rattle.certificate_json.proofs.steps.push_groups.Given as goal

abbrev pub invariant-loop-group : goal.invariant-loop-group
invariant-loop-group l = IsOnTheWay (λ (groups : List (Vec ℕ)). map numbers_json (numbers_of groups)) (λ groups. groups_below (2 ^ 32) (numbers_of groups))
    l.list.items l.group-index l.fn.object l.object
