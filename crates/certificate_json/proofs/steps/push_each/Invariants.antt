use Rattle.std.proofs.Common.{◌^◌, decimal, map}
use Rattle.json.specs.Json.{number}
use Rattle.certificate_json.specs.StepSizes.{are_below}
use Rattle.certificate_json.proofs.Keeping.{IsOnTheWay}
use Rattle.certificate_json.proofs.steps.push_each.Given as goal

abbrev pub invariant-loop-k : goal.invariant-loop-k
invariant-loop-k l = IsOnTheWay (map (λ n. number (decimal n))) (are_below (2 ^ 32)) l.list.items l.k-index l.fn.object l.object
