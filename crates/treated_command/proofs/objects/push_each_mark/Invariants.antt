use Rattle.std.proofs.Common.{◌≡◌, codes, drop, map}
use Rattle.json.specs.Json.{string}
use Rattle.answer_json.specs.Vocabulary.{with_values}
use Rattle.treated_command.proofs.objects.push_each_mark.Given as goal

abbrev pub invariant-loop : goal.invariant-loop
invariant-loop l = with_values (map (λ v. string (codes "<->")) (drop l.index l.path)) l.object
    ≡ with_values (map (λ v. string (codes "<->")) l.path) l.fn.object
