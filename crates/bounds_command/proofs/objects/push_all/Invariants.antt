use Rattle.std.proofs.Common.{◌≡◌, drop, map}
use Rattle.answer_json.specs.Vocabulary.{with_values}
use Rattle.bounds_command.specs.Objects.{bounds_json}
use Rattle.bounds_command.proofs.objects.push_all.Given as goal

abbrev pub invariant-loop-b : goal.invariant-loop-b
invariant-loop-b l = with_values (map (bounds_json l.names l.counts l.question) (drop l.b-index l.bounds)) l.object
    ≡ with_values (map (bounds_json l.names l.counts l.question) l.bounds) l.fn.object
