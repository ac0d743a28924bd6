use Rattle.std.proofs.Common.{◌≡◌, drop, map}
use Rattle.answer_json.specs.Vocabulary.{with_values}
use Rattle.implications_command.specs.Objects.{measured_json}
use Rattle.implications_command.proofs.objects.push_all.Given as goal

abbrev pub invariant-loop-m : goal.invariant-loop-m
invariant-loop-m l = with_values (map (measured_json l.names l.counts) (drop l.m-index l.measured)) l.object
    ≡ with_values (map (measured_json l.names l.counts) l.measured) l.fn.object
