use Rattle.std.proofs.Common.{◌≡◌, drop, map}
use Rattle.answer_json.specs.Vocabulary.{with_values}
use Rattle.steps_command.specs.Objects.{part_json}
use Rattle.steps_command.proofs.objects.push_parts.Given as goal

abbrev pub invariant-loop-part : goal.invariant-loop-part
invariant-loop-part l =
    with_values (map (part_json l.names) (drop l.part-index l.parts)) l.object
    ≡ with_values (map (part_json l.names) l.parts) l.fn.object
