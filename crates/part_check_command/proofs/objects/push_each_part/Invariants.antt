use Rattle.std.proofs.Common.{◌≡◌, drop, map}
use Rattle.answer_json.specs.Vocabulary.{with_values}
use Rattle.part_check_command.specs.Objects.{part_json}
use Rattle.part_check_command.proofs.objects.push_each_part.Given as goal

abbrev pub invariant-loop-part : goal.invariant-loop-part
invariant-loop-part l = with_values (map (part_json l.names) (drop l.part-index l.parts.items)) l.object
    ≡ with_values (map (part_json l.names) l.parts.items) l.fn.object
