use Rattle.std.proofs.Common.{◌≡◌, drop, map}
use Rattle.answer_json.specs.Vocabulary.{with_values}
use Rattle.steps_command.specs.Objects.{move_json}
use Rattle.steps_command.proofs.objects.push_moves.Given as goal

abbrev pub invariant-loop-made : goal.invariant-loop-made
invariant-loop-made l =
    with_values (map (move_json l.names) (drop l.made-index l.moves)) l.object
    ≡ with_values (map (move_json l.names) l.moves) l.fn.object
