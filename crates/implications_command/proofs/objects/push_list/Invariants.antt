use Rattle.std.proofs.Common.{◌≡◌, drop, map}
use Rattle.answer_json.specs.Vocabulary.{with_values}
use Rattle.implications_command.specs.Objects.{pair_json}
use Rattle.implications_command.proofs.objects.push_list.Given as goal

abbrev pub invariant-loop-i : goal.invariant-loop-i
invariant-loop-i l = with_values (map (pair_json l.names) (drop l.i-index l.list)) l.object ≡ with_values (map (pair_json l.names) l.list) l.fn.object
