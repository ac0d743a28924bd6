use Rattle.std.proofs.Common.{◌≡◌, drop, map}
use Rattle.answer_json.specs.Vocabulary.{with_values}
use Rattle.instruments_command.specs.Objects.{candidate_json}
use Rattle.instruments_command.proofs.objects.push_all.Given as goal

abbrev pub invariant-loop-c : goal.invariant-loop-c
invariant-loop-c l = with_values (map (candidate_json l.names) (drop l.c-index l.list)) l.object ≡ with_values (map (candidate_json l.names) l.list) l.fn.object
