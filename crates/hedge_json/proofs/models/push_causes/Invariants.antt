use Rattle.std.proofs.Common.{◌≡◌, drop, map}
use Rattle.answer_json.specs.Vocabulary.{with_values}
use Rattle.hedge_json.specs.Models.{cause_json}
use Rattle.hedge_json.proofs.models.push_causes.Given as goal

abbrev pub invariant-loop-cause : goal.invariant-loop-cause
invariant-loop-cause l =
    with_values (map (cause_json l.names) (drop l.cause-index l.causes)) l.object ≡ with_values (map (cause_json l.names) l.causes) l.fn.object
