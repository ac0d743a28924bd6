use Rattle.std.proofs.Common.{◌≡◌, drop, map}
use Rattle.answer_json.specs.Vocabulary.{with_values}
use Rattle.hedge_json.specs.Models.{cause_term}
use Rattle.hedge_json.proofs.parts.push_cause_terms.Given as goal

abbrev pub invariant-loop-j : goal.invariant-loop-j
invariant-loop-j l = with_values (map cause_term (drop l.j-index l.causes)) l.object ≡ with_values (map cause_term l.causes) l.fn.object
