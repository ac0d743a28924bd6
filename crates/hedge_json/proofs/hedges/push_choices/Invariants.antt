use Rattle.std.proofs.Common.{◌≡◌, map}
use Rattle.mixed_graph.specs.Vocabulary.{members_below}
use Rattle.identify_text.specs.Vocabulary.{chooses}
use Rattle.answer_json.specs.Vocabulary.{with_values}
use Rattle.hedge_json.specs.Hedges.{choice_json}
use Rattle.hedge_json.proofs.hedges.push_choices.Given as goal

abbrev pub invariant-loop-v : goal.invariant-loop-v
invariant-loop-v l = l.object ≡ with_values (map (choice_json l.names l.h) (members_below (chooses l.h) l.v)) l.fn.object
