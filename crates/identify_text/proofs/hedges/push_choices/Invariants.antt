use Rattle.std.proofs.Common.{◌≡◌, ◌++◌}
use Rattle.std.specs.List.{flat_map}
use Rattle.mixed_graph.specs.Vocabulary.{members_below}
use Rattle.identify_text.specs.HedgeLines.{chooses, choice_line}
use Rattle.identify_text.proofs.hedges.push_choices.Given as goal

abbrev pub invariant-loop-v : goal.invariant-loop-v
invariant-loop-v l = l.out.items ≡ l.fn.out.items ++ flat_map (choice_line l.names l.h) (members_below (chooses l.h) l.v)
