use Rattle.std.proofs.Common.{◌≡◌}
use Rattle.std.specs.List.{flat_map}
use Rattle.mixed_graph.specs.Vocabulary.{has, members_below}
use Rattle.evaluate_command.specs.Lines.{pinned_line}
use Rattle.evaluate_command.proofs.lines.pinned_lines.Given as goal

abbrev pub invariant-loop-v : goal.invariant-loop-v
invariant-loop-v l = l.text.items ≡ flat_map (pinned_line l.names l.counts) (members_below (has l.pinned.bits) l.v)
