use Rattle.std.proofs.Common.{◌≡◌, ◌++◌, drop}
use Rattle.std.specs.List.{flat_map}
use Rattle.steps_command.specs.Texts.{move_line}
use Rattle.steps_command.proofs.texts.push_moves.Given as goal

abbrev pub invariant-loop-made : goal.invariant-loop-made
invariant-loop-made l = record {
  told : l.out.items ++ flat_map (move_line l.names) (drop l.made-index l.moves) ≡ l.fn.out.items ++ flat_map (move_line l.names) l.moves;
}
