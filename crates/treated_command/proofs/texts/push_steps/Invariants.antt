use Rattle.std.proofs.Common.{◌≡◌, ◌++◌, take}
use Rattle.std.specs.List.{flat_map}
use Rattle.treated_command.specs.Sentences.{step_text}
use Rattle.treated_command.proofs.texts.push_steps.Given as goal

abbrev pub invariant-loop-v : goal.invariant-loop-v
invariant-loop-v l = l.out.items ≡ l.fn.out.items ++ flat_map (step_text l.names) (take l.v-index l.path)
