use Rattle.std.proofs.Common.{◌≡◌, ◌++◌, drop}
use Rattle.identify_text.specs.ModelLines.{weights_text}
use Rattle.identify_text.proofs.models.push_weights.Given as goal

abbrev pub invariant-loop-weight : goal.invariant-loop-weight
invariant-loop-weight l = l.out.items ++ weights_text (drop l.weight-index l.weights) ≡ l.fn.out.items ++ weights_text l.weights
