use Rattle.std.proofs.Common.{◌≡◌, length}
use Rattle.held_steps.proofs.replaying.parts_of.Given as goal

abbrev pub invariant-loop-k : goal.invariant-loop-k
invariant-loop-k l = length l.parts.defs.items ≡ length l.parts.lemmas.items
