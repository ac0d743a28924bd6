use Rattle.std.proofs.Common.{length}
use Rattle.held_steps.proofs.held.+placed.Given as goal

abbrev pub decreases-placed : goal.decreases-placed
decreases-placed l = length l.place.now
