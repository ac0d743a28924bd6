use Rattle.std.proofs.Common.{◌+◌}
use Rattle.bound_values.proofs.comparing.+is_at_most.Given as goal

abbrev pub decreases-is_at_most : goal.decreases-is_at_most
decreases-is_at_most l = l.b + l.d
