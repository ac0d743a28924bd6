use Rattle.adjusted_bounds.proofs.laws.Goals as goal
use Rattle.adjusted_bounds.proofs.Adjusted.{adjusted_bounds_hold}

pub returns : goal.returns
returns c = record { effect = adjusted_bounds_hold }
