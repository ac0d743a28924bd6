use Rattle.differences.proofs.MinusLaws.{minus_undone, minus_equal, equal_at_most}
use Rattle.differences.proofs.laws.Goals as goal

pub returns : goal.returns
returns c = record { undone = minus_undone; equal = minus_equal; at_most = equal_at_most }
