use Rattle.std.proofs.Common.{◌≤◌, ◌-◌, length}
use Rattle.count_rows.specs.Quoted.{state_at}
use Rattle.count_rows.proofs.QuotedSteps.{AreRead}
use Rattle.count_rows.proofs.quoted.take_quoted.Given as goal

abbrev pub invariant-loop-at : goal.invariant-loop-at
invariant-loop-at l = record {
  within : l.at ≤ length l.text;
  read : AreRead l.text (state_at l.place) l.fields l.field.items l.at;
}

abbrev pub decreases-loop-at : goal.decreases-loop-at
decreases-loop-at l = length l.text - l.at
