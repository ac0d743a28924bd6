use Rattle.std.proofs.Common.{◌≡◌, ◌-◌, get_or, length}
use Rattle.mixed_graph.specs.Vocabulary.{has}
use Rattle.finite_models.specs.Vocabulary.{values_of}
use Rattle.hidden_models.specs.Reaching.{mask_at}
use Rattle.hidden_models.proofs.Written.{AreWritten}
use Rattle.hidden_models.proofs.digits.cause_values.Given as goal

abbrev pub invariant-loop-i : goal.invariant-loop-i
invariant-loop-i l = record {
  long : length l.world.items ≡ length l.m.causes.items;
  written : AreWritten (length l.m.causes.items) (λ j. has (mask_at l.reached j) l.v) (values_of l.m.causes.items) l.number (λ j. get_or l.world.items j 0)
      l.rest (l.n - l.i);
}
