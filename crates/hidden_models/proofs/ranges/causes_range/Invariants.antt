use Rattle.std.proofs.Common.{◌≡◌, ◌*◌, length, min}
use Rattle.mixed_graph.specs.Vocabulary.{has}
use Rattle.finite_models.specs.Vocabulary.{radix_range, weights_of}
use Rattle.hidden_models.specs.Reaching.{mask_at}
use Rattle.hidden_models.proofs.ranges.causes_range.Given as goal

abbrev pub invariant-loop-j : goal.invariant-loop-j
invariant-loop-j l = l.range ≡ min (l.start * radix_range l.j (λ j. has (mask_at l.reached j) l.v) (λ j. length (weights_of l.m.causes.items j))) 1048577
