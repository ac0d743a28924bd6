use Rattle.std.proofs.Common.{◌≡◌, ◌*◌, length, min}
use Rattle.mixed_graph.specs.Vocabulary.{has}
use Rattle.finite_models.specs.Tables.{radix_range}
use Rattle.finite_models.specs.Data.{children_of, weights_of}
use Rattle.finite_models.proofs.tables.causes_range.Given as goal

abbrev pub invariant-loop-j : goal.invariant-loop-j
invariant-loop-j l = l.range ≡ min (l.start * radix_range l.j (λ j. has (children_of l.m.causes.items j) l.v) (λ j. length (weights_of l.m.causes.items j)))
    l.cap
