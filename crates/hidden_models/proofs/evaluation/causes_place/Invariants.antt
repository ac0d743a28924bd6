use Rattle.std.proofs.Common.{◌≡◌, ◌+◌, ◌*◌, get_or}
use Rattle.mixed_graph.specs.Vocabulary.{has}
use Rattle.finite_models.specs.Vocabulary.{radix, radix_range, children_of, values_of}
use Rattle.hidden_models.proofs.evaluation.causes_place.Given as goal

abbrev pub invariant-loop-j : goal.invariant-loop-j
invariant-loop-j l = l.place ≡ l.start * radix_range l.j (λ j. has (children_of l.m.causes.items j) l.v) (values_of l.m.causes.items)
    + radix l.j (λ j. has (children_of l.m.causes.items j) l.v) (values_of l.m.causes.items) (λ j. get_or l.world j 0)
