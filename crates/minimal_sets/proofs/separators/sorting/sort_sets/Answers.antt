use Rattle.std.proofs.Common.{rules}
use Rattle.minimal_sets.proofs.Ordered.{sorted_sets}
use Rattle.minimal_sets.proofs.separators.sorting.sort_sets.Goals as goal

pub returns-clause-sorted : goal.returns-clause-sorted
returns-clause-sorted c = sorted_sets _ _ c.sort_unstable_by.ensures.sorted (λ a r q k. search rules) c.requires.other c.sort_unstable_by.ensures.permutation
