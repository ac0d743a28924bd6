-- The largest differences of pairs.
use Rattle.std.specs.Prelude.{◌≡◌, List, Option, All, map, option_map}
use Rattle.std.specs.List.{find}
use Rattle.mixed_graph.specs.Vocabulary.{MixedGraph}
use Rattle.count_rows.specs.Vocabulary.{Table}
use Rattle.implications.specs.declared.pairs.Implication.{Implication}
use Rattle.implied_differences.specs.Vocabulary.{IsLargest, IsZeroIfMatched}
use Rattle.broken_pairs.specs.Vocabulary.{is_apart}
use Rattle.implications_command.specs.declared.differences.Measured.{Measured}

-- these are the pairs, each with its largest difference, which is 0 in a model that has the counts
pub record AreMeasured (g : MixedGraph) (t : Table) (list : List Implication) (measured : List Measured) : Type 0 where
  pub pairs : map (λ m. m.pair) measured ≡ list
  pub largest : All (λ m. IsLargest t m.pair m.difference) measured
  pub matched : All (λ m. IsZeroIfMatched g t m.difference) measured

-- the first of the pairs whose difference isn't 0
abbrev pub first_broken : List Measured → Option Implication
first_broken measured = option_map (λ m. m.pair) (find (λ m. is_apart m.difference.value) measured)
