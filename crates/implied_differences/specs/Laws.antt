-- What the differences have to do with models.
use Rattle.std.specs.Prelude.{ℕ, ◌≡◌, ◌-◌, ◌^◌, IsTrue, pos, negsuc, ◌≤ℤ◌}
use Rattle.mixed_graph.specs.Vocabulary.{MixedGraph, IsMixedGraph}
use Rattle.finite_models.specs.Vocabulary.{FiniteModel, Fits, IsAssignment}
use Rattle.count_rows.specs.Vocabulary.{Table}
use Rattle.count_table.specs.Vocabulary.{total, AreCounts}
use Rattle.count_eval.specs.Vocabulary.{IsMatched, weights_in, is_used}
use Rattle.implications.specs.declared.pairs.Implication.{Implication}
use Rattle.implications.specs.Vocabulary.{IsImplication}
use Rattle.implied_differences.specs.Differences.{whole_of, difference}
use Rattle.implied_differences.specs.declared.largest.Difference.{Difference}

-- the model fits the graph, positive or not, and its observed weights are those of the counts, up to one factor
pub record IsMatchedBy (g : MixedGraph) (t : Table) (m : FiniteModel) : Type 0 where
  pub fits : Fits g m
  pub matched : IsMatched (is_used t) (weights_in g.vertices t) (total t.rows) m

-- in such a model each difference of each implication is 0
abbrev pub MatchedDifferencesVanish : Type 0
MatchedDifferencesVanish = (g : MixedGraph) → IsMixedGraph g → (i : Implication) → IsImplication g i → (t : Table)
    → ((v : ℕ) → IsTrue (whole_of i v) → IsTrue (is_used t v))
    → (m : FiniteModel) → IsMatchedBy g t m → (s : ℕ → ℕ) → IsAssignment m.vertices m.size s → difference t i s ≡ pos 0

-- the difference is 0 wherever a model that fits the graph, positive or not, has the counts: its observed weights are those of the counts, up to one factor
abbrev pub IsZeroIfMatched : MixedGraph → Table → Difference → Type 0
IsZeroIfMatched g t d = (m : FiniteModel) → IsMatchedBy g t m → d.value ≡ pos 0

-- so it is in each graph that has the implication
abbrev pub IsZeroWhereMatched : Table → Implication → Difference → Type 0
IsZeroWhereMatched t i d = (g : MixedGraph) → IsMixedGraph g → IsImplication g i → IsZeroIfMatched g t d

-- each difference is a number of 128 bits with a sign: from -2 ^ 127 up to 2 ^ 127 - 1
abbrev pub DifferencesFit : Type 0
DifferencesFit = (t : Table) → AreCounts t → (i : Implication) → (s : ℕ → ℕ) → (negsuc (2 ^ 127 - 1) ≤ℤ difference t i s)
    × (difference t i s ≤ℤ pos (2 ^ 127 - 1))
