-- What the factors of the districts over experiments have to be, and where one stops.
use Rattle.std.specs.Prelude.{ℕ, ◌≡◌, ◌≤◌, ◌*◌, List, length, map}
use Rattle.mixed_graph.specs.Vocabulary.{MixedGraph}
use Rattle.prob_expr.specs.View.{view}
use Rattle.prob_expr.specs.Vocabulary.{views}
use Rattle.do_derivation.specs.Vocabulary.{lemma_view}
use Rattle.identify.specs.declared.answer.Stop.{Stop}
use Rattle.identify.specs.Vocabulary.{IsStopBy, lists_view}
use Rattle.identify.specs.declared.answer.Factors.{Factors}
use Rattle.surrogates.specs.Surrogates.{AreDerivedWith, StopsWith}

-- the factors of these districts over the experiments, with their definitions, at most 64 for each, and derivations
pub record AreFactorsWith (g : MixedGraph) (zs districts : List ℕ) (f : Factors) : Type 0 where
  pub derived : AreDerivedWith g zs 0 districts (map view f.defs.items) (views f.values.items) (map lemma_view f.lemmas.items) (lists_view f.lists.items)
  pub counted : length f.lists.items ≡ length districts
  pub few : length f.defs.items ≤ 64 * length districts

-- the first district all of whose tries stop, and where it does without experiment
abbrev pub IsStopWith : MixedGraph → (zs districts : List ℕ) → Stop → Type 0
IsStopWith g zs districts stop = IsStopBy (StopsWith g zs) districts stop
