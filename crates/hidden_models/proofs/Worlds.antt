-- Values of causes.
use Rattle.std.proofs.Common.{ℕ, ◌<◌, Bool, not, List, length, arith}
use Rattle.mixed_graph.specs.Vocabulary.{MixedGraph}
use Rattle.finite_models.specs.Vocabulary.{FiniteModel, Fits, IsAssignment, intervene, values_of}
use Rattle.finite_models.specs.declared.model.Cause.{Cause}
use Rattle.finite_models.proofs.Following.{follows_of, follows_intervene}
use Rattle.finite_models.proofs.Solutions.{solution_within}
use Rattle.hidden_models.specs.Values.{IsWorldOf, filled}

-- a cause with a value has some value
pub positive_of : (causes : List Cause) (world : List ℕ) → IsWorldOf causes world → (j : ℕ) → j < length causes → 0 < values_of causes j
positive_of causes world is j lt = let b = is.below j lt in omega arith

-- values that are filled in are in range
pub filled_below : (g : MixedGraph) (m : FiniteModel) → Fits g m → (l : ℕ → Bool) (s u : ℕ → ℕ) → IsAssignment m.vertices m.size s
    → IsAssignment m.causes m.values u → (v : ℕ) → v < m.vertices → filled m l s u v < m.size v
filled_below g m fit l s u hs hu v lt = solution_within g (intervene m (λ v. not (l v)) s) (follows_intervene g m (λ v. not (l v)) s hs (follows_of g m fit))
    u hu v lt
