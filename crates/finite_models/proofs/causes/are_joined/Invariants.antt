use Rattle.std.proofs.Common.{◌≡◌, ℕ, ◌<◌, IsTrue}
use Rattle.mixed_graph.specs.Vocabulary.{has, graph_of}
use Rattle.finite_models.proofs.causes.are_joined.Given as goal

abbrev pub invariant-loop-v : goal.invariant-loop-v
invariant-loop-v l = (v : ℕ) → v < l.v → IsTrue (has l.children.bits v) → (u : ℕ) → IsTrue (has l.children.bits u) → (u ≡ v → ⊥)
    → IsTrue ((graph_of l.g).both v u)
