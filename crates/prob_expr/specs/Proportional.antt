-- Weights that are those of others up to one factor.
use Rattle.std.specs.Prelude.{ℕ, ◌*◌, ◌≡◌, ◌<◌, ◌≤◌, Bool, true, false}
use Rattle.finite_models.specs.Vocabulary.{IsAssignment}
use Rattle.prob_expr.specs.Values.{Weights}

-- the weights v of events of the used vertices are those of w up to one factor, the ratio of their totals
pub record AreProportional (used : ℕ → Bool) (w : Weights) (total_w : ℕ) (v : Weights) (total_v : ℕ) : Type 0 where
  pub vertices : w.vertices ≡ v.vertices
  pub sizes : (k : ℕ) → k < v.vertices → used k ≡ true → w.size k ≡ v.size k
  pub some : 1 ≤ total_w
  pub weights : (a : ℕ → Bool) → ((k : ℕ) → a k ≡ true → used k ≡ true) → (s : ℕ → ℕ) → IsAssignment v.vertices v.size s
      → v.weight (λ k. false) a s * total_w ≡ w.weight (λ k. false) a s * total_v
