-- When two models can't be told apart by what is observed, or under an intervention.
use Rattle.std.specs.Prelude.{ℕ, ◌*◌, ◌≡◌, ◌<◌, Bool, true, false}
use Rattle.finite_models.specs.Models.{FiniteModel, IsAssignment, weight_of, total}

-- two models have equal sizes and, under an intervention on z, equal probabilities: at each assignment of all vertices the weights are in the ratio
-- of the totals
pub record AgreeUnder (z : ℕ → Bool) (m₁ m₂ : FiniteModel) : Type 0 where
  pub vertices : m₁.vertices ≡ m₂.vertices
  pub sizes : (v : ℕ) → v < m₁.vertices → m₁.size v ≡ m₂.size v
  pub weights : (s : ℕ → ℕ) → IsAssignment m₁.vertices m₁.size s → weight_of m₁ z (λ v. true) s * total m₂ ≡ weight_of m₂ z (λ v. true) s * total m₁

-- their observed probabilities are equal: those under no intervention
abbrev pub AgreeObserved : (m₁ m₂ : FiniteModel) → Type 0
AgreeObserved m₁ m₂ = AgreeUnder (λ v. false) m₁ m₂
