-- Values of causes and of hidden vertices.
use Rattle.std.specs.Prelude.{ℕ, ◌≡◌, Bool, not, List, length, slice_index}
use Rattle.finite_models.specs.Vocabulary.{FiniteModel, IsAssignment, solution, intervene, values_of}
use Rattle.finite_models.specs.declared.model.Cause.{Cause}

-- a value of each cause
pub record IsWorldOf (causes : List Cause) (world : List ℕ) : Type 0 where
  pub long : length world ≡ length causes
  pub below : IsAssignment (length causes) (values_of causes) (λ j. slice_index world j)

-- the values of all vertices where the observed ones have the values of s: the hidden mechanisms are evaluated
abbrev pub filled : FiniteModel → (ℕ → Bool) → (ℕ → ℕ) → (ℕ → ℕ) → ℕ → ℕ
filled m l s u = solution (intervene m (λ v. not (l v)) s) u
