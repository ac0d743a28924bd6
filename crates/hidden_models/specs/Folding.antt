-- A model of a diagram with hidden vertices, and the models of its observed graph that give every observed probability the same value.
use Rattle.std.specs.Prelude.{ℕ, ◌*◌, ◌≡◌, ◌<◌, ◌≤◌, Bool, not, ◌&&◌, if◌then◌else◌, length, slice_index}
use Rattle.mixed_graph.specs.Vocabulary.{has, Apart}
use Rattle.fractions.specs.Vocabulary.{Fraction}
use Rattle.finite_models.specs.Vocabulary.{FiniteModel, IsAssignment, event_weight, weight_of, total, probability}
use Rattle.latent_projection.specs.Vocabulary.{observed_below, renumbered_set}
use Rattle.prob_expr.specs.Vocabulary.{PlainTarget, Weights, AreProportional}

-- the number of the observed vertex v among the observed ones: how many of them are below it
abbrev pub new_number : (ℕ → Bool) → ℕ → ℕ
new_number l v = length (observed_below l v)

-- the values of n vertices, as values of the observed ones in their new numbers
abbrev pub values_after : (ℕ → Bool) → ℕ → (ℕ → ℕ) → ℕ → ℕ
values_after l n s k = s (slice_index (observed_below l n) k)

-- the observed vertices whose new numbers are in the set
abbrev pub set_before : (ℕ → Bool) → (ℕ → Bool) → ℕ → Bool
set_before l a v = not (l v) && a (new_number l v)

-- values of the observed vertices in their old numbers, a hidden vertex having its first value
abbrev pub values_before : (ℕ → Bool) → (ℕ → ℕ) → ℕ → ℕ
values_before l s v = if not (l v) then s (new_number l v) else 0

-- m' has the observed vertices of m in their new numbers with the same sizes, and every event of observed vertices has, under every intervention on
-- observed vertices, the same probability in both.
pub record Folds (l : ℕ → Bool) (m m' : FiniteModel) : Type 0 where
  pub vertices : m'.vertices ≡ length (observed_below l m.vertices)
  pub sizes : (k : ℕ) → k < m'.vertices → m'.size k ≡ m.size (slice_index (observed_below l m.vertices) k)
  pub weights : (b a : ℕ → Bool) → Apart b l → Apart a l → (s : ℕ → ℕ) → IsAssignment m.vertices m.size s
      → weight_of m b a s * total m' ≡ weight_of m' (renumbered_set (observed_below l m.vertices) b) (renumbered_set (observed_below l m.vertices) a)
      (values_after l m.vertices s) * total m

-- each assignment of the observed vertices has weight at least 1
abbrev pub IsObservedPositive : (ℕ → Bool) → FiniteModel → Type 0
IsObservedPositive l m = (s : ℕ → ℕ) → IsAssignment m.vertices m.size s → 1 ≤ event_weight m (λ v. not (l v)) s

-- what the values of formulas over the observed vertices, in their new numbers, are taken over in a model of the diagram as drawn
abbrev pub drawn_weights : (ℕ → Bool) → FiniteModel → Weights
drawn_weights l m = record {
  vertices = length (observed_below l m.vertices);
  size = λ k. m.size (slice_index (observed_below l m.vertices) k);
  weight = λ b a s. weight_of m (set_before l b) (set_before l a) (values_before l s);
}

-- the effect of a target of observed vertices, in their new numbers, in a model of the diagram as drawn, at values of all its vertices
abbrev pub drawn_effect : (ℕ → Bool) → FiniteModel → PlainTarget → (ℕ → ℕ) → Fraction
drawn_effect l m t s = probability m (set_before l (has t.x)) (set_before l (has t.y)) (set_before l (has t.given)) s

-- the model's observed weights, the vertices in their new numbers, are those of w, whose total is `all`, up to one factor
abbrev pub IsMatchedAsDrawn : (l used : ℕ → Bool) → Weights → ℕ → FiniteModel → Type 0
IsMatchedAsDrawn l used w all m = AreProportional used w all (drawn_weights l m) (total m)
