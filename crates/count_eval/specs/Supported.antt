-- Whether a value has no denominator 0.
use Rattle.std.specs.Prelude.{ℕ, zero, suc, Bool, true, not, ◌&&◌, if◌then◌else◌, ◌==◌, List, [], ◌∷◌}
use Rattle.finite_models.specs.Vocabulary.{set_at, all_below}
use Rattle.mixed_graph.specs.Vocabulary.{has}
use Rattle.prob_expr.specs.Tree.{Tree, prob, sum, product, quotient, named, tree}
use Rattle.prob_expr.specs.Vocabulary.{Trees, no_trees, Weights, value}
use Rattle.fractions.specs.Vocabulary.{Fraction}

-- P holds at all points that differ from b at most in the coordinates i below n with U i, such a coordinate ranging below s i
abbrev pub all_over : (ℕ → Bool) → (ℕ → ℕ) → ℕ → ((ℕ → ℕ) → Bool) → (ℕ → ℕ) → Bool
all_over U s zero P b = P b
all_over U s (suc n) P b = if U n then (all_below (s n) (λ x. all_over U s n P (set_at b n x))) else all_over U s n P b

-- `q k` is the value of definition k, where it has one by `h k`
abbrev mutual
  pub has_value : Weights → (ℕ → (ℕ → ℕ) → Fraction) → (ℕ → (ℕ → ℕ) → Bool) → Tree → (ℕ → ℕ) → Bool
  has_value w q h (prob a b c) s = not (w.weight (has b) (has c) s == 0)
  has_value w q h (sum u e) s = all_over (has u) w.size w.vertices (has_value w q h e) s
  has_value w q h (product fs) s = have_values w q h fs s
  has_value w q h (quotient x y) s = has_value w q h x s && (has_value w q h y s && not ((value w q y s).top == 0))
  has_value w q h (named k) s = h k s

  pub have_values : Weights → (ℕ → (ℕ → ℕ) → Fraction) → (ℕ → (ℕ → ℕ) → Bool) → Trees → (ℕ → ℕ) → Bool
  have_values w q h no_trees s = true
  have_values w q h (tree e fs) s = has_value w q h e s && have_values w q h fs s

-- what is known of the definitions from number k on, those before it having the values q where h holds
abbrev pub supported_from : Weights → (ℕ → (ℕ → ℕ) → Fraction) → (ℕ → (ℕ → ℕ) → Bool) → ℕ → List Tree → ℕ → (ℕ → ℕ) → Bool
supported_from w q h k [] = h
supported_from w q h k (d ∷ ds) =
    supported_from w (λ j s. if j == k then value w q d s else q j s) (λ j s. if j == k then has_value w q h d s else h j s) (suc k) ds
