-- The value of a formula by the rule that a product with a factor 0 is 0 whatever its other factors are: also where these have no value.
use Rattle.std.specs.Prelude.{ℕ, suc, Bool, true, false, not, ◌&&◌, ◌||◌, if◌then◌else◌, ◌==◌, List, [], ◌∷◌}
use Rattle.mixed_graph.specs.Vocabulary.{has}
use Rattle.prob_expr.specs.Tree.{Tree, prob, sum, product, quotient, named, tree}
use Rattle.prob_expr.specs.Vocabulary.{Trees, no_trees, PlainFormula, Weights, term_value, add_over}
use Rattle.fractions.specs.Vocabulary.{Fraction, over, mul, div}
use Rattle.count_eval.specs.Supported.{all_over}

-- Definition k has the value `q k`, where it has one by `h k`.
abbrev mutual
  -- whether the tree has a value at s
  pub has_value_with_zeros : Weights → (ℕ → (ℕ → ℕ) → Fraction) → (ℕ → (ℕ → ℕ) → Bool) → Tree → (ℕ → ℕ) → Bool
  has_value_with_zeros w q h (prob a b c) s = not (w.weight (has b) (has c) s == 0)
  has_value_with_zeros w q h (sum u e) s = all_over (has u) w.size w.vertices (has_value_with_zeros w q h e) s
  has_value_with_zeros w q h (product fs) s = some_is_zero w q h fs s || have_values_with_zeros w q h fs s
  has_value_with_zeros w q h (quotient x y) s =
      has_value_with_zeros w q h x s && (has_value_with_zeros w q h y s && not ((value_with_zeros w q h y s).top == 0))
  has_value_with_zeros w q h (named k) s = h k s

  -- whether each factor has one
  pub have_values_with_zeros : Weights → (ℕ → (ℕ → ℕ) → Fraction) → (ℕ → (ℕ → ℕ) → Bool) → Trees → (ℕ → ℕ) → Bool
  have_values_with_zeros w q h no_trees s = true
  have_values_with_zeros w q h (tree e fs) s = has_value_with_zeros w q h e s && have_values_with_zeros w q h fs s

  -- whether some factor has the value 0
  pub some_is_zero : Weights → (ℕ → (ℕ → ℕ) → Fraction) → (ℕ → (ℕ → ℕ) → Bool) → Trees → (ℕ → ℕ) → Bool
  some_is_zero w q h no_trees s = false
  some_is_zero w q h (tree e fs) s = (has_value_with_zeros w q h e s && ((value_with_zeros w q h e s).top == 0)) || some_is_zero w q h fs s

  -- the value: of a product 0 where some factor is 0, and else that of all its factors
  pub value_with_zeros : Weights → (ℕ → (ℕ → ℕ) → Fraction) → (ℕ → (ℕ → ℕ) → Bool) → Tree → (ℕ → ℕ) → Fraction
  value_with_zeros w q h (prob a b c) s = term_value w a b c s
  value_with_zeros w q h (sum u e) s = add_over (has u) w.size w.vertices (value_with_zeros w q h e) s
  value_with_zeros w q h (product fs) s = if some_is_zero w q h fs s then over 0 1 else product_with_zeros w q h fs s
  value_with_zeros w q h (quotient x y) s = div (value_with_zeros w q h x s) (value_with_zeros w q h y s)
  value_with_zeros w q h (named k) s = q k s

  -- the product of the values of factors
  pub product_with_zeros : Weights → (ℕ → (ℕ → ℕ) → Fraction) → (ℕ → (ℕ → ℕ) → Bool) → Trees → (ℕ → ℕ) → Fraction
  product_with_zeros w q h no_trees s = over 1 1
  product_with_zeros w q h (tree e fs) s = mul (value_with_zeros w q h e s) (product_with_zeros w q h fs s)

-- where the definitions from number k on have values, those before it having the values q where h holds
abbrev pub supported_with_zeros : Weights → (ℕ → (ℕ → ℕ) → Fraction) → (ℕ → (ℕ → ℕ) → Bool) → ℕ → List Tree → ℕ → (ℕ → ℕ) → Bool
supported_with_zeros w q h k [] = h
supported_with_zeros w q h k (d ∷ ds) = supported_with_zeros w (λ j s. if j == k then value_with_zeros w q h d s else q j s)
    (λ j s. if j == k then has_value_with_zeros w q h d s else h j s) (suc k) ds

-- and these values
abbrev pub values_with_zeros : Weights → (ℕ → (ℕ → ℕ) → Fraction) → (ℕ → (ℕ → ℕ) → Bool) → ℕ → List Tree → ℕ → (ℕ → ℕ) → Fraction
values_with_zeros w q h k [] = q
values_with_zeros w q h k (d ∷ ds) = values_with_zeros w (λ j s. if j == k then value_with_zeros w q h d s else q j s)
    (λ j s. if j == k then has_value_with_zeros w q h d s else h j s) (suc k) ds

-- whether the formula has a value by the rule
abbrev pub is_supported_with_zeros : Weights → PlainFormula → (ℕ → ℕ) → Bool
is_supported_with_zeros w f = has_value_with_zeros w (values_with_zeros w (λ j s. over 1 1) (λ j s. true) 0 f.defs)
    (supported_with_zeros w (λ j s. over 1 1) (λ j s. true) 0 f.defs) f.main

-- its value by the rule
abbrev pub value_of_with_zeros : Weights → PlainFormula → (ℕ → ℕ) → Fraction
value_of_with_zeros w f = value_with_zeros w (values_with_zeros w (λ j s. over 1 1) (λ j s. true) 0 f.defs)
    (supported_with_zeros w (λ j s. over 1 1) (λ j s. true) 0 f.defs) f.main
