-- The value of an expression at an assignment: in a model, or over any other weights of events.
use Rattle.std.specs.Prelude.{ℕ, zero, suc, Bool, ◌||◌, if◌then◌else◌, ◌==◌, List, [], ◌∷◌}
use Rattle.mixed_graph.specs.Vocabulary.{has, MixedGraph}
use Rattle.fractions.specs.Vocabulary.{Fraction, over, IsEqual, add_below, mul, div}
use Rattle.finite_models.specs.Vocabulary.{set_at, FiniteModel, Fits, IsAssignment, IsPositiveModel, weight_of, probability}
use Rattle.prob_expr.specs.Tree.{Tree, prob, sum, product, quotient, named, Trees, no_trees, tree, PlainFormula, PlainTarget}

-- the sum of f over all points that differ from b at most in the coordinates i below n with u i, such a coordinate ranging below s i
abbrev pub add_over : (ℕ → Bool) → (ℕ → ℕ) → ℕ → ((ℕ → ℕ) → Fraction) → (ℕ → ℕ) → Fraction
add_over u s zero f b = f b
add_over u s (suc n) f b = if u n then (add_below (s n) (λ x. add_over u s n f (set_at b n x))) else add_over u s n f b

-- What values are taken over: `weight b a s` is the weight of the event that the vertices of a have their values in s, where those of b are set to theirs.
pub record Weights : Type 0 where
  pub vertices : ℕ
  pub size : ℕ → ℕ
  pub weight : (ℕ → Bool) → (ℕ → Bool) → (ℕ → ℕ) → ℕ

-- those of a model
abbrev pub weights_of : FiniteModel → Weights
weights_of m = record { vertices = m.vertices; size = m.size; weight = weight_of m }

-- P(a | do(b), c) at s
abbrev pub term_value : Weights → (a b c : ℕ) → (ℕ → ℕ) → Fraction
term_value w a b c s = over (w.weight (has b) (λ v. has a v || has c v) s) (w.weight (has b) (has c) s)

abbrev mutual
  -- the value of a tree at s, where definition k has the value `q k`
  pub value : Weights → (ℕ → (ℕ → ℕ) → Fraction) → Tree → (ℕ → ℕ) → Fraction
  value w q (prob a b c) s = term_value w a b c s
  value w q (sum u e) s = add_over (has u) w.size w.vertices (value w q e) s
  value w q (product ts) s = product_value w q ts s
  value w q (quotient x y) s = div (value w q x s) (value w q y s)
  value w q (named k) s = q k s

  pub product_value : Weights → (ℕ → (ℕ → ℕ) → Fraction) → Trees → (ℕ → ℕ) → Fraction
  product_value w q no_trees s = over 1 1
  product_value w q (tree t ts) s = mul (value w q t s) (product_value w q ts s)

-- the values of the definitions from number k on, where those before it have the values q: each has its value from the earlier ones
abbrev pub values_from : Weights → (ℕ → (ℕ → ℕ) → Fraction) → ℕ → List Tree → ℕ → (ℕ → ℕ) → Fraction
values_from w q k [] = q
values_from w q k (d ∷ ds) = values_from w (λ j s. if j == k then value w q d s else q j s) (suc k) ds

-- the value of a formula; a number without a definition has the value 1
abbrev pub value_of : Weights → PlainFormula → (ℕ → ℕ) → Fraction
value_of w f = value w (values_from w (λ j s. over 1 1) 0 f.defs) f.main

-- the effect of a target: P(y | do(x), given) at s. Without a given its bottom is the weight of all worlds.
abbrev pub effect : FiniteModel → PlainTarget → (ℕ → ℕ) → Fraction
effect m t s = probability m (has t.x) (has t.y) (has t.given) s

-- the formula has the value of the effect in each positive model of the graph, at each assignment
abbrev pub EqualsEffect : MixedGraph → PlainTarget → PlainFormula → Type 0
EqualsEffect g t f = (m : FiniteModel) → Fits g m → IsPositiveModel m → (s : ℕ → ℕ) → IsAssignment m.vertices m.size s
    → IsEqual (value_of (weights_of m) f s) (effect m t s)
