-- Primed names: each treatment has a second name, for the value that was observed beside the one that is set (Pearl, Causality, chapter 7).
use Rattle.std.specs.Prelude.{ℕ, ◌+◌, ◌-◌, Bool, ◌&&◌, ◌||◌, nat_lt, if◌then◌else◌, length, get_or}
use Rattle.mixed_graph.specs.Vocabulary.{has, members_below, MixedGraph}
use Rattle.fractions.specs.Vocabulary.{IsEqual}
use Rattle.finite_models.specs.Vocabulary.{FiniteModel, Fits, IsAssignment, IsPositiveModel}
use Rattle.prob_expr.specs.Vocabulary.{PlainFormula, Weights, value_of}
use Rattle.treated_models.specs.Treated.{weight_of_both, effect_among}

-- how many names there are: a name for each of n vertices, and a primed name for each member of x
abbrev pub name_count : (n x : ℕ) → ℕ
name_count n x = n + length (members_below (has x) n)

-- the primed name of the member v of x: behind all vertices, in ascending order
abbrev pub prime_of : (n x v : ℕ) → ℕ
prime_of n x v = n + length (members_below (has x) v)

-- the vertex that a name is of
abbrev pub vertex_of : (n x k : ℕ) → ℕ
vertex_of n x k = if nat_lt k n then k else get_or (members_below (has x) n) (k - n) 0

-- the values as observed: those of x at their primed names
abbrev pub as_observed : (n x : ℕ) → (ℕ → ℕ) → ℕ → ℕ
as_observed n x s v = if has x v then s (prime_of n x v) else s v

-- the vertices whose own names are in a set of names
abbrev pub plain_in : (n : ℕ) → (ℕ → Bool) → ℕ → Bool
plain_in n a v = nat_lt v n && a v

-- the members of x whose primed names are
abbrev pub primed_in : (n x : ℕ) → (ℕ → Bool) → ℕ → Bool
primed_in n x a v = has x v && a (prime_of n x v)

-- the weights of a model over both kinds of names: own names are taken under the intervention, primed names without it
abbrev pub with_primes : FiniteModel → ℕ → Weights
with_primes m x = record {
  vertices = name_count m.vertices x;
  size = λ k. m.size (vertex_of m.vertices x k);
  weight = λ b a s. weight_of_both m b (plain_in m.vertices a) (primed_in m.vertices x a) s (as_observed m.vertices x s);
}

-- the formula has the value of P(y under do(x) | x and z as observed) in each positive model of the graph, at each assignment of values to names: x has
-- the values at its own names where it is set, and those at its primed names where it was observed
abbrev pub EqualsAmong : MixedGraph → (x y z : ℕ) → PlainFormula → Type 0
EqualsAmong g x y z f = (m : FiniteModel) → Fits g m → IsPositiveModel m → (s : ℕ → ℕ)
    → IsAssignment (with_primes m x).vertices (with_primes m x).size s
    → IsEqual (value_of (with_primes m x) f s) (effect_among m (has x) (has y) (λ v. has x v || has z v) s (as_observed m.vertices x s))
