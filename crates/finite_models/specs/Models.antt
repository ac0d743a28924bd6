-- Finite causal models with hidden causes of whole-number weights (Pearl, Causality, chapters 1 and 3).
use Rattle.std.specs.Prelude.{ℕ, zero, suc, ◌≡◌, ◌≢◌, ◌<◌, ◌≤◌, Bool, true, if◌then◌else◌, ◌==◌, ◌&&◌, ◌||◌, not, IsTrue}
use Rattle.mixed_graph.specs.Vocabulary.{MixedGraph}
use Rattle.fractions.specs.Vocabulary.{Fraction, over}
use Rattle.finite_models.specs.Sums.{sum_below, product_below, sum_over, all_below}

-- Vertex v has the values below `size v`. Hidden cause j has the values below `values j`, value i with the weight `weight j i`, and serves the
-- vertices v with `serves j v`, its children.
-- `mechanism v s u` is the value of v where the vertices have the values s and the hidden causes the values u.
pub record FiniteModel : Type 0 where
  pub vertices : ℕ
  pub size : ℕ → ℕ
  pub causes : ℕ
  pub values : ℕ → ℕ
  pub weight : ℕ → ℕ → ℕ
  pub serves : ℕ → ℕ → Bool
  pub mechanism : ℕ → (ℕ → ℕ) → (ℕ → ℕ) → ℕ

-- one value for each of n things, each below the size of its thing
abbrev pub IsAssignment : ℕ → (ℕ → ℕ) → (ℕ → ℕ) → Type 0
IsAssignment n size s = (v : ℕ) → v < n → s v < size v

-- a world is one value for each hidden cause
abbrev pub IsWorld : FiniteModel → (ℕ → ℕ) → Type 0
IsWorld m u = IsAssignment m.causes m.values u

-- the model fits the graph
pub record Fits (g : MixedGraph) (m : FiniteModel) : Type 0 where
  pub vertices : m.vertices ≡ g.vertices
  -- each vertex has a value
  pub positive_size : (v : ℕ) → v < m.vertices → 0 < m.size v
  -- the weights of each cause have a positive sum
  pub positive_weight : (j : ℕ) → j < m.causes → 1 ≤ sum_below (m.values j) (m.weight j)
  -- each cause has a child, its children are vertices, and any two of them are joined by a bidirected edge
  pub some_child : (j : ℕ) → j < m.causes → (v : ℕ) × IsTrue (m.serves j v)
  pub child_below : (j v : ℕ) → j < m.causes → IsTrue (m.serves j v) → v < m.vertices
  pub joined : (j u v : ℕ) → j < m.causes → IsTrue (m.serves j u) → IsTrue (m.serves j v) → u ≢ v → IsTrue (g.both u v)
  -- a mechanism reads its vertex's parents and its causes alone
  pub reads : (v : ℕ) → v < m.vertices → (s t u w : ℕ → ℕ) → ((p : ℕ) → IsTrue (g.arrow p v) → s p ≡ t p)
      → ((j : ℕ) → j < m.causes → IsTrue (m.serves j v) → u j ≡ w j) → m.mechanism v s u ≡ m.mechanism v t w
  -- and gives a value of its vertex
  pub below : (v : ℕ) → v < m.vertices → (s u : ℕ → ℕ) → IsAssignment m.vertices m.size s → IsWorld m u → m.mechanism v s u < m.size v

-- the weight of a world: the product of the weights of its values, 1 where there is no cause
abbrev pub world_weight : FiniteModel → (ℕ → ℕ) → ℕ
world_weight m u = product_below m.causes (λ j. m.weight j (u j))

-- the sum of f over all worlds
abbrev pub sum_worlds : FiniteModel → ((ℕ → ℕ) → ℕ) → ℕ
sum_worlds m f = sum_over (λ j. true) m.values m.causes f (λ j. 0)

-- how many worlds there are
abbrev pub world_count : FiniteModel → ℕ
world_count m = sum_worlds m (λ u. 1)

-- the sum of the weights of all worlds
abbrev pub total : FiniteModel → ℕ
total m = sum_worlds m (world_weight m)

-- the vertices have the values s in the world u: each has the value that its mechanism gives at s itself
abbrev pub IsSolution : FiniteModel → (ℕ → ℕ) → (ℕ → ℕ) → Type 0
IsSolution m u s = (v : ℕ) → v < m.vertices → s v ≡ m.mechanism v s u

-- the values after k rounds in which all mechanisms are evaluated, from the values 0
abbrev pub rounds : FiniteModel → ℕ → (ℕ → ℕ) → ℕ → ℕ
rounds m zero u v = 0
rounds m (suc k) u v = m.mechanism v (rounds m k u) u

-- the solution in the world u: the values after as many rounds as there are vertices, which are a solution and the only one, since the graph is acyclic
abbrev pub solution : FiniteModel → (ℕ → ℕ) → ℕ → ℕ
solution m u = rounds m m.vertices u

-- the first n values of s and t agree on the set a
abbrev pub agree : ℕ → (ℕ → Bool) → (ℕ → ℕ) → (ℕ → ℕ) → Bool
agree n a s t = all_below n (λ v. if a v then (s v == t v) else true)

-- the weight of the event that the vertices of a have the values s: the sum of the weights of the worlds whose solution agrees with s on a
abbrev pub event_weight : FiniteModel → (ℕ → Bool) → (ℕ → ℕ) → ℕ
event_weight m a s = sum_worlds m (λ u. if agree m.vertices a (solution m u) s then world_weight m u else 0)

-- the model under the intervention do(b) at s (Pearl's submodel): the vertices of b have the values s, and no cause serves them
abbrev pub intervene : FiniteModel → (ℕ → Bool) → (ℕ → ℕ) → FiniteModel
intervene m b s = record m { serves = λ j v. m.serves j v && not (b v); mechanism = λ v t u. if b v then s v else m.mechanism v t u }

-- the weight of the event a under do(b), both at s
abbrev pub weight_of : FiniteModel → (ℕ → Bool) → (ℕ → Bool) → (ℕ → ℕ) → ℕ
weight_of m b a s = event_weight (intervene m b s) a s

-- P(a | do(b), c) at s
abbrev pub probability : FiniteModel → (b a c : ℕ → Bool) → (ℕ → ℕ) → Fraction
probability m b a c s = over (weight_of m b (λ v. a v || c v) s) (weight_of m b c s)

-- each assignment of all vertices has weight at least 1
abbrev pub IsPositiveModel : FiniteModel → Type 0
IsPositiveModel m = (s : ℕ → ℕ) → IsAssignment m.vertices m.size s → 1 ≤ event_weight m (λ v. true) s
