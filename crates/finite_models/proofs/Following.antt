-- What a model has of a graph apart from its causes' children and weights: an intervention keeps it.
use Rattle.std.proofs.Common.{ℕ, ◌≡◌, ◌≢◌, ◌<◌, Bool, true, false, cond, not, refl, ap, ◌&&◌}
use Rattle.std.proofs.lemmas.Bool.{and_from, not_from_false}
use mathlib.Core.Path.{fun_ext}
use Rattle.mixed_graph.specs.Vocabulary.{MixedGraph}
use Rattle.finite_models.specs.Models.{FiniteModel, Fits, IsAssignment, IsWorld, intervene}
use Rattle.finite_models.proofs.Bools.{and_first}

-- Fits without the conditions that each cause has a child and weights with a positive sum. The submodel of an intervention may have causes without a child.
pub record Follows (g : MixedGraph) (m : FiniteModel) : Type 0 where
  pub vertices : m.vertices ≡ g.vertices
  pub joined : (j u v : ℕ) → j < m.causes → m.serves j u ≡ true → m.serves j v ≡ true → u ≢ v → g.both u v ≡ true
  pub reads : (v : ℕ) → v < m.vertices → (s t u w : ℕ → ℕ) → ((p : ℕ) → g.arrow p v ≡ true → s p ≡ t p)
      → ((j : ℕ) → j < m.causes → m.serves j v ≡ true → u j ≡ w j) → m.mechanism v s u ≡ m.mechanism v t w
  pub below : (v : ℕ) → v < m.vertices → (s u : ℕ → ℕ) → IsAssignment m.vertices m.size s → IsWorld m u → m.mechanism v s u < m.size v
  pub positive_size : (v : ℕ) → v < m.vertices → 0 < m.size v

-- a model that fits the graph follows it
pub follows_of : (g : MixedGraph) (m : FiniteModel) → Fits g m → Follows g m
follows_of g m fit = record { vertices = fit.vertices; joined = fit.joined; reads = fit.reads; below = fit.below; positive_size = fit.positive_size }

-- the submodel reads no more than the model
pub follows_intervene : (g : MixedGraph) (m : FiniteModel) (b : ℕ → Bool) (s : ℕ → ℕ) → IsAssignment m.vertices m.size s → Follows g m
    → Follows g (intervene m b s)
follows_intervene g m b s within follows = record {
  vertices = follows.vertices;
  joined = λ j u v jl e f ne. follows.joined j u v jl (and_first (m.serves j u) (not (b u)) e) (and_first (m.serves j v) (not (b v)) f) ne;
  reads = λ v il x y u w hp hc. reads v il x y u w (b v) refl hp hc;
  below = λ v il x u hx hu. below v il (b v) (m.mechanism v x u) (follows.below v il x u hx hu);
  positive_size = follows.positive_size;
}
  where
    reads : (v : ℕ) → v < m.vertices → (x y u w : ℕ → ℕ) (c : Bool) → b v ≡ c → ((p : ℕ) → g.arrow p v ≡ true → x p ≡ y p)
        → ((j : ℕ) → j < m.causes → (m.serves j v && not (b v)) ≡ true → u j ≡ w j) → cond (b v) (s v) (m.mechanism v x u)
        ≡ cond (b v) (s v) (m.mechanism v y w)
    reads v il x y u w true e hp hc = rw e refl
    reads v il x y u w false e hp hc = rw e (follows.reads v il x y u w hp (λ j jl a. hc j jl (and_from (m.serves j v) (not (b v)) a (not_from_false (b v) e))))

    below : (v : ℕ) → v < m.vertices → (c : Bool) (x : ℕ) → x < m.size v → cond c (s v) x < m.size v
    below v il true x lt = within v il
    below v il false x lt = lt

-- an intervention reads the assignment on x alone
pub intervene_alike : (m : FiniteModel) (x : ℕ → Bool) (s t : ℕ → ℕ) → ((v : ℕ) → x v ≡ true → s v ≡ t v) → intervene m x s ≡ intervene m x t
intervene_alike m x s t h =
    ap (λ f. record m { serves = λ j v. m.serves j v && not (x v); mechanism = f }) (fun_ext (λ v. fun_ext (λ p. fun_ext (λ u. at v p u (x v) refl))))
  where
    at : (v : ℕ) (p u : ℕ → ℕ) (c : Bool) → x v ≡ c → cond (x v) (s v) (m.mechanism v p u) ≡ cond (x v) (t v) (m.mechanism v p u)
    at v p u true e = rw e (h v e)
    at v p u false e = rw e refl
