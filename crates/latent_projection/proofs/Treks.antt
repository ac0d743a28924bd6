-- Latent directed paths and treks, which take the place of latent paths in the proofs.
use Rattle.std.proofs.Common.{ℕ, ◌≡◌, Bool, true, false, ◌&&◌, List, [], ◌∷◌, refl}
use Rattle.std.proofs.lemmas.Bool.{both_ways, and_parts}
use Rattle.mixed_graph.specs.Vocabulary.{MixedGraph, IsDirectedPath}
use Rattle.latent_projection.specs.Projection.{AreBefore}

-- no bit is both true and false
pub clash : {A : Type 0} (b : Bool) → b ≡ true → b ≡ false → A
clash b p q = absurd (both_ways b q p)

-- the first side of a true conjunction is true
pub left_true : (p q : Bool) → (p && q) ≡ true → p ≡ true
left_true p q e = (and_parts p q e).0

-- the second side of a true conjunction is true
pub right_true : (p q : Bool) → (p && q) ≡ true → q ≡ true
right_true p q e = (and_parts p q e).1

-- a directed path leads from c to v, and its vertices before v are in l
pub record Reaches (g : MixedGraph) (l : ℕ → Bool) (c v : ℕ) : Type 0 where
  pub path : List ℕ
  pub leads : IsDirectedPath g c path v
  pub before : AreBefore l c path

-- an arrow leads from a to a vertex that reaches b
pub record LeadsOn (g : MixedGraph) (l : ℕ → Bool) (a b : ℕ) : Type 0 where
  pub next : ℕ
  pub first : g.arrow a next ≡ true
  pub rest : Reaches g l next b

-- a <- .. <- c -> .. -> b or a <- .. <- c <-> d -> .. -> b, where the vertices between a and b are in l
pub data IsTrek (g : MixedGraph) (l : ℕ → Bool) (a b : ℕ) : Type 0 where
  fork : (c : ℕ) → l c ≡ true → Reaches g l c a → Reaches g l c b → IsTrek g l a b
  edge : (c d : ℕ) → g.both c d ≡ true → Reaches g l c a → Reaches g l d b → IsTrek g l a b

-- the edges of p are the latent directed paths and the treks of g
pub record ProjectsByTreks (g : MixedGraph) (l : ℕ → Bool) (p : MixedGraph) : Type 0 where
  pub vertices : p.vertices ≡ g.vertices
  pub led : (a b : ℕ) → p.arrow a b ≡ true → LeadsOn g l a b
  pub led_back : (a b : ℕ) → l a ≡ false → l b ≡ false → LeadsOn g l a b → p.arrow a b ≡ true
  pub trek : (a b : ℕ) → p.both a b ≡ true → IsTrek g l a b
  pub trek_back : (a b : ℕ) → l a ≡ false → l b ≡ false → (a ≡ b → ⊥) → IsTrek g l a b → p.both a b ≡ true
  pub apart : (a : ℕ) → p.both a a ≡ false
  pub tail_observed : (a b : ℕ) → p.arrow a b ≡ true → l a ≡ false
  pub head_observed : (a b : ℕ) → p.arrow a b ≡ true → l b ≡ false
  pub both_observed : (a b : ℕ) → p.both a b ≡ true → (l a ≡ false) × (l b ≡ false)

-- a vertex reaches itself, by the path of no arrows
pub here : (g : MixedGraph) (l : ℕ → Bool) (v : ℕ) → Reaches g l v v
here g l v = record { path = []; leads = refl; before = tt }

-- one more latent vertex in front
pub longer : (g : MixedGraph) (l : ℕ → Bool) (c d v : ℕ) → l c ≡ true → g.arrow c d ≡ true → Reaches g l d v → Reaches g l c v
longer g l c d v e a r = record { path = d ∷ r.path; leads = (a, r.leads); before = (e, r.before) }
