-- The latent projection of a graph on its observed vertices (Verma and Pearl, 1990; Richardson, 2003).
use Rattle.std.specs.Prelude.{ℕ, ◌≡◌, ◌≢◌, ◌↔◌, Bool, false, ◌&&◌, List, [], ◌∷◌, IsTrue}
use Rattle.mixed_graph.specs.Vocabulary.{MixedGraph, IsDirectedPath}
use Rattle.m_separation.specs.Vocabulary.{Step, IsWalk, last, heads_first, heads_second, IsPath}

-- each vertex of the directed path from v by these vertices, but for the last one, is in l
abbrev pub AreBefore : (ℕ → Bool) → ℕ → List ℕ → Type 0
AreBefore l v [] = Unit {0}
AreBefore l v (x ∷ xs) = IsTrue (l v) × AreBefore l x xs

-- a directed path of at least two vertices leads from a to b, and its inner vertices are in l
pub record LeadsThrough (g : MixedGraph) (l : ℕ → Bool) (a b : ℕ) : Type 0 where
  pub next : ℕ
  pub rest : List ℕ
  pub path : IsDirectedPath g a (next ∷ rest) b
  pub latent : AreBefore l next rest

-- each vertex from v on that a later step leaves is in l and no collider; h says whether the walk came to v with an arrowhead at v
abbrev pub AreLatentFrom : (ℕ → Bool) → Bool → ℕ → List Step → Type 0
AreLatentFrom l h v [] = Unit {0}
AreLatentFrom l h v (s ∷ r) = IsTrue (l v) × ((h && heads_first s.mark) ≡ false) × AreLatentFrom l (heads_second s.mark) s.to r

-- the last step has an arrowhead at its end, or h where there is no step
abbrev pub ends_headed : Bool → List Step → Bool
ends_headed h [] = h
ends_headed h (s ∷ r) = ends_headed (heads_second s.mark) r

-- a path leads from a to b, repeats no vertex, has arrowheads at a and at b, and its inner vertices are in l and no colliders
pub record IsLatentPath (g : MixedGraph) (l : ℕ → Bool) (a b : ℕ) : Type 0 where
  pub first : Step
  pub rest : List Step
  pub walk : IsWalk g a (first ∷ rest)
  pub ends : last first.to rest ≡ b
  pub head_first : IsTrue (heads_first first.mark)
  pub head_last : IsTrue (ends_headed (heads_second first.mark) rest)
  pub latent : AreLatentFrom l (heads_second first.mark) first.to rest
  pub simple : IsPath a (first ∷ rest)

-- v has no edge
pub record IsIsolated (g : MixedGraph) (v : ℕ) : Type 0 where
  pub no_child : (u : ℕ) → g.arrow v u ≡ false
  pub no_parent : (u : ℕ) → g.arrow u v ≡ false
  pub no_spouse : (u : ℕ) → (g.both v u ≡ false) × (g.both u v ≡ false)

-- p is the latent projection of g, the members of l being latent; they stay as vertices without edges
pub record IsProjection (g : MixedGraph) (l : ℕ → Bool) (p : MixedGraph) : Type 0 where
  pub vertices : p.vertices ≡ g.vertices
  pub arrow : (a b : ℕ) → l a ≡ false → l b ≡ false → IsTrue (p.arrow a b) ↔ LeadsThrough g l a b
  pub both : (a b : ℕ) → l a ≡ false → l b ≡ false → IsTrue (p.both a b) ↔ ((a ≢ b) × IsLatentPath g l a b)
  pub isolated : (v : ℕ) → IsTrue (l v) → IsIsolated p v
