-- Children on shortest directed paths toward a set.
use Rattle.std.specs.Prelude.{◌≡◌, ℕ, ◌<◌, ◌≤◌, ◌⊎◌, Bool, false, List, IsTrue, length}
use Rattle.mixed_graph.specs.Vocabulary.{MixedGraph, IsDirectedPath, IsAncestor, induced}

-- `arrows` is the number of arrows of a shortest directed path from v to a member of s
pub record IsDistance (g : MixedGraph) (s : ℕ → Bool) (v arrows : ℕ) : Type 0 where
  pub path : List ℕ
  pub end : ℕ
  pub leads : IsDirectedPath g v path end
  pub inside : IsTrue (s end)
  pub long : length path ≡ arrows
  pub least : (other : List ℕ) (u : ℕ) → IsDirectedPath g v other u → IsTrue (s u) → arrows ≤ length other

-- c is the child of v of least distance to s, the lowest one among equals
pub record IsNearestChild (g : MixedGraph) (s : ℕ → Bool) (v c : ℕ) : Type 0 where
  pub arrow : IsTrue (g.arrow v c)
  pub arrows : ℕ
  pub distance : IsDistance g s c arrows
  pub nearest : (u further : ℕ) → IsTrue (g.arrow v u) → IsDistance g s u further → (arrows < further) ⊎ ((arrows ≡ further) × (c ≤ u))

-- v is a member of `within` outside `toward` with a directed path to it inside `within`
pub record Leads (g : MixedGraph) (within toward : ℕ → Bool) (v : ℕ) : Type 0 where
  pub member : IsTrue (within v)
  pub outside : toward v ≡ false
  pub reaches : IsAncestor (induced g within) toward v

-- where v leads to `toward`, c is its nearest child inside `within`; else c is 64, which is no vertex
abbrev pub IsChoiceOf : MixedGraph → (within toward : ℕ → Bool) → (v c : ℕ) → Type 0
IsChoiceOf g within toward v c = (Leads g within toward v × IsNearestChild (induced g within) toward v c) ⊎ ((Leads g within toward v → ⊥) × (c ≡ 64))
