-- Walks and separation in graphs with directed and bidirected edges (Pearl, Causality, chapter 1; Richardson).
use Rattle.std.specs.Prelude.{ℕ, ◌≡◌, ◌≢◌, ◌<◌, Bool, true, false, ◌==◌, List, [], ◌∷◌, IsTrue}
use Rattle.mixed_graph.specs.Vocabulary.{MixedGraph, IsAncestor}
use Rattle.m_separation.specs.declared.marks.Mark.{Mark}
use Rattle.m_separation.specs.declared.marks.Mark.TheVariants.{Out, Into, Both}

-- u and v are joined by that mark: u -> v, u <- v, u <-> v
abbrev pub IsJoined : MixedGraph → ℕ → Mark → ℕ → Type 0
IsJoined g u Out v = IsTrue (g.arrow u v)
IsJoined g u Into v = IsTrue (g.arrow v u)
IsJoined g u Both v = IsTrue (g.both u v)

-- one step of a walk: a mark, and the vertex that it leads to
pub record Step : Type 0 where
  pub mark : Mark
  pub to : ℕ

-- a walk from u by these steps
abbrev pub IsWalk : MixedGraph → ℕ → List Step → Type 0
IsWalk g u [] = Unit {0}
IsWalk g u (s ∷ r) = IsJoined g u s.mark s.to × IsWalk g s.to r

-- where a walk from u by these steps ends
abbrev pub last : ℕ → List Step → ℕ
last u [] = u
last u (s ∷ r) = last s.to r

-- the mark has an arrowhead at its second vertex
abbrev pub heads_second : Mark → Bool
heads_second Out = true
heads_second Into = false
heads_second Both = true

-- the mark has an arrowhead at its first vertex
abbrev pub heads_first : Mark → Bool
heads_first Out = false
heads_first Into = true
heads_first Both = true

-- an inner vertex v lets a walk pass given w. The two tests say whether the edge before v, and the one after it, has an arrowhead at v.
-- With both, v is a collider, and has to be an ancestor of a member of w. Else it has to be outside w.
abbrev pub IsPassed : MixedGraph → (ℕ → Bool) → ℕ → Bool → Bool → Type 0
IsPassed g w v true true = IsAncestor g w v
IsPassed g w v true false = w v ≡ false
IsPassed g w v false h = w v ≡ false

-- v and each later vertex that a step leaves lets the walk pass; h says whether the walk came to v with an arrowhead at v
abbrev pub ArePassedFrom : MixedGraph → (ℕ → Bool) → Bool → ℕ → List Step → Type 0
ArePassedFrom g w h v [] = Unit {0}
ArePassedFrom g w h v (s ∷ r) = IsPassed g w v h (heads_first s.mark) × ArePassedFrom g w (heads_second s.mark) s.to r

-- each inner vertex lets the walk pass
abbrev pub ArePassed : MixedGraph → (ℕ → Bool) → List Step → Type 0
ArePassed g w [] = Unit {0}
ArePassed g w (s ∷ r) = ArePassedFrom g w (heads_second s.mark) s.to r

-- the walk from the vertex v by these steps leads from a member of x to one of y and is open given w
pub record IsOpenWalk (g : MixedGraph) (x y w : ℕ → Bool) (v : ℕ) (r : List Step) : Type 0 where
  pub vertex : v < g.vertices
  pub begins : IsTrue (x v)
  pub ends : IsTrue (y (last v r))
  pub first_outside : w v ≡ false
  pub last_outside : w (last v r) ≡ false
  pub walk : IsWalk g v r
  pub passed : ArePassed g w r

-- some walk from x to y is open given w
abbrev pub HasOpenWalk : MixedGraph → (x y w : ℕ → Bool) → Type 0
HasOpenWalk g x y w = (v : ℕ) × (r : List Step) × IsOpenWalk g x y w v r

-- some walk from x to v is open given w
abbrev pub IsReached : MixedGraph → (x w : ℕ → Bool) → ℕ → Type 0
IsReached g x w v = HasOpenWalk g x (λ u. u == v) w

-- x and y are separated by w: no walk from x to y is open given w
abbrev pub IsSeparated : MixedGraph → (x y w : ℕ → Bool) → Type 0
IsSeparated g x y w = (v : ℕ) (r : List Step) → IsOpenWalk g x y w v r → ⊥

-- no step of the walk leads to v
abbrev pub Avoids : ℕ → List Step → Type 0
Avoids v [] = Unit {0}
Avoids v (s ∷ r) = (s.to ≢ v) × Avoids v r

-- the walk from v repeats no vertex
abbrev pub IsPath : ℕ → List Step → Type 0
IsPath v [] = Unit {0}
IsPath v (s ∷ r) = Avoids v (s ∷ r) × IsPath s.to r
