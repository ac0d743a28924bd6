-- Proper and causal paths, and the back-door graph (Shpitser, VanderWeele and Robins, 2010; van der Zander, Liskiewicz and Textor, 2014).
use Rattle.std.specs.Prelude.{ℕ, ◌≡◌, Bool, false, ◌⊎◌, ◌↔◌, List, [], ◌∷◌, IsTrue}
use Rattle.mixed_graph.specs.Vocabulary.{MixedGraph}
use Rattle.m_separation.specs.declared.marks.Mark.TheVariants.{Out}
use Rattle.m_separation.specs.Vocabulary.{Step, IsWalk, IsPath, last}

-- each vertex that a step leads to is outside x
abbrev pub AreOutside : (ℕ → Bool) → List Step → Type 0
AreOutside x [] = Unit {0}
AreOutside x (s ∷ r) = (x s.to ≡ false) × AreOutside x r

-- all marks are arrows forwards
abbrev pub IsCausal : List Step → Type 0
IsCausal [] = Unit {0}
IsCausal (s ∷ r) = (s.mark ≡ Out) × IsCausal r

-- u is a vertex of the walk from v
abbrev pub IsOn : ℕ → ℕ → List Step → Type 0
IsOn u v [] = u ≡ v
IsOn u v (s ∷ r) = (u ≡ v) ⊎ IsOn u s.to r

-- a path from x to y is proper where only its first vertex is in x; inner vertices may be in y
pub record IsProperPath (g : MixedGraph) (x y : ℕ → Bool) (v : ℕ) (r : List Step) : Type 0 where
  pub begins : IsTrue (x v)
  pub ends : IsTrue (y (last v r))
  pub walk : IsWalk g v r
  pub path : IsPath v r
  pub outside : AreOutside x r

-- u is outside x and lies on a proper causal path
pub record IsBetween (g : MixedGraph) (x y : ℕ → Bool) (u : ℕ) : Type 0 where
  pub first : ℕ
  pub steps : List Step
  pub proper : IsProperPath g x y first steps
  pub causal : IsCausal steps
  pub on : IsOn u first steps
  pub outside : x u ≡ false

-- u -> v is the first edge of a proper causal path
abbrev pub BeginsProperCausalPath : MixedGraph → (x y : ℕ → Bool) → ℕ → ℕ → Type 0
BeginsProperCausalPath g x y u v = (r : List Step) × IsProperPath g x y u (record { mark = Out; to = v } ∷ r) × IsCausal r

-- h is g without the first edges of the proper causal paths from x to y
pub record IsBackDoorGraph (g : MixedGraph) (x y : ℕ → Bool) (h : MixedGraph) : Type 0 where
  pub vertices : h.vertices ≡ g.vertices
  pub arrows : (u v : ℕ) → IsTrue (h.arrow u v) ↔ (IsTrue (g.arrow u v) × (BeginsProperCausalPath g x y u v → ⊥))
  pub spouses : (u v : ℕ) → h.both u v ≡ g.both u v
