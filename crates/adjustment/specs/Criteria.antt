-- The adjustment criterion (Shpitser, VanderWeele and Robins, 2010; van der Zander, Liskiewicz and Textor, 2014) and the back-door criterion (Pearl,
-- Causality, section 3.3).
use Rattle.std.specs.Prelude.{ℕ, Bool, ◌==◌, List, [], ◌∷◌, IsTrue}
use Rattle.mixed_graph.specs.Vocabulary.{MixedGraph, IsDirectedPath, IsDescendant}
use Rattle.m_separation.specs.Vocabulary.{Step, IsPath, IsOpenWalk, heads_first}
use Rattle.adjustment.specs.Proper.{IsProperPath, IsCausal, IsBetween}

-- v is forbidden (the forbidden set of Perkovic, Textor, Kalisch and Maathuis, 2018): it has a directed path to it from a vertex outside x on a
-- proper causal path
pub record IsForbidden (g : MixedGraph) (x y : ℕ → Bool) (v : ℕ) : Type 0 where
  pub from : ℕ
  pub between : IsBetween g x y from
  pub path : List ℕ
  pub leads : IsDirectedPath g from path v

-- z is admissible: none of its members is forbidden, and no proper path that isn't causal is open given z
pub record IsAdmissible (g : MixedGraph) (x y z : ℕ → Bool) : Type 0 where
  pub clear : (v : ℕ) → IsTrue (z v) → IsForbidden g x y v → ⊥
  pub blocked : (v : ℕ) (r : List Step) → IsProperPath g x y v r → (IsCausal r → ⊥) → IsOpenWalk g x y z v r → ⊥

-- the first edge has an arrowhead where the walk begins
abbrev pub BeginsInto : List Step → Type 0
BeginsInto [] = ⊥
BeginsInto (s ∷ r) = IsTrue (heads_first s.mark)

-- z meets the back-door criterion for one exposure x: no member is a descendant of x, and no path from x to y that begins with an arrowhead at x is
-- open given z
pub record IsBackDoorSet (g : MixedGraph) (x : ℕ) (y z : ℕ → Bool) : Type 0 where
  pub clear : (v : ℕ) → IsTrue (z v) → IsDescendant g (λ u. u == x) v → ⊥
  pub blocked : (r : List Step) → IsPath x r → BeginsInto r → IsOpenWalk g (λ u. u == x) y z x r → ⊥
