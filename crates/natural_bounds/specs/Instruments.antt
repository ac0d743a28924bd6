-- Conditional instruments (Pearl, Causality, chapter 7).
use Rattle.std.specs.Prelude.{ℕ, ◌≤◌, Bool, ◌||◌, IsTrue}
use Rattle.mixed_graph.specs.Vocabulary.{MixedGraph, IsDescendant}
use Rattle.m_separation.specs.Vocabulary.{IsOpenPath, IsSeparated}
use Rattle.do_rules.specs.Vocabulary.{cut_into, AreFourSets}
use Rattle.natural_bounds.specs.declared.instruments.InstrumentFault.{InstrumentFault}
use Rattle.natural_bounds.specs.declared.instruments.InstrumentFault.TheVariants.{Moved, Open}

-- x moves no member of z or w: none is a descendant of x
abbrev pub AreUnmoved : MixedGraph → (x z w : ℕ → Bool) → Type 0
AreUnmoved g x z w = (v : ℕ) → IsTrue (z v || w v) → IsDescendant g x v → ⊥

-- z is an instrument for the effect of x on y in the strata of w: x moves neither, and once the edges into x are cut, x and w separate y from z.
-- The four sets are disjoint; z may be empty.
pub record IsInstrument (g : MixedGraph) (x y z w : ℕ → Bool) : Type 0 where
  pub sets : AreFourSets g.vertices x y z w
  pub unmoved : AreUnmoved g x z w
  pub separated : IsSeparated (cut_into g x) y z (λ v. x v || w v)

-- v is the lowest member of z or w that x moves
pub record IsMoved (g : MixedGraph) (x z w : ℕ → Bool) (v : ℕ) : Type 0 where
  pub member : IsTrue (z v || w v)
  pub moved : IsDescendant g x v
  pub lowest : (u : ℕ) → IsTrue (z u || w u) → IsDescendant g x u → v ≤ u

-- why z is no instrument: the lowest member that x moves; or x moves none, and a path from y to z that is open once the edges into x are cut
abbrev pub IsInstrumentFault : MixedGraph → (x y z w : ℕ → Bool) → InstrumentFault → Type 0
IsInstrumentFault g x y z w (Moved v) = IsMoved g x z w v
IsInstrumentFault g x y z w (Open p) = AreUnmoved g x z w × IsOpenPath (cut_into g x) y z (λ v. x v || w v) p.vertices p.marks p.count
