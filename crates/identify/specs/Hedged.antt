-- The hedge at which the identification procedure stops, as data (Shpitser and Pearl 2006).
use Rattle.std.specs.Prelude.{◌≡◌, ℕ, ◌<◌, false, IsTrue, slice_index}
use Rattle.mixed_graph.specs.Vocabulary.{has, MixedGraph}
use Rattle.hedge.specs.declared.hedge.Hedge.{Hedge}
use Rattle.hedge.specs.Vocabulary.{IsChoiceOf, AreLinks}
use Rattle.identification_theory.specs.Vocabulary.{AreRoots}

-- The roots are the members of small without a child in small. A member of small chooses its nearest child toward the roots inside small, any other
-- vertex that toward small inside big. The links go over small first, and then over big.
pub record IsHedgeOf (g : MixedGraph) (h : Hedge) : Type 0 where
  pub roots : AreRoots g h.small.bits h.roots.bits
  pub inner : (v : ℕ) → v < 64 → IsTrue (has h.small.bits v) → IsChoiceOf g (has h.small.bits) (has h.roots.bits) v (slice_index h.choice.next v)
  pub outer : (v : ℕ) → v < 64 → has h.small.bits v ≡ false → IsChoiceOf g (has h.big.bits) (has h.small.bits) v (slice_index h.choice.next v)
  pub links : AreLinks g (has h.small.bits) (has h.big.bits) h.links.found h.links.partner h.links.count
