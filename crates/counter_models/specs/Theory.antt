-- A hedge as the theory of the two models takes it.
use Rattle.std.specs.Prelude.{ℕ, zero, suc, ◌+◌, ◌-◌, ◌≤◌, List, [], ◌∷◌, slice_index}
use Rattle.mixed_graph.specs.Vocabulary.{has, Apart, MixedGraph, IsMixedGraph}
use Rattle.hedge.specs.declared.hedge.Hedge.{Hedge}
use Rattle.hedge.specs.Vocabulary.{size_of, IsHedge}
use Rattle.counter_models.specs.Links.{Link}
use Rattle.counter_models.specs.Hedges.{ParityHedge, IsWholeHedge}
use Rattle.counter_models.specs.Kept.{AreCarriers}
use Rattle.counter_models.specs.Pairs.{links_of, small_cause, kept_cause}

-- the links of `count` entries from the one at place k
abbrev pub links_from : Hedge → ℕ → ℕ → List Link
links_from h k zero = []
links_from h k (suc c) = record { entry = slice_index h.links.found k; partner = slice_index h.links.partner k } ∷ links_from h (suc k) c

-- how many entries stand in small: all of small
abbrev pub inner_entries : Hedge → ℕ
inner_entries h = size_of h.small.bits - (size_of h.small.bits - h.links.count)

-- the links inside small
abbrev pub inner_of : Hedge → List Link
inner_of h = links_from h 1 (inner_entries h - 1)

-- the links of the rest of big
abbrev pub outer_of : Hedge → List Link
outer_of h = links_from h (inner_entries h) (h.links.count - inner_entries h)

-- the hedge's data, as the laws of the two models take it
abbrev pub data_of : (y : ℕ) → Hedge → (kept : ℕ) → (carry : List ℕ) → ParityHedge
data_of y h kept carry = record {
  big = has h.big.bits;
  small = has h.small.bits;
  roots = has h.roots.bits;
  kept = has kept;
  target = has y;
  choice = λ v. slice_index h.choice.next v;
  carry = λ v. slice_index carry v;
  inner = inner_of h;
  outer = outer_of h;
  small_cause = small_cause h;
  kept_cause = kept_cause h kept;
  causes = links_of h + size_of h.small.bits + size_of kept;
}

-- it keeps all that the two models need
abbrev pub HedgeIsWhole : Type 0
HedgeIsWhole = (g : MixedGraph) → IsMixedGraph g → g.vertices ≤ 64 → (x y : ℕ) (h : Hedge) → IsHedge g x y h → Apart (has x) (has y)
    → (kept : ℕ) (carry : List ℕ) → AreCarriers g x y h.roots.bits kept carry
    → IsWholeHedge g (has x) (data_of y h kept carry)
