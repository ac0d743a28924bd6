-- Words for the two walks, inside this crate.
use Rattle.std.specs.Prelude.{ℕ, ◌≡◌, ◌≢◌, ◌<◌, Bool, false, ◌==◌, ◌&&◌, not, List, ◌⊎◌, All, IsTrue}
use Rattle.std.specs.List.{AllPairs, Any}
use Rattle.mixed_graph.specs.Vocabulary.{MixedGraph}
use Rattle.m_separation.specs.Vocabulary.{HasOpenWalk, IsSeparated}
use Rattle.implications.specs.declared.pairs.Implication.{Implication}
use Rattle.implications.specs.Separable.{only, IsSeparable}
use Rattle.implications.specs.Implications.{IsImplication, IsOf, IsBefore}

-- from the set `kept` the member v is dropped, if the rest still separates a and b
pub record IsStep (g : MixedGraph) (a b v : ℕ) (kept after : ℕ → Bool) : Type 0 where
  pub others : (u : ℕ) → u ≢ v → after u ≡ kept u
  pub inside : IsTrue (after v) → IsTrue (kept v)
  pub dropped : IsTrue (kept v) → after v ≡ false → IsSeparated g (only a) (only b) (λ u. kept u && not (u == v))
  pub needed : IsTrue (after v) → HasOpenWalk g (only a) (only b) (λ u. kept u && not (u == v))

-- the pair p, q is before the pair a, b
abbrev pub IsEarlier : (a b p q : ℕ) → Type 0
IsEarlier a b p q = (p < a) ⊎ ((p ≡ a) × (q < b))

-- the list has the implications whose pairs are before a, b
pub record AreBefore (g : MixedGraph) (a b : ℕ) (list : List Implication) : Type 0 where
  pub each : All (IsImplication g) list
  pub earlier : All (λ i. IsEarlier a b i.a i.b) list
  pub all : (p q : ℕ) → IsEarlier a b p q → IsSeparable g p q → Any (IsOf p q) list
  pub sorted : AllPairs IsBefore list
