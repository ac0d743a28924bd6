-- The factor of a district under one experiment after the other, as the code gives it.
use Rattle.std.specs.Prelude.{ℕ, ◌≡◌, ◌+◌, ◌^◌, ◌<◌, ◌≤◌, ◌⊎◌, false, List, [], ◌∷◌, length, map, Option, Some, None, IsTrue}
use Rattle.mixed_graph.specs.declared.sets.VSet.{VSet}
use Rattle.mixed_graph.specs.Vocabulary.{has, MixedGraph, is_apart, Within}
use Rattle.hedge.specs.Vocabulary.{IsJoinedSet}
use Rattle.prob_expr.specs.View.{view}
use Rattle.do_derivation.specs.Vocabulary.{lemma_view, steps_view}
use Rattle.identify.specs.declared.factors.district_factor.Factor.{Factor}
use Rattle.identify.specs.declared.factors.district_factor.FactorFault.{FactorFault}
use Rattle.identify.specs.declared.factors.district_factor.FactorFault.TheVariants.{Stopped}
use Rattle.identify.specs.declared.factors.district_factor.FactorFault.TheVariants.{NoMemory}
use Rattle.surrogates.specs.Common.{around}
use Rattle.surrogates.specs.Surrogates.{IsDerivedUnder, IsStoppedUnder, ComesFirst, AllStop}

-- c is a joined set of vertices, and there are numbers for 64 definitions from k on
pub record IsDistrictFrom (g : MixedGraph) (c k : ℕ) : Type 0 where
  pub within : Within g.vertices (has c)
  pub some : (v : ℕ) × IsTrue (has c v)
  pub joined : IsJoinedSet g c
  pub room : k + 64 < 2 ^ 32

-- f is the factor of c under an intervention on z, with at most 64 definitions from number k on and with its derivation
pub record IsTried (g : MixedGraph) (z c k : ℕ) (f : Factor) : Type 0 where
  pub derived : IsDerivedUnder g z c k (map view f.defs.items) (view f.value) (map lemma_view f.lemmas.items) (steps_view f.steps.items)
  pub few : length f.defs.items ≤ 64
  pub paired : length f.lemmas.items ≡ length f.defs.items

-- why c has no factor under z
abbrev pub IsTryFault : MixedGraph → (z c : ℕ) → FactorFault → Type 0
IsTryFault g z c (Stopped big) = IsStoppedUnder g z c big.bits
IsTryFault g z c NoMemory = Unit {0}

-- z meets c, or stops its factor
abbrev pub IsTriedInVain : MixedGraph → (c z : ℕ) → Type 0
IsTriedInVain g c z = (is_apart z c ≡ false) ⊎ (IsTrue (is_apart z c) × (big : ℕ) × IsStoppedUnder g z c big)

-- each set of the list does
abbrev pub AllTriedInVain : MixedGraph → (c : ℕ) → List ℕ → Type 0
AllTriedInVain g c [] = Unit {0}
AllTriedInVain g c (z ∷ zs) = IsTriedInVain g c z × AllTriedInVain g c zs

-- the factor of c under z, or none where z is passed
abbrev pub IsAttempt : MixedGraph → (z c k : ℕ) → Option Factor → Type 0
IsAttempt g z c k (Some f) = IsTrue (is_apart z c) × IsTried g z c k f
IsAttempt g z c k None = IsTriedInVain g c z

-- the factor of c under the first of the list that isn't passed
pub record IsFirstOf (g : MixedGraph) (zs : List ℕ) (c k : ℕ) (f : Factor) : Type 0 where
  pub z : ℕ
  pub first : ComesFirst g c z zs
  pub tried : IsTried g z c k f

-- that factor, or none where each is passed
abbrev pub IsAttemptOf : MixedGraph → List ℕ → (c k : ℕ) → Option Factor → Type 0
IsAttemptOf g zs c k (Some f) = IsFirstOf g zs c k f
IsAttemptOf g zs c k None = AllTriedInVain g c zs

-- the factor of c under the first of no experiment and these in turn
abbrev pub IsFirstTried : MixedGraph → List ℕ → (c k : ℕ) → Factor → Type 0
IsFirstTried g zs c k f = IsFirstOf g (0 ∷ zs) c k f

-- c has no factor under any of them; without experiment it stops at big
abbrev pub IsBlockedFactor : MixedGraph → List ℕ → (c : ℕ) → FactorFault → Type 0
IsBlockedFactor g zs c (Stopped big) = IsStoppedUnder g 0 c big.bits × AllStop g c zs
IsBlockedFactor g zs c NoMemory = Unit {0}

-- where the factor of c stops under all experiments that leave it alone at once; none where it doesn't
abbrev pub IsStopTogether : MixedGraph → List ℕ → (c : ℕ) → Option VSet → Type 0
IsStopTogether g zs c (Some big) = IsStoppedUnder g (around c zs) c big.bits
IsStopTogether g zs c None = (big : ℕ) → IsStoppedUnder g (around c zs) c big → ⊥
