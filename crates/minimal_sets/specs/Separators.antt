-- Separators in undirected graphs (the closest: Takata, 2010; van der Zander, Liskiewicz and Textor, 2014).
use Rattle.std.specs.Prelude.{ℕ, ◌≡◌, Bool, true, false}

-- v is reached from s by edges of `near` outside z
pub data Reached (near : ℕ → ℕ → Bool) (s z : ℕ → Bool) : ℕ → Type 0 where
  start : {v : ℕ} → s v ≡ true → z v ≡ false → Reached near s z v
  step : {u v : ℕ} → Reached near s z u → near u v ≡ true → z v ≡ false → Reached near s z v

-- no way from x to y outside z
abbrev pub IsSeparator : (ℕ → ℕ → Bool) → (x y z : ℕ → Bool) → Type 0
IsSeparator near x y z = (v : ℕ) → y v ≡ true → Reached near x z v → ⊥

-- each member of a is one of b
abbrev pub IsPart : (ℕ → Bool) → (ℕ → Bool) → Type 0
IsPart a b = (v : ℕ) → a v ≡ true → b v ≡ true

-- a separator by allowed vertices of which no proper part is one
pub record IsMinimalSeparator (near : ℕ → ℕ → Bool) (allowed x y z : ℕ → Bool) : Type 0 where
  pub within : IsPart z allowed
  pub separates : IsSeparator near x y z
  pub minimal : (p : ℕ → Bool) → IsPart p z → IsSeparator near x y p → IsPart z p

-- each member of s is reached from x outside z
abbrev pub IsOnSide : (ℕ → ℕ → Bool) → (x z s : ℕ → Bool) → Type 0
IsOnSide near x z s = (v : ℕ) → s v ≡ true → Reached near x z v

-- of the minimal separators with s on the side of x, the one nearest to s: what it leaves on the side of x, each other leaves there too; and each
-- vertex of it is next to that side
pub record IsClosest (near : ℕ → ℕ → Bool) (allowed x y s separator side : ℕ → Bool) : Type 0 where
  pub minimal : IsMinimalSeparator near allowed x y separator
  pub side_is : IsOnSide near x separator side
  pub side_all : (v : ℕ) → Reached near x separator v → side v ≡ true
  pub holds : IsPart s side
  pub touches : (v : ℕ) → separator v ≡ true → (u : ℕ) × (side u ≡ true) × (near u v ≡ true)
  pub closest : (z : ℕ → Bool) → IsMinimalSeparator near allowed x y z → IsOnSide near x z s → IsOnSide near x z side

-- no minimal separator has s on the side of x
abbrev pub IsInseparable : (ℕ → ℕ → Bool) → (allowed x y s : ℕ → Bool) → Type 0
IsInseparable near allowed x y s = (z : ℕ → Bool) → IsMinimalSeparator near allowed x y z → IsOnSide near x z s → ⊥

-- the minimal separators of a branch: d on the side of x, and k kept
pub record IsInBranch (near : ℕ → ℕ → Bool) (allowed x y d k z : ℕ → Bool) : Type 0 where
  pub minimal : IsMinimalSeparator near allowed x y z
  pub side : IsOnSide near x z d
  pub keeps : IsPart k z
