-- The bounds of an effect over weights, as those of a table of counts: the tightest over the levels of the instruments, summed over the strata
-- (Robins 1989; Manski 1990; Balke and Pearl 1997; Pearl, Causality, chapter 8).
use Rattle.std.specs.Prelude.{ℕ, ◌+◌, ◌-◌, ◌*◌, ◌≡◌, ◌<◌, ◌≤◌, Bool, true, false, ◌||◌, ◌==◌, if◌then◌else◌, IsTrue}
use Rattle.mixed_graph.specs.Vocabulary.{MixedGraph, IsMixedGraph, Apart}
use Rattle.fractions.specs.Vocabulary.{Fraction, over, mul}
use Rattle.finite_models.specs.Vocabulary.{FiniteModel, Fits, IsAssignment, probability, total}
use Rattle.prob_expr.specs.Vocabulary.{AreProportional, Weights, weights_of, add_over}
use Rattle.natural_bounds.specs.declared.ends.End.{End}
use Rattle.natural_bounds.specs.declared.ends.End.TheVariants.{AtLeast, AtMost}
use Rattle.natural_bounds.specs.Instruments.{IsInstrument}
use Rattle.natural_bounds.specs.Natural.{nothing}
use Rattle.natural_bounds.specs.Orders.{Bounds, trivial, tightest_over}

-- what is asked: the effect of x on y given c, by the instruments z in the strata of u
pub record Asked : Type 0 where
  pub x : ℕ → Bool
  pub y : ℕ → Bool
  pub z : ℕ → Bool
  pub u : ℕ → Bool
  pub c : ℕ → Bool

-- the vertices that a stratum fixes: those of the condition and of the strata
abbrev pub fixed : Asked → ℕ → Bool
fixed q v = q.c v || q.u v

-- N(x, y, z, w), where w is what a stratum fixes
abbrev pub joint : Weights → Asked → (ℕ → ℕ) → ℕ
joint n q s = n.weight nothing (λ v. q.x v || (q.y v || (q.z v || fixed q v))) s

-- N(x, z, w)
abbrev pub treated : Weights → Asked → (ℕ → ℕ) → ℕ
treated n q s = n.weight nothing (λ v. q.x v || (q.z v || fixed q v)) s

-- N(z, w)
abbrev pub level : Weights → Asked → (ℕ → ℕ) → ℕ
level n q s = n.weight nothing (λ v. q.z v || fixed q v) s

-- N(w)
abbrev pub stratum : Weights → Asked → (ℕ → ℕ) → ℕ
stratum n q s = n.weight nothing (fixed q) s

-- N(c)
abbrev pub condition : Weights → Asked → (ℕ → ℕ) → ℕ
condition n q s = n.weight nothing q.c s

-- what the level of z says: P(y | do(x), w) is at least P(x, y | z, w), and at most P(x, y | z, w) + 1 - P(x | z, w)
abbrev pub said : End → Weights → Asked → (ℕ → ℕ) → Fraction
said AtLeast n q s = over (joint n q s) (level n q s)
said AtMost n q s = over (joint n q s + (level n q s - treated n q s)) (level n q s)

-- a level without weight in the stratum says nothing
abbrev pub bound_at : End → Weights → Asked → (ℕ → ℕ) → Fraction
bound_at end n q s = if level n q s == 0 then trivial end else said end n q s

-- the bound of a stratum: the tightest over the levels of z
abbrev pub stratum_bound : End → Weights → Asked → (ℕ → ℕ) → Fraction
stratum_bound end n q s = tightest_over end q.z n.size n.vertices (bound_at end n q) s

-- the share of the stratum: P(w | c)
abbrev pub share : Weights → Asked → (ℕ → ℕ) → Fraction
share n q s = over (stratum n q s) (condition n q s)

-- the bound of P(y | do(x), c): each stratum's share times its bound, summed over the strata
abbrev pub effect_bound : End → Weights → Asked → (ℕ → ℕ) → Fraction
effect_bound end n q s = add_over q.u n.size n.vertices (λ t. mul (share n q t) (stratum_bound end n q t)) s

-- the bounds of the stratum of s cross
abbrev pub AreCrossed : Weights → Asked → (ℕ → ℕ) → Type 0
AreCrossed n q s = (stratum_bound AtMost n q s).top * (stratum_bound AtLeast n q s).bottom
    < (stratum_bound AtLeast n q s).top * (stratum_bound AtMost n q s).bottom

-- ---- what holds

-- f bounds P(y | do(x), c) at s in every model of the graph that has these weights up to one factor, positive or not
abbrev pub BoundsEffect : End → MixedGraph → (x y c used : ℕ → Bool) → Weights → ℕ → (ℕ → ℕ) → Fraction → Type 0
BoundsEffect end g x y c used n all s f = (m : FiniteModel) → Fits g m → AreProportional used n all (weights_of m) (total m)
    → IsAssignment m.vertices m.size s → Bounds end f (probability m x y c s)

-- no model of the graph has these weights
abbrev pub HasNoModel : MixedGraph → (used : ℕ → Bool) → Weights → ℕ → Type 0
HasNoModel g used n all = (m : FiniteModel) → Fits g m → AreProportional used n all (weights_of m) (total m) → ⊥

-- the sets are an instrument's, the condition and the strata are apart, and every vertex of theirs is used
pub record IsAskedOf (g : MixedGraph) (used : ℕ → Bool) (q : Asked) : Type 0 where
  pub instrument : IsInstrument g q.x q.y q.z (fixed q)
  pub apart : Apart q.c q.u
  pub covered : (v : ℕ) → IsTrue (q.x v || (q.y v || (q.z v || fixed q v))) → used v ≡ true

-- s has a value of each used vertex, and 0 elsewhere
pub record IsCellOf (used : ℕ → Bool) (n : Weights) (s : ℕ → ℕ) : Type 0 where
  pub inside : (v : ℕ) → v < n.vertices → used v ≡ true → s v < n.size v
  pub outside : (v : ℕ) → used v ≡ false → s v ≡ 0

-- the bound of an effect bounds it, wherever the condition has weight
abbrev pub BoundsHold : Type 0
BoundsHold = (end : End) (g : MixedGraph) → IsMixedGraph g → (used : ℕ → Bool) (q : Asked) → IsAskedOf g used q → (n : Weights) (all : ℕ) (s : ℕ → ℕ)
    → 1 ≤ condition n q s → BoundsEffect end g q.x q.y q.c used n all s (effect_bound end n q s)

-- where the bounds of a stratum cross, no model of the graph has the weights (for two levels, Pearl's instrumental inequality)
abbrev pub CrossedHaveNoModel : Type 0
CrossedHaveNoModel = (g : MixedGraph) → IsMixedGraph g → (used : ℕ → Bool) (q : Asked) → IsAskedOf g used q → (n : Weights) (all : ℕ) (s : ℕ → ℕ)
    → IsCellOf used n s → AreCrossed n q s → HasNoModel g used n all
