-- Bounds of the effect of a treatment with two values, by two levels of an instrument (Balke and Pearl 1997; Pearl, Causality, section 8.2; Richardson and
-- Robins 2014).
use Rattle.std.specs.Prelude.{ℕ, ◌+◌, ◌-◌, ◌*◌, ◌≡◌, ◌<◌, ◌≤◌, Bool, ◌==◌, nat_le, if◌then◌else◌}
use Rattle.mixed_graph.specs.Vocabulary.{MixedGraph, IsMixedGraph}
use Rattle.fractions.specs.Vocabulary.{Fraction, over, mul}
use Rattle.finite_models.specs.Vocabulary.{sum_over, agree}
use Rattle.prob_expr.specs.Vocabulary.{Weights, add_over}
use Rattle.natural_bounds.specs.declared.ends.End.{End}
use Rattle.natural_bounds.specs.declared.ends.End.TheVariants.{AtLeast, AtMost}
use Rattle.natural_bounds.specs.Vocabulary.{trivial, tighter, tightest_over, IsIn, Asked, fixed, joint, level, stratum, share, condition, stratum_bound, BoundsEffect, HasNoModel, IsAskedOf, IsCellOf}
use Rattle.natural_bounds.specs.Orders.{Bounds}

-- x is one vertex, and has two values
pub record IsTwoValued (n : Weights) (x : ℕ → Bool) : Type 0 where
  pub vertex : ℕ
  pub one : (v : ℕ) → x v ≡ (v == vertex)
  pub two : n.size vertex ≡ 2

-- s with the other value of x
abbrev pub other : (x : ℕ → Bool) → (s : ℕ → ℕ) → ℕ → ℕ
other x s v = if x v then 1 - s v else s v

-- s at the level that z has in r
abbrev pub at_level : (z : ℕ → Bool) → (r s : ℕ → ℕ) → ℕ → ℕ
at_level z r s v = if z v then r v else s v

-- N(o, y, r, w) N(t, w): with the level r of z, the other value o of x, and y as in s
abbrev pub untaken : Weights → Asked → (r t s : ℕ → ℕ) → ℕ
untaken n q r t s = joint n q (at_level q.z r s) * level n q t

-- the greater of two numbers for what an effect is at least, and the less for what it is at most
abbrev pub chosen : End → (a b : ℕ) → ℕ
chosen AtLeast a b = if nat_le a b then b else a
chosen AtMost a b = if nat_le a b then a else b

-- N(x, y, r, w) N(t, w) + N(x, y, t, w) N(r, w), and for each value of y the greater or the less of what the two levels have with the other value of x
abbrev pub shown : End → Weights → Asked → (r t : ℕ → ℕ) → ℕ
shown end n q r t = (joint n q r * level n q t + joint n q t * level n q r)
    + sum_over q.y n.size n.vertices (λ s. chosen end (untaken n q r t s) (untaken n q t r s)) (other q.x r)

-- what two levels r and t say: P(y | do(x), w) is at most P(x, y | r, w) + P(x, y | t, w) + the sum over the values η of y of the less of P(o, η | r, w)
-- and P(o, η | t, w); and with the greater, at least that minus 1
abbrev pub two_levels : End → Weights → Asked → (r t : ℕ → ℕ) → Fraction
two_levels AtLeast n q r t = over (shown AtLeast n q r t - level n q r * level n q t) (level n q r * level n q t)
two_levels AtMost n q r t = over (shown AtMost n q r t) (level n q r * level n q t)

-- levels without weight in the stratum say nothing
abbrev pub levels_bound : End → Weights → Asked → (r t : ℕ → ℕ) → Fraction
levels_bound end n q r t = if level n q r * level n q t == 0 then trivial end else two_levels end n q r t

-- the tightest over the pairs of levels
abbrev pub crossed_bound : End → Weights → Asked → (ℕ → ℕ) → Fraction
crossed_bound end n q s = tightest_over end q.z n.size n.vertices (λ r. tightest_over end q.z n.size n.vertices (levels_bound end n q r) s) s

-- the tighter of this and of the natural bound, which is taken where both are equal
abbrev pub paired_bound : End → Weights → Asked → (ℕ → ℕ) → Fraction
paired_bound end n q s = tighter end (crossed_bound end n q s) (stratum_bound end n q s)

-- the bound of P(y | do(x), c) by pairs of levels: each stratum's share times its bound, summed over the strata
abbrev pub paired_effect : End → Weights → Asked → (ℕ → ℕ) → Fraction
paired_effect end n q s = add_over q.u n.size n.vertices (λ t. mul (share n q t) (paired_bound end n q t)) s

-- the bounds of the stratum of s by pairs of levels cross
abbrev pub ArePairedCrossed : Weights → Asked → (ℕ → ℕ) → Type 0
ArePairedCrossed n q s = (paired_bound AtMost n q s).top * (paired_bound AtLeast n q s).bottom
    < (paired_bound AtLeast n q s).top * (paired_bound AtMost n q s).bottom

-- what the other values of y are at least, summed
abbrev pub others_least : Weights → Asked → (ℕ → ℕ) → Fraction
others_least n q s = add_over q.y n.size n.vertices (λ c. if agree n.vertices q.y c s then over 0 1 else paired_bound AtLeast n q c) s

-- 1 - f
abbrev pub rest_of : Fraction → Fraction
rest_of f = over (f.bottom - f.top) f.bottom

-- what they leave: P(y | do(x), w) is at most 1 less what the other values of y are at least; a stratum without weight says nothing
abbrev pub others_bound : Weights → Asked → (ℕ → ℕ) → Fraction
others_bound n q s = if stratum n q s == 0 then trivial AtMost else rest_of (others_least n q s)

-- the sharper bound of a stratum
abbrev pub sharper_bound : End → Weights → Asked → (ℕ → ℕ) → Fraction
sharper_bound AtLeast n q s = paired_bound AtLeast n q s
sharper_bound AtMost n q s = tighter AtMost (paired_bound AtMost n q s) (others_bound n q s)

-- the sharper bound of P(y | do(x), c): each stratum's share times its bound, summed over the strata
abbrev pub sharper_effect : End → Weights → Asked → (ℕ → ℕ) → Fraction
sharper_effect end n q s = add_over q.u n.size n.vertices (λ t. mul (share n q t) (sharper_bound end n q t)) s

-- the sharper bounds of the stratum of s cross
abbrev pub AreSharperCrossed : Weights → Asked → (ℕ → ℕ) → Type 0
AreSharperCrossed n q s = (sharper_bound AtMost n q s).top * (sharper_bound AtLeast n q s).bottom
    < (sharper_bound AtLeast n q s).top * (sharper_bound AtMost n q s).bottom

-- ---- what holds

-- what two levels with weight say bounds the effect in the stratum, in every model that has the weights, positive or not
abbrev pub TwoLevelsBound : Type 0
TwoLevelsBound = (end : End) (g : MixedGraph) → IsMixedGraph g → (used : ℕ → Bool) (q : Asked) → IsAskedOf g used q → (n : Weights) → IsTwoValued n q.x
    → (all : ℕ) (s r t : ℕ → ℕ) → IsIn q.z n.size n.vertices s r → IsIn q.z n.size n.vertices s t → 1 ≤ level n q r → 1 ≤ level n q t
    → BoundsEffect end g q.x q.y (fixed q) used n all s (two_levels end n q r t)

-- the bound of an effect by pairs of levels bounds it, wherever the condition has weight
abbrev pub PairedBoundsHold : Type 0
PairedBoundsHold = (end : End) (g : MixedGraph) → IsMixedGraph g → (used : ℕ → Bool) (q : Asked) → IsAskedOf g used q → (n : Weights) → IsTwoValued n q.x
    → (all : ℕ) (s : ℕ → ℕ) → 1 ≤ condition n q s → BoundsEffect end g q.x q.y q.c used n all s (paired_effect end n q s)

-- a stratum's bound by pairs is as tight as the natural one, and as what each pair of levels says
abbrev pub PairedIsTight : Type 0
PairedIsTight = (end : End) (n : Weights) (q : Asked) (s : ℕ → ℕ) → Bounds end (stratum_bound end n q s) (paired_bound end n q s)
    × ((r t : ℕ → ℕ) → IsIn q.z n.size n.vertices s r → IsIn q.z n.size n.vertices s t → Bounds end (levels_bound end n q r t) (paired_bound end n q s))

-- where the bounds of a stratum by pairs cross, no model of the graph has the weights
abbrev pub PairedCrossedHaveNoModel : Type 0
PairedCrossedHaveNoModel = (g : MixedGraph) → IsMixedGraph g → (used : ℕ → Bool) (q : Asked) → IsAskedOf g used q → (n : Weights) → IsTwoValued n q.x
    → (all : ℕ) (s : ℕ → ℕ) → IsCellOf used n s → ArePairedCrossed n q s → HasNoModel g used n all

-- the sharper bound of an effect bounds it, wherever the condition has weight
abbrev pub SharperBoundsHold : Type 0
SharperBoundsHold = (end : End) (g : MixedGraph) → IsMixedGraph g → (used : ℕ → Bool) (q : Asked) → IsAskedOf g used q → (n : Weights) → IsTwoValued n q.x
    → (all : ℕ) (s : ℕ → ℕ) → 1 ≤ condition n q s → BoundsEffect end g q.x q.y q.c used n all s (sharper_effect end n q s)

-- a stratum's sharper bound is as tight as the natural one, as what each pair of levels says, and as what the other values of y leave
abbrev pub SharperIsTight : Type 0
SharperIsTight = (n : Weights) (q : Asked) (s : ℕ → ℕ) → ((end : End) → Bounds end (stratum_bound end n q s) (sharper_bound end n q s))
    × ((end : End) (r t : ℕ → ℕ) → IsIn q.z n.size n.vertices s r → IsIn q.z n.size n.vertices s t
    → Bounds end (levels_bound end n q r t) (sharper_bound end n q s))
    × Bounds AtMost (others_bound n q s) (sharper_bound AtMost n q s)

-- where the sharper bounds of a stratum cross, no model of the graph has the weights
abbrev pub SharperCrossedHaveNoModel : Type 0
SharperCrossedHaveNoModel = (g : MixedGraph) → IsMixedGraph g → (used : ℕ → Bool) (q : Asked) → IsAskedOf g used q → (n : Weights) → IsTwoValued n q.x
    → (all : ℕ) (s : ℕ → ℕ) → IsCellOf used n s → AreSharperCrossed n q s → HasNoModel g used n all
