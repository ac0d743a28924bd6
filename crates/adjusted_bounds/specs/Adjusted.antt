-- Bounds by an admissible set (Shpitser, VanderWeele and Robins 2010; Manski 1990): the adjusted value where a stratum has records of the arm, and from
-- 0 to the stratum's share where it has none.
use Rattle.std.specs.Prelude.{ℕ, ◌≡◌, Bool, true, false, ◌||◌, ◌==◌, if◌then◌else◌, IsTrue}
use Rattle.mixed_graph.specs.Vocabulary.{MixedGraph, IsMixedGraph}
use Rattle.fractions.specs.Vocabulary.{Fraction, over, mul}
use Rattle.do_rules.specs.Vocabulary.{AreThreeSets}
use Rattle.prob_expr.specs.Vocabulary.{Weights, add_over}
use Rattle.adjustment.specs.Vocabulary.{IsAdmissible}
use Rattle.natural_bounds.specs.declared.ends.End.{End}
use Rattle.natural_bounds.specs.Vocabulary.{trivial, Asked, joint, treated, share, BoundsEffect}

-- the strata are those of an admissible set, without instruments and condition, and every vertex of the sets is used
pub record IsAdjusted (g : MixedGraph) (used : ℕ → Bool) (q : Asked) : Type 0 where
  pub sets : AreThreeSets g.vertices q.x q.y q.u
  pub admissible : IsAdmissible g q.x q.y q.u
  pub no_instrument : (v : ℕ) → q.z v ≡ false
  pub no_condition : (v : ℕ) → q.c v ≡ false
  pub covered : (v : ℕ) → IsTrue (q.x v || (q.y v || q.u v)) → used v ≡ true

-- what a stratum w says: P(y | x, w) where the arm x has weight there, and else nothing
abbrev pub adjusted_at : End → Weights → Asked → (ℕ → ℕ) → Fraction
adjusted_at end n q s = if treated n q s == 0 then trivial end else over (joint n q s) (treated n q s)

-- each stratum's share times that, summed over the strata
abbrev pub adjusted_bound : End → Weights → Asked → (ℕ → ℕ) → Fraction
adjusted_bound end n q s = add_over q.u n.size n.vertices (λ t. mul (share n q t) (adjusted_at end n q t)) s

-- it bounds P(y | do(x)) in every model that has the weights, positive or not
abbrev pub AdjustedBoundsHold : Type 0
AdjustedBoundsHold = (end : End) (g : MixedGraph) → IsMixedGraph g → (used : ℕ → Bool) (q : Asked) → IsAdjusted g used q → (n : Weights) (all : ℕ)
    (s : ℕ → ℕ) → BoundsEffect end g q.x q.y q.c used n all s (adjusted_bound end n q s)
