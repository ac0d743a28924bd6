-- Minimal admissible sets (van der Zander, Liskiewicz and Textor, 2014).
use Rattle.std.specs.Prelude.{ℕ, Bool, ◌↔◌}
use Rattle.mixed_graph.specs.Vocabulary.{has, MixedGraph, IsMixedGraph, Within, Apart}
use Rattle.prob_expr.specs.Vocabulary.{EqualsEffect, effect_on}
use Rattle.adjustment.specs.Vocabulary.{IsAdmissible, adjustment_formula}
use Rattle.minimal_sets.specs.Separators.{IsPart}

-- z is an admissible set of vertices outside x and y, and no proper part of it is admissible
pub record IsMinimalSet (g : MixedGraph) (x y z : ℕ → Bool) : Type 0 where
  pub within : Within g.vertices z
  pub x_apart : Apart z x
  pub y_apart : Apart z y
  pub admissible : IsAdmissible g x y z
  pub minimal : (p : ℕ → Bool) → IsPart p z → IsAdmissible g x y p → IsPart z p

-- z is a set of vertices outside x and y whose formula is the effect in each positive model, and no proper part of it is one
pub record IsMinimalAdjustment (g : MixedGraph) (x y z : ℕ) : Type 0 where
  pub within : Within g.vertices (has z)
  pub x_apart : Apart (has z) (has x)
  pub y_apart : Apart (has z) (has y)
  pub effect : EqualsEffect g (effect_on x y) (adjustment_formula x y z)
  pub minimal : (p : ℕ) → IsPart (has p) (has z) → EqualsEffect g (effect_on x y) (adjustment_formula x y p) → IsPart (has z) (has p)

-- the minimal admissible sets are exactly these
abbrev pub MinimalIsExact : Type 0
MinimalIsExact = (g : MixedGraph) → IsMixedGraph g → (x y z : ℕ) → Within g.vertices (has x) → Within g.vertices (has y) → Apart (has x) (has y)
    → IsMinimalSet g (has x) (has y) (has z) ↔ IsMinimalAdjustment g x y z
