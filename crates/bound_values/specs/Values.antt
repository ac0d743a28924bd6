-- The bounds of an effect over a table of counts, in a kind of quantity.
use Rattle.std.specs.Prelude.{ℕ, zero, suc, ◌≡◌, Bool, false, if◌then◌else◌, Result, Ok, Err}
use Rattle.mixed_graph.specs.Vocabulary.{MixedGraph, IsMixedGraph}
use Rattle.finite_models.specs.Vocabulary.{set_at}
use Rattle.fractions.specs.Vocabulary.{Fraction, over}
use Rattle.prob_expr.specs.Vocabulary.{Weights}
use Rattle.quantity.specs.Kinds.{Pair}
use Rattle.quantity.specs.declared.fault.QuantityFault.{QuantityFault}
use Rattle.quantity.specs.Vocabulary.{Kind}
use Rattle.natural_bounds.specs.declared.ends.End.{End}
use Rattle.natural_bounds.specs.Vocabulary.{Asked, share, stratum_bound, effect_bound, IsAskedOf, BoundsEffect, HasNoModel}
use Rattle.count_rows.specs.Vocabulary.{Table}
use Rattle.count_table.specs.Vocabulary.{total}
use Rattle.count_eval.specs.Vocabulary.{weights_in, is_used}
use Rattle.crossed_bounds.specs.Vocabulary.{paired_bound, paired_effect}
use Rattle.adjusted_bounds.specs.Vocabulary.{adjusted_at, adjusted_bound, IsAdjusted}
use Rattle.bound_values.specs.declared.ratios.Ratio.{Ratio}
use Rattle.bound_values.specs.declared.questions.Method.{Method}
use Rattle.bound_values.specs.declared.questions.Method.TheVariants.{Instruments, LevelPairs, Adjustment}
use Rattle.bound_values.specs.declared.questions.Question.{Question}
use Rattle.bound_values.specs.Questions.{has_pairs}

-- a ratio as a fraction
abbrev pub fraction_of : Ratio → Fraction
fraction_of r = over r.top r.bottom

-- the quantity of a fraction
abbrev pub in_kind : Kind → Fraction → Pair
in_kind kind f = kind.from_ratio f.top f.bottom

-- the sum of two values, or the first fault
abbrev pub plus : Kind → Result Pair QuantityFault → Result Pair QuantityFault → Result Pair QuantityFault
plus kind (Ok a) (Ok b) = kind.add a b
plus kind (Ok a) (Err e) = Err e
plus kind (Err e) b = Err e

-- 0 and f 0 and .. and f (k - 1), added in this order
abbrev pub total_below : Kind → ℕ → (ℕ → Result Pair QuantityFault) → Result Pair QuantityFault
total_below kind zero f = Ok (kind.from_ratio 0 1)
total_below kind (suc k) f = plus kind (total_below kind k f) (f k)

-- the sum of f over all points that differ from b at most in the coordinates i below n with u i, such a coordinate ranging below s i
abbrev pub total_over : Kind → (ℕ → Bool) → (ℕ → ℕ) → ℕ → ((ℕ → ℕ) → Result Pair QuantityFault) → (ℕ → ℕ) → Result Pair QuantityFault
total_over kind u s zero f b = f b
total_over kind u s (suc n) f b = if u n then (total_below kind (s n) (λ x. total_over kind u s n f (set_at b n x))) else total_over kind u s n f b

-- the bound of a stratum
abbrev pub bound_by : Method → End → Weights → Asked → (ℕ → ℕ) → Fraction
bound_by Instruments = stratum_bound
bound_by LevelPairs = paired_bound
bound_by Adjustment = adjusted_at

-- each stratum's share times its bound, summed over the strata
abbrev pub bound_of : Method → End → Weights → Asked → (ℕ → ℕ) → Fraction
bound_of Instruments = effect_bound
bound_of LevelPairs = paired_effect
bound_of Adjustment = adjusted_bound

-- the method may be used for these sets of the graph: they are an instrument's, or the strata are those of an admissible set
abbrev pub MayBeUsed : Method → MixedGraph → (used : ℕ → Bool) → Asked → Type 0
MayBeUsed Instruments = IsAskedOf
MayBeUsed LevelPairs = IsAskedOf
MayBeUsed Adjustment = IsAdjusted

-- a stratum's share times its bound
abbrev pub term_value : Kind → Method → End → Weights → Asked → (ℕ → ℕ) → Result Pair QuantityFault
term_value kind method end n q s = kind.mul (in_kind kind (share n q s)) (in_kind kind (bound_by method end n q s))

-- the bound of an effect, or why there is none
abbrev pub bound_value : Kind → Method → End → Weights → Asked → (ℕ → ℕ) → Result Pair QuantityFault
bound_value kind method end n q s = total_over kind q.u n.size n.vertices (term_value kind method end n q) s

-- the value covers the bound, and this bounds the effect in every model that has the counts, positive or not: of each graph for whose sets the method
-- may be used
pub record BoundsInModels (covers : Pair → Fraction → Type 0) (method : Method) (end : End) (n : ℕ) (t : Table) (q : Asked) (s : ℕ → ℕ) (v : Pair)
    : Type 0 where
  pub covered : covers v (bound_of method end (weights_in n t) q s)
  pub bounds : (g : MixedGraph) → IsMixedGraph g → MayBeUsed method g (is_used t) q
      → BoundsEffect end g q.x q.y q.c (is_used t) (weights_in n t) (total t.rows) s (bound_of method end (weights_in n t) q s)

-- no model of such a graph has the counts, where the cell has 0 for each vertex that isn't used
abbrev pub DeniesModels : Method → ℕ → Table → Asked → (ℕ → ℕ) → Type 0
DeniesModels method n t q s = (g : MixedGraph) → IsMixedGraph g → MayBeUsed method g (is_used t) q → ((v : ℕ) → is_used t v ≡ false → s v ≡ 0)
    → HasNoModel g (is_used t) (weights_in n t) (total t.rows)

-- ---- the method over a table

-- pairs of levels in place of levels, where they are used
abbrev pub in_place : Method → (pairs : Bool) → Method
in_place Instruments pairs = if pairs then LevelPairs else Instruments
in_place LevelPairs pairs = if pairs then LevelPairs else Instruments
in_place Adjustment pairs = Adjustment

-- the method over a table
abbrev pub method_over : Table → Question → Method
method_over t q = in_place q.method (has_pairs t q)

-- the question by this method
abbrev pub over_table : Table → Question → Question
over_table t q = record { x = q.x; y = q.y; given = q.given; instruments = q.instruments; strata = q.strata; method = method_over t q }
