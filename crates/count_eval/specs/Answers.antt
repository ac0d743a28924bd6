-- What an evaluation answers: the value, or the fault of the first node that has none.
use Rattle.std.specs.Prelude.{ℕ, ◌≡◌, ◌≤◌, ◌<◌, Bool, true, None, List, Result, Ok, Err, slice_index, if◌then◌else◌}
use Rattle.finite_models.specs.Vocabulary.{FiniteModel, IsPositiveModel, IsAssignment, Fits}
use Rattle.mixed_graph.specs.Vocabulary.{MixedGraph, IsMixedGraph}
use Rattle.fractions.specs.Vocabulary.{Fraction}
use Rattle.prob_expr.specs.declared.expr.Place.{Place}
use Rattle.prob_expr.specs.Vocabulary.{fault_in, is_do_free, PlainFormula, weights_of, value_of}
use Rattle.quantity.specs.declared.fault.QuantityFault.TheVariants as quantity
use Rattle.quantity.specs.Kinds.{Pair}
use Rattle.count_rows.specs.Vocabulary.{Table}
use Rattle.count_table.specs.Vocabulary.{total}
use Rattle.count_eval.specs.declared.failure.EvalFault.{EvalFault}
use Rattle.count_eval.specs.declared.failure.EvalFault.TheVariants.{NoSupport, TooWide, TooFine, NoMemory}
use Rattle.count_eval.specs.Laws.{IsUsed, AllUsed, IsMatched, is_supported}
use Rattle.count_eval.specs.Programs.{weights_in, is_used}
use Rattle.count_eval.specs.Stops.{Stop}
use Rattle.count_eval.specs.WithZeros.{is_supported_with_zeros, value_of_with_zeros}

-- The formula can be evaluated over the counts: it is one of a graph on n vertices, without interventions, and its vertices are used.
pub record IsEvaluable (n : ℕ) (t : Table) (f : PlainFormula) : Type 0 where
  pub few : n ≤ 64
  pub below : (v : ℕ) → is_used t v ≡ true → v < n
  pub accepted : fault_in n f ≡ None
  pub do_free : is_do_free f ≡ true
  pub defs : AllUsed (is_used t) f.defs
  pub main : IsUsed (is_used t) f.main

-- the place of the node at which the evaluation stopped
pub record IsPlaceOf (place : Place) (s : Stop) : Type 0 where
  pub def : place.def ≡ s.def
  pub node : place.node ≡ s.node

-- the cell there, with 0 for each vertex that isn't used
abbrev pub IsCellOf : (ℕ → Bool) → List ℕ → Stop → Type 0
IsCellOf used cell s = (v : ℕ) → v < 64 → slice_index cell v ≡ (if used v then s.cell v else 0)

-- the fault says why the evaluation stopped, and where
abbrev pub IsEvaluationFault : (ℕ → Bool) → EvalFault → Stop → Type 0
IsEvaluationFault used (NoSupport cell place) s = (s.why ≡ quantity.ZeroBelow) × IsPlaceOf place s × IsCellOf used cell s
IsEvaluationFault used (TooWide place) s = (s.why ≡ quantity.TooWide) × IsPlaceOf place s
IsEvaluationFault used (TooFine place) s = (s.why ≡ quantity.TooFine) × IsPlaceOf place s
IsEvaluationFault used NoMemory s = ⊥

-- the answer is the value, or the fault of the stop
abbrev pub Answers : {Q : Type 0} → (Q → Pair) → Table → Result Pair Stop → Result Q EvalFault → Type 0
Answers numbers t o (Ok q) = o ≡ Ok (numbers q)
Answers numbers t o (Err e) = (s : Stop) × (o ≡ Err s) × IsEvaluationFault (is_used t) e s

-- the formula has a value over the counts, and this covers it
pub record CoversCounts (covers : Pair → Fraction → Type 0) (n : ℕ) (t : Table) (f : PlainFormula) (s : ℕ → ℕ) (c : Pair) : Type 0 where
  pub supported : is_supported (weights_in n t) f s ≡ true
  pub covered : covers c (value_of (weights_in n t) f s)

-- by the rule that a product with a factor 0 is 0 the formula has a value over the counts, and this covers it
pub record CoversWithZeros (covers : Pair → Fraction → Type 0) (n : ℕ) (t : Table) (f : PlainFormula) (s : ℕ → ℕ) (c : Pair) : Type 0 where
  pub supported : is_supported_with_zeros (weights_in n t) f s ≡ true
  pub covered : covers c (value_of_with_zeros (weights_in n t) f s)

-- in each positive model of a graph whose observed weights are those of the counts, up to one factor, this covers the formula's value
abbrev pub CoversMatches : (Pair → Fraction → Type 0) → ℕ → Table → PlainFormula → (ℕ → ℕ) → Pair → Type 0
CoversMatches covers n t f s c = (g : MixedGraph) → IsMixedGraph g → (m : FiniteModel) → Fits g m → IsPositiveModel m
    → IsMatched (is_used t) (weights_in n t) (total t.rows) m
    → IsAssignment m.vertices m.size s → covers c (value_of (weights_of m) f s)

-- a denominator is 0 only where no positive model of a graph, of which the cell is an assignment, has the counts' weights up to one factor
abbrev pub DeniesMatches : ℕ → Table → (ℕ → ℕ) → EvalFault → Type 0
DeniesMatches n t s (NoSupport cell place) = (g : MixedGraph) → IsMixedGraph g → (m : FiniteModel) → Fits g m → IsPositiveModel m
    → IsMatched (is_used t) (weights_in n t) (total t.rows) m
    → IsAssignment m.vertices m.size s → ⊥
DeniesMatches n t s (TooWide place) = Unit {0}
DeniesMatches n t s (TooFine place) = Unit {0}
DeniesMatches n t s NoMemory = Unit {0}
