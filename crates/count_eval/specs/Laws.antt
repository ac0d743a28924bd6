-- What values in a kind of quantity have to do with true values, over counts and in models.
use Rattle.std.specs.Prelude.{ℕ, ◌≡◌, Bool, true, false, List, [], ◌∷◌, Result, Ok, Err}
use Rattle.finite_models.specs.Vocabulary.{FiniteModel, IsPositiveModel, IsAssignment, Fits, total}
use Rattle.mixed_graph.specs.Vocabulary.{MixedGraph, IsMixedGraph, has}
use Rattle.prob_expr.specs.Tree.{Tree, prob, sum, product, quotient, named, tree}
use Rattle.prob_expr.specs.Vocabulary.{Trees, no_trees, PlainFormula, is_do_free, PlainTarget, effect, EqualsEffect, Weights, weights_of, values_from, value_of, AreProportional}
use Rattle.fractions.specs.Vocabulary.{Fraction, over, IsEqual}
use Rattle.quantity.specs.declared.fault.QuantityFault.TheVariants.{ZeroBelow}
use Rattle.quantity.specs.Vocabulary.{Kind}
use Rattle.quantity.specs.Kinds.{Pair}
use Rattle.count_eval.specs.Rules.{rule, plain}
use Rattle.count_eval.specs.Stops.{Stop}
use Rattle.count_eval.specs.Supported.{has_value, supported_from}
use Rattle.count_eval.specs.WithZeros.{is_supported_with_zeros, value_of_with_zeros}
use Rattle.count_eval.specs.Evaluated.{formula_value}

-- whether the formula has a value over the weights: no denominator that is met is 0
abbrev pub is_supported : Weights → PlainFormula → (ℕ → ℕ) → Bool
is_supported w f = has_value w (values_from w (λ j s. over 1 1) 0 f.defs) (supported_from w (λ j s. over 1 1) (λ j s. true) 0 f.defs) f.main

-- a value covers the true one, and a zero below means that there is none
pub record IsCovered (covers : Pair → Fraction → Type 0) (w : Weights) (f : PlainFormula) (s : ℕ → ℕ) (r : Result Pair Stop) : Type 0 where
  pub found : (c : Pair) → r ≡ Ok c → (is_supported w f s ≡ true) × covers c (value_of w f s)
  pub none : (e : Stop) → r ≡ Err e → e.why ≡ ZeroBelow → is_supported w f s ≡ false

-- each term and each sum has used vertices alone
abbrev mutual
  pub IsUsed : (ℕ → Bool) → Tree → Type 0
  IsUsed used (prob a b c) = ((v : ℕ) → has a v ≡ true → used v ≡ true) × ((v : ℕ) → has c v ≡ true → used v ≡ true)
  IsUsed used (sum u e) = ((v : ℕ) → has u v ≡ true → used v ≡ true) × IsUsed used e
  IsUsed used (product fs) = AreUsed used fs
  IsUsed used (quotient x y) = IsUsed used x × IsUsed used y
  IsUsed used (named k) = Unit {0}

  pub AreUsed : (ℕ → Bool) → Trees → Type 0
  AreUsed used no_trees = Unit {0}
  AreUsed used (tree e fs) = IsUsed used e × AreUsed used fs

-- and so have all trees of the list
abbrev pub AllUsed : (ℕ → Bool) → List Tree → Type 0
AllUsed used [] = Unit {0}
AllUsed used (d ∷ ds) = IsUsed used d × AllUsed used ds

-- the model's observed weights are those of the counts, up to one factor
abbrev pub IsMatched : (ℕ → Bool) → Weights → ℕ → FiniteModel → Type 0
IsMatched used w all m = AreProportional used w all (weights_of m) (total m)

-- over any weights, what a kind gives by the first rule is covered
abbrev pub EachIsCovered : Kind → (Pair → Fraction → Type 0) → Type 0
EachIsCovered kind covers = (w : Weights) (f : PlainFormula) (s : ℕ → ℕ) → IsCovered covers w f s (formula_value (plain kind) w f s)

-- and what it gives by the second rule covers the value by this rule
abbrev pub ZerosAreCovered : Kind → (Pair → Fraction → Type 0) → Type 0
ZerosAreCovered kind covers = (w : Weights) (f : PlainFormula) (s : ℕ → ℕ) (c : Pair) → formula_value (rule kind true) w f s ≡ Ok c
    → (is_supported_with_zeros w f s ≡ true) × covers c (value_of_with_zeros w f s)

-- in a matching positive model the formula has a value over the counts, and it is the model's
abbrev pub MatchedHasValue : Type 0
MatchedHasValue = (g : MixedGraph) → IsMixedGraph g → (m : FiniteModel) → Fits g m → IsPositiveModel m → (used : ℕ → Bool) (w : Weights) (all : ℕ)
    → IsMatched used w all m
    → (f : PlainFormula) → is_do_free f ≡ true → AllUsed used f.defs → IsUsed used f.main → (s : ℕ → ℕ) → IsAssignment m.vertices m.size s
    → (is_supported w f s ≡ true) × IsEqual (value_of w f s) (value_of (weights_of m) f s)

-- what a kind gives by either rule over counts that match a positive model covers the formula's value in the model
abbrev pub MatchedIsCovered : Kind → (Pair → Fraction → Type 0) → Type 0
MatchedIsCovered kind covers = (g : MixedGraph) → IsMixedGraph g → (m : FiniteModel) → Fits g m → IsPositiveModel m
    → (used : ℕ → Bool) (w : Weights) (all : ℕ) → IsMatched used w all m
    → (f : PlainFormula) → is_do_free f ≡ true → AllUsed used f.defs → IsUsed used f.main → (s : ℕ → ℕ) → IsAssignment m.vertices m.size s
    → (zero : Bool) (c : Pair) → formula_value (rule kind zero) w f s ≡ Ok c → covers c (value_of (weights_of m) f s)

-- and where the formula equals an effect in each positive model of the graph, it covers the effect in the model
abbrev pub MatchedCoversEffect : Kind → (Pair → Fraction → Type 0) → Type 0
MatchedCoversEffect kind covers = (g : MixedGraph) → IsMixedGraph g → (m : FiniteModel) → Fits g m → IsPositiveModel m
    → (used : ℕ → Bool) (w : Weights) (all : ℕ) → IsMatched used w all m
    → (f : PlainFormula) → is_do_free f ≡ true → AllUsed used f.defs → IsUsed used f.main → (t : PlainTarget) → EqualsEffect g t f → (s : ℕ → ℕ)
    → IsAssignment m.vertices m.size s
    → (zero : Bool) (c : Pair) → formula_value (rule kind zero) w f s ≡ Ok c → covers c (effect m t s)

-- where the first rule gives a value, the second gives the same
abbrev pub ZeroKeepsValues : Kind → Type 0
ZeroKeepsValues kind = (w : Weights) (f : PlainFormula) (s : ℕ → ℕ) (c : Pair) → formula_value (plain kind) w f s ≡ Ok c
    → formula_value (rule kind true) w f s ≡ Ok c

-- over counts that match a positive model both rules give the same, a value or a stop: no factor is 0 there
abbrev pub MatchedIsSame : Kind → Type 0
MatchedIsSame kind = (g : MixedGraph) → IsMixedGraph g → (m : FiniteModel) → Fits g m → IsPositiveModel m → (used : ℕ → Bool) (w : Weights) (all : ℕ)
    → IsMatched used w all m
    → (f : PlainFormula) → is_do_free f ≡ true → AllUsed used f.defs → IsUsed used f.main → (s : ℕ → ℕ) → IsAssignment m.vertices m.size s
    → formula_value (rule kind true) w f s ≡ formula_value (plain kind) w f s
