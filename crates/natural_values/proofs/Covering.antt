-- Factors over counts cover the nested effect.
use Rattle.std.proofs.Common.{ℕ, ◌≡◌, Bool, true, false, sym, subst, ◌∙◌, not, ◌&&◌, arith, List, [], ◌∷◌, All}
use Rattle.std.proofs.lemmas.List.Elements.{All-nil, All-cons}
use Rattle.mixed_graph.specs.Vocabulary.{has, union, MixedGraph, IsMixedGraph}
use Rattle.mixed_graph.proofs.MaskLaws.{has_minus}
use Rattle.fractions.specs.Vocabulary.{Fraction, IsEqual}
use Rattle.prob_expr.specs.Vocabulary.{weights_of}
use Rattle.quantity.specs.Kinds.{Pair}
use Rattle.quantity.specs.Vocabulary.{Kind, IsLawful}
use Rattle.nested_models.specs.Vocabulary.{nested_effect}
use Rattle.natural_id.specs.Vocabulary.{AreFoundParts, IsFormulaByParts, IsNaturalTarget, PlainPart}
use Rattle.natural_id.proofs.Districts.{d_off}
use Rattle.factor_values.specs.Vocabulary.{PlainFactors, factors_value}
use Rattle.factor_values.proofs.Matching.{matched_covers_factors}
use Rattle.natural_values.specs.Factors.{ReadsInside}
use Rattle.natural_values.specs.Right.{FactorsCoverNested}
use Rattle.natural_values.proofs.Equal.{factors_equal_natural}

-- the parts that the procedure finds read members of x
inside : (g : MixedGraph) (x k : ℕ) (ps : List PlainPart) → AreFoundParts g x k ps → All (ReadsInside x) ps
inside g x k [] h = All-nil (ReadsInside x)
inside g x k (p ∷ ps) h = All-cons (ReadsInside x) p ps (λ v e. ((h.0.second v).0 e).0) (inside g x k ps h.1)

-- and the sum is over other vertices
off : (g : MixedGraph) → IsMixedGraph g → (x m y z summed : ℕ) (ps : List PlainPart) → IsNaturalTarget g x m y z → IsFormulaByParts g x m y z summed ps
    → (v : ℕ) → has summed v ≡ true → has x v ≡ false
off g ok x m y z summed ps target f v e =
    d_off g ok x m y z f.d target f.ancestors v
    (first (has f.d v) (has (union y z) v) (sym (has_minus f.d (union y z) v) ∙ subst (λ u. has u v ≡ true) f.sum e))
  where
    first : (a b : Bool) → (a && not b) ≡ true → a ≡ true
    first a b h = grind (arith, h)

pub factors_cover_nested : (kind : Kind) (covers : Pair → Fraction → Type 0) → IsLawful kind covers → FactorsCoverNested kind covers
factors_cover_nested kind covers lawful g ok w fit positive used v all matched x m y z e are observed s t hs ht c is =
    let target = nested_effect w (has x) (has m) (has y) (has z) s t in
    matched_covers_factors kind covers lawful g ok w fit positive used v all matched e observed s t hs ht c is target
    (subst (λ (f : PlainFactors). IsEqual (factors_value (weights_of w) f s t) target) (sym are.factors)
    (subst (λ f. IsEqual f target)
    (sym (factors_equal_natural w x z are.summed are.parts (inside g x are.found.through are.parts are.found.parts)
    (off g ok x m y z are.summed are.parts are.target are.found) s t))
    (are.equals w fit positive s t hs ht)))
