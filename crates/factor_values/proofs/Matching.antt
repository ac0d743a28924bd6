-- Over weights that match a positive model the value is the model's.
use Rattle.std.proofs.Common.{ℕ, ◌≡◌, ◌<◌, Bool, true, false, cond, refl, sym, subst, arith, List, [], ◌∷◌, All}
use Rattle.std.proofs.lemmas.List.Elements.{All-head, All-tail}
use Rattle.mixed_graph.specs.Vocabulary.{has, MixedGraph, IsMixedGraph}
use Rattle.mixed_graph.proofs.Masks.{has-zero}
use Rattle.fractions.specs.Vocabulary.{Fraction, over, IsEqual}
use Rattle.fractions.proofs.FractionLaws.{equal_refl, equal_sym, equal_trans, mul_equal, div_equal}
use Rattle.finite_models.specs.Vocabulary.{FiniteModel, Fits, IsAssignment, IsPositiveModel}
use Rattle.prob_expr.specs.Tree.{sum, named}
use Rattle.prob_expr.specs.Vocabulary.{Weights, weights_of, value_of, add_over}
use Rattle.prob_expr.proofs.Boxes.{assignment_set, add_over_equal}
use Rattle.prob_expr.proofs.ValueLaws.{values_are_positive}
use Rattle.quantity.specs.Kinds.{Pair}
use Rattle.quantity.specs.Vocabulary.{Kind, IsLawful}
use Rattle.count_eval.specs.Vocabulary.{IsMatched}
use Rattle.count_eval.proofs.Matched.{matched_has_value, matched_sizes, same_value}
use Rattle.factor_values.specs.Factors.{PlainFactor, PlainFactors, read_at, chance_of, factors_product, factors_value}
use Rattle.factor_values.specs.Laws.{IsObservedFactor, AreObserved, MatchedCoversFactors}
use Rattle.factor_values.proofs.Covering.{factors_are_covered}

module _ (g : MixedGraph) (ok : IsMixedGraph g) (m : FiniteModel) (fit : Fits g m) (positive : IsPositiveModel m) (used : ℕ → Bool) (w : Weights) (every : ℕ)
    (k : IsMatched used w every m) where
  read_within : (second : ℕ) (s t : ℕ → ℕ) → IsAssignment m.vertices m.size s → IsAssignment m.vertices m.size t
      → IsAssignment m.vertices m.size (read_at second s t)
  read_within second s t hs ht v il = go (has second v)
    where
      go : (b : Bool) → cond b (t v) (s v) < m.size v
      go true = ht v il
      go false = hs v il

  same_products : (fs : List PlainFactor) → All (IsObservedFactor used) fs → (s t : ℕ → ℕ) → IsAssignment m.vertices m.size s → IsAssignment m.vertices m.size t
      → IsEqual (factors_product w fs s t) (factors_product (weights_of m) fs s t)
  same_products [] observed s t hs ht = equal_refl (over 1 1) (omega arith)
  same_products (f ∷ fs) observed s t hs ht =
      let o = All-head (IsObservedFactor used) f fs observed in
      mul_equal (value_of w f.formula (read_at f.second s t)) (value_of (weights_of m) f.formula (read_at f.second s t)) (factors_product w fs s t)
      (factors_product (weights_of m) fs s t)
      (matched_has_value g ok m fit positive used w every k f.formula o.do_free o.defs o.main (read_at f.second s t) (read_within f.second s t hs ht)).1
      (same_products fs (All-tail (IsObservedFactor used) f fs observed) s t hs ht)

  module _ (e : PlainFactors) (observed : AreObserved used e) (s t : ℕ → ℕ) (hs : IsAssignment m.vertices m.size s) (ht : IsAssignment m.vertices m.size t) where
    abbrev product_over : Weights → (ℕ → ℕ) → Fraction
    product_over v c = factors_product v e.factors c t

    -- levels of vertices that aren't summed don't matter
    resized_sum : add_over (has e.summed) w.size w.vertices (product_over w) s ≡ add_over (has e.summed) m.size w.vertices (product_over w) s
    resized_sum = same_value w m.size used (matched_sizes g ok m fit positive used w every k) (λ j c. product_over w c) (λ j c. product_over w c) (λ j c. true)
        (λ j c. true) (λ j c. refl) (λ j c. refl) (sum e.summed (named 0)) (observed.summed, tt) s

    same_sums : IsEqual (add_over (has e.summed) w.size w.vertices (product_over w) s)
        (add_over (has e.summed) m.size m.vertices (product_over (weights_of m)) s)
    same_sums = subst (λ f. IsEqual f (add_over (has e.summed) m.size m.vertices (product_over (weights_of m)) s)) (sym resized_sum)
        (subst (λ n. IsEqual (add_over (has e.summed) m.size n (product_over w) s) (add_over (has e.summed) m.size m.vertices (product_over (weights_of m)) s))
        (sym k.vertices)
        (add_over_equal (has e.summed) m.size (IsAssignment m.vertices m.size) m.vertices m.size (product_over w) (product_over (weights_of m)) s (λ i lt. refl)
        (λ c i x lt ui xl p. assignment_set m.vertices m.size c i x xl p) hs (λ c hc. same_products e.factors observed.factors c t hc ht)))

    same_chances : IsEqual (value_of w (chance_of e.given) s) (value_of (weights_of m) (chance_of e.given) s)
    same_chances = (matched_has_value g ok m fit positive used w every k (chance_of e.given) refl tt
        (observed.given, λ v h. absurd (let n = has-zero v in grind (arith, h, n))) s hs).1

    pub same_factors_value : IsEqual (factors_value w e s t) (factors_value (weights_of m) e s t)
    same_factors_value = equal_sym (factors_value (weights_of m) e s t) (factors_value w e s t)
        (div_equal (add_over (has e.summed) m.size m.vertices (product_over (weights_of m)) s) (add_over (has e.summed) w.size w.vertices (product_over w) s)
        (value_of (weights_of m) (chance_of e.given) s) (value_of w (chance_of e.given) s)
        (values_are_positive g ok m fit positive (chance_of e.given) s hs).top
        (equal_sym (add_over (has e.summed) w.size w.vertices (product_over w) s)
        (add_over (has e.summed) m.size m.vertices (product_over (weights_of m)) s) same_sums)
        (equal_sym (value_of w (chance_of e.given) s) (value_of (weights_of m) (chance_of e.given) s) same_chances))

pub matched_covers_factors : (kind : Kind) (covers : Pair → Fraction → Type 0) → IsLawful kind covers → MatchedCoversFactors kind covers
matched_covers_factors kind covers law g ok m fit positive used w every k e observed s t hs ht c is f equals =
    law.keeps.equal c (factors_value w e s t) f (factors_are_covered kind covers law w e s t c is).1
    (equal_trans (factors_value w e s t) (factors_value (weights_of m) e s t) f
    (same_factors_value g ok m fit positive used w every k e observed s t hs ht) equals)
