-- An expression with a child of the same value has the same value.
use Rattle.std.proofs.Common.{ℕ, zero, suc, ◌≡◌, sym, ap, subst, Some, None, Option}
use Rattle.std.proofs.lemmas.Option.{none-some}
use Rattle.mixed_graph.specs.Vocabulary.{MixedGraph, IsMixedGraph}
use Rattle.fractions.specs.Vocabulary.{Fraction, IsEqual, IsPositive}
use Rattle.fractions.proofs.FractionLaws.{equal_refl, mul_equal}
use Rattle.finite_models.specs.Vocabulary.{FiniteModel, Fits, IsAssignment, IsPositiveModel}
use Rattle.prob_expr.specs.Tree.{Tree, prob, sum, product, quotient, named, tree}
use Rattle.prob_expr.specs.Vocabulary.{Trees, no_trees, weights_of, value, product_value}
use Rattle.prob_expr.proofs.ValueLaws.{IsSame, value_positive, product_positive, sum_same, top_same, bottom_same}
use Rattle.do_derivation.specs.Shapes.{child, with_child, factor_at, with_factor}

-- equal options hold equal values
pub some_is : {A : Type 0} (x y : A) → Some x ≡ Some y → x ≡ y
some_is {A} x y e = ap (λ o. or_else o) e
  where
    or_else : Option A → A
    or_else (Some z) = z
    or_else None = x

module _ (g : MixedGraph) (ok : IsMixedGraph g) (m : FiniteModel) (fit : Fits g m) (positive : IsPositiveModel m)
    (q : ℕ → (ℕ → ℕ) → Fraction) (defined : (k : ℕ) (s : ℕ → ℕ) → IsAssignment m.vertices m.size s → IsPositive (q k s)) where
  factor_same : (ts : Trees) (i : ℕ) (c c' : Tree) → factor_at ts i ≡ Some c → (s : ℕ → ℕ) → IsAssignment m.vertices m.size s
      → IsEqual (value (weights_of m) q c s) (value (weights_of m) q c' s)
      → IsEqual (product_value (weights_of m) q ts s) (product_value (weights_of m) q (with_factor ts i c') s)
  factor_same no_trees i c c' e s w h = absurd (none-some c e)
  factor_same (tree f ts) zero c c' e s w h =
      mul_equal (value (weights_of m) q f s) (value (weights_of m) q c' s) (product_value (weights_of m) q ts s) (product_value (weights_of m) q ts s)
      (subst (λ x. IsEqual (value (weights_of m) q x s) (value (weights_of m) q c' s)) (sym (some_is f c e)) h)
      (equal_refl (product_value (weights_of m) q ts s) (product_positive g ok m fit positive q defined ts s w).bottom)
  factor_same (tree f ts) (suc i) c c' e s w h =
      mul_equal (value (weights_of m) q f s) (value (weights_of m) q f s) (product_value (weights_of m) q ts s)
      (product_value (weights_of m) q (with_factor ts i c') s)
      (equal_refl (value (weights_of m) q f s) (value_positive g ok m fit positive q defined f s w).bottom) (factor_same ts i c c' e s w h)

  pub child_same : (e : Tree) (i : ℕ) (c c' : Tree) → child e i ≡ Some c → IsSame m q c c' → IsSame m q e (with_child e i c')
  child_same (prob x y z) i c c' h k = absurd (none-some c h)
  child_same (sum u e) zero c c' h k = sum_same m q u e c' (subst (λ x. IsSame m q x c') (sym (some_is e c h)) k)
  child_same (sum u e) (suc i) c c' h k = absurd (none-some c h)
  child_same (product ts) i c c' h k = λ s w. factor_same ts i c c' h s w (k s w)
  child_same (quotient x y) zero c c' h k = top_same m q x c' y (value_positive g ok m fit positive q defined y)
      (subst (λ z. IsSame m q z c') (sym (some_is x c h)) k)
  child_same (quotient x y) (suc zero) c c' h k =
      bottom_same m q x y c' (value_positive g ok m fit positive q defined x) (value_positive g ok m fit positive q defined y)
      (subst (λ z. IsSame m q z c') (sym (some_is y c h)) k)
  child_same (quotient x y) (suc (suc i)) c c' h k = absurd (none-some c h)
  child_same (named k') i c c' h k = absurd (none-some c h)
