-- The factors of terms, one after the other.
use Rattle.std.proofs.Common.{ℕ, ◌+◌, ◌≡◌, ◌<◌, ◌≤◌, refl, sym, ap, subst, List, [], ◌∷◌, ◌++◌, append-nil, length, map, drop, get_or}
use Rattle.prob_expr.specs.View.{view}
use Rattle.prob_expr.specs.declared.expr.Expr.{Expr}
use Rattle.prob_expr.specs.Vocabulary.{views}
use Rattle.prob_expr.proofs.Views.{views_more, none_after}
use Rattle.factor_values.specs.declared.factors.Factor.{Factor}
use Rattle.factor_values.specs.Vocabulary.{factor_view, PlainFactor}
use Rattle.named_factors.specs.Named.{IsFactorOf, AreFactorsOf}
use Rattle.named_factors.specs.Shapes.{AreTerms, IsTerm}

-- the factors of the terms up to number i are made, and the others are terms too
pub record IsListing (n x : ℕ) (es : List Expr) (i : ℕ) (made : List Factor) : Type 0 where
  pub left : AreTerms (views (drop i es))
  pub whole : (gs : List PlainFactor) → AreFactorsOf n x (views (drop i es)) gs → AreFactorsOf n x (views es) (map factor_view made ++ gs)

pub listing_none : (n x : ℕ) (es : List Expr) → AreTerms (views es) → IsListing n x es 0 []
listing_none n x es are = record { left = are; whole = λ gs h. h }

-- the next one is a term
pub next_term : (n x : ℕ) (es : List Expr) (i : ℕ) (e : Expr) (made : List Factor) → i < length es → e ≡ get_or es i e → IsListing n x es i made
    → IsTerm (view e)
next_term n x es i e made lt is l = (subst AreTerms (views_more es i e lt is) l.left).0

appended : (made : List Factor) (f : Factor) (gs : List PlainFactor) → map factor_view made ++ factor_view f ∷ gs ≡ map factor_view (made ++ f ∷ []) ++ gs
appended [] f gs = refl
appended (m ∷ made) f gs = ap (λ l. factor_view m ∷ l) (appended made f gs)

pub listing_more : (n x : ℕ) (es : List Expr) (i : ℕ) (e : Expr) (made : List Factor) (f : Factor) → i < length es → e ≡ get_or es i e
    → IsListing n x es i made → IsFactorOf n x (view e) (factor_view f) → IsListing n x es (i + 1) (made ++ f ∷ [])
listing_more n x es i e made f lt is l fits = record {
  left = (subst AreTerms (views_more es i e lt is) l.left).1;
  whole = λ gs h. subst (AreFactorsOf n x (views es)) (appended made f gs) (l.whole (factor_view f ∷ gs)
      (subst (λ ts. AreFactorsOf n x ts (factor_view f ∷ gs)) (sym (views_more es i e lt is)) (fits, h)));
}

pub listing_all : (n x : ℕ) (es : List Expr) (i : ℕ) (made : List Factor) → length es ≤ i → IsListing n x es i made
    → AreFactorsOf n x (views es) (map factor_view made)
listing_all n x es i made le l = subst (AreFactorsOf n x (views es)) (append-nil (map factor_view made))
    (l.whole [] (subst (λ ts. AreFactorsOf n x ts []) (sym (none_after es i le)) tt))
