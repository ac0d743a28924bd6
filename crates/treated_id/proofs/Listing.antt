-- The terms, one vertex after the other, and what each is made of.
use Rattle.std.proofs.Common.{◌≡◌, ◌≢◌, ℕ, zero, suc, ◌+◌, ◌<◌, ◌≤◌, Bool, true, false, not, ◌&&◌, ◌||◌, ◌==◌, ◌⊎◌, inl, inr, List, [], ◌∷◌, ◌++◌, length}
use Rattle.std.proofs.Common.{get_or, drop}
use Rattle.std.proofs.Common.{take, refl, sym, ap, ◌∙◌, subst, arith}
use Rattle.std.proofs.Math.Seq.{take-suc}
use Rattle.std.proofs.lemmas.Bool.{and_parts, and_from, or_cases, or_left, or_right, ne_eqb, eq-eqb}
use Rattle.std.proofs.lemmas.List.{at_drop_more, at_drop_all}
use Rattle.mixed_graph.specs.Vocabulary.{has, MixedGraph, union, minus, one, common, IsOrder}
use Rattle.hedge.specs.Vocabulary.{IsSetOf}
use Rattle.hedge.proofs.Collecting.{entries, order_of_entries}
use Rattle.prob_expr.specs.Tree.{tree, prob}
use Rattle.prob_expr.specs.declared.expr.Expr.{Expr}
use Rattle.prob_expr.specs.Vocabulary.{Trees, no_trees, views}
use Rattle.prob_expr.specs.View.{view}
use Rattle.treated_id.specs.Terms.{IsParentOf, IsTerm, AreTerms}

-- ---- the pillow
pub pillow_is : (g : MixedGraph) (near above pillow v : ℕ) → ((u : ℕ) → (has above u ≡ true → IsParentOf g near u) × (IsParentOf g near u → has above u ≡ true))
    → ((u : ℕ) → has pillow u ≡ ((has near u || has above u) && not (u == v)))
    → IsSetOf pillow (λ u. (u ≢ v) × ((has near u ≡ true) ⊎ IsParentOf g near u))
pillow_is g near above pillow v parents is = record {
  sound = λ u i. let q = and_parts _ _ (sym (is u) ∙ i) in (other u q.1, which u (or_cases _ _ q.0));
  complete = λ u p. is u ∙ and_from _ _ (inside u p.1) (let e = ne_eqb u v p.0 in rw e refl);
}
  where
    other : (u : ℕ) → not (u == v) ≡ true → u ≢ v
    other u n e = absurd (no (u == v) n (eq-eqb u v e))
      where
        no : (b : Bool) → not b ≡ true → b ≡ true → ⊥
        no b h k = absurd (grind (arith, h, k))

    which : (u : ℕ) → (has near u ≡ true) ⊎ (has above u ≡ true) → (has near u ≡ true) ⊎ IsParentOf g near u
    which u (inl i) = inl i
    which u (inr i) = inr ((parents u).0 i)

    inside : (u : ℕ) → (has near u ≡ true) ⊎ IsParentOf g near u → (has near u || has above u) ≡ true
    inside u (inl i) = or_left _ _ i
    inside u (inr p) = or_right _ _ ((parents u).1 p)

-- ---- the order
entries_taken : (list : List ℕ) (n : ℕ) → n ≤ length list → entries list n ≡ take n list
entries_taken list zero le = refl
entries_taken list (suc n) le = ap (λ l. l ++ get_or list n 0 ∷ []) (entries_taken list n (omega (arith, le))) ∙ sym (take-suc list n 0 (omega (arith, le)))

-- an array whose first entries are the graph's order holds, cut after them, that order
pub order_taken : (g : MixedGraph) (list : List ℕ) (count : ℕ) → count ≤ length list → IsOrder g list count
    → IsOrder g (take count list) (length (take count list))
order_taken g list count le o = subst (λ l. IsOrder g l (length l)) (entries_taken list count le) (order_of_entries g list count o)

-- ---- lists of terms
-- the views of a list, and then the rest
abbrev pub onto : List Expr → Trees → Trees
onto [] ts = ts
onto (e ∷ es) ts = tree (view e) (onto es ts)

onto_more : (es : List Expr) (e : Expr) (ts : Trees) → onto (es ++ e ∷ []) ts ≡ onto es (tree (view e) ts)
onto_more [] e ts = refl
onto_more (x ∷ es) e ts = ap (tree (view x)) (onto_more es e ts)

onto_none : (es : List Expr) → onto es no_trees ≡ views es
onto_none [] = refl
onto_none (e ∷ es) = ap (tree (view e)) (onto_none es)

-- whatever are the terms of the vertices from place i on completes those made to all
abbrev pub Listing : MixedGraph → List ℕ → (x s c p i : ℕ) → List Expr → Type 0
Listing g order x s c p i terms = (ts : Trees) → AreTerms g x s c p (drop i order) ts → AreTerms g x s c 0 order (onto terms ts)

module _ (g : MixedGraph) (order : List ℕ) (x s c : ℕ) where
  terms_at : (p i : ℕ) (ts : Trees) → i < length order → AreTerms g x s c p (get_or order i 0 ∷ drop (i + 1) order) ts → AreTerms g x s c p (drop i order) ts
  terms_at p i ts lt r = subst (λ (o : List ℕ). AreTerms g x s c p o ts) (sym (at_drop_more (λ o. o) order i 0 lt)) r

  pub listing_none : Listing g order x s c 0 0 []
  listing_none ts r = r

  pub listing_skip : (p p' i : ℕ) (terms : List Expr) → i < length order → has (minus s c) (get_or order i 0) ≡ false → p' ≡ union p (one (get_or order i 0))
      → Listing g order x s c p i terms → Listing g order x s c p' (i + 1) terms
  listing_skip p p' i terms lt out is so_far ts r =
      so_far ts (terms_at p i ts lt (AreTerms.skip out (subst (λ q. AreTerms g x s c q (drop (i + 1) order) ts) is r)))

  pub listing_take : (p p' i a given : ℕ) (term : Expr) (terms terms' : List Expr) → i < length order → has (minus s c) (get_or order i 0) ≡ true
      → p' ≡ union p (one (get_or order i 0)) → a ≡ union c (common s p') → view term ≡ prob (one (get_or order i 0)) 0 given
      → IsTerm g x a (get_or order i 0) given → terms' ≡ terms ++ term ∷ []
      → Listing g order x s c p i terms → Listing g order x s c p' (i + 1) terms'
  listing_take p p' i a given term terms terms' lt into is a_is term_is made more so_far ts r =
      subst (AreTerms g x s c 0 order) (ap (λ e. onto terms (tree e ts)) (sym term_is) ∙ sym (onto_more terms term ts) ∙ sym (ap (λ es. onto es ts) more))
      (so_far (tree (prob (one (get_or order i 0)) 0 given) ts) (terms_at p i _ lt (AreTerms.take into
      (subst (λ k. IsTerm g x k (get_or order i 0) given) (a_is ∙ ap (λ k. union c (common s k)) is) made)
      (subst (λ q. AreTerms g x s c q (drop (i + 1) order) ts) is r))))

  pub listing_all : (p i : ℕ) (terms : List Expr) → length order ≤ i → Listing g order x s c p i terms → AreTerms g x s c 0 order (views terms)
  listing_all p i terms le so_far = subst (AreTerms g x s c 0 order) (onto_none terms)
      (so_far no_trees (subst (λ (o : List ℕ). AreTerms g x s c p o no_trees) (sym (at_drop_all (λ o. o) order i le)) AreTerms.none))
