-- The factors of a district's vertices and their lists, one vertex after the other.
use Rattle.std.proofs.Common.{◌≡◌, ℕ, suc, ◌∷◌, cond, ◌+◌, ◌<◌, ◌≤◌, true, false, List, [], ◌++◌, length, get_or, drop, refl, sym, ap, ◌∙◌, subst}
use Rattle.std.specs.Global.{Vec}
use Rattle.std.proofs.lemmas.List.{at_drop_more, at_drop_all}
use Rattle.mixed_graph.specs.Vocabulary.{has, MixedGraph, union, one}
use Rattle.prob_expr.specs.Tree.{tree}
use Rattle.prob_expr.specs.declared.expr.Expr.{Expr}
use Rattle.prob_expr.specs.Vocabulary.{Trees, no_trees, views}
use Rattle.do_derivation.specs.Vocabulary.{appended}
use Rattle.do_derivation.specs.declared.steps.Step.{Step}
use Rattle.do_derivation.proofs.Lists.{joined_more, joined-nothing}
use Rattle.identification_theory.specs.Vocabulary.{Source, conditional, AreFactors, Lists, no_more, more, ArePlaceLists, universe, place_list, source_steps, in_order}
use Rattle.identify.specs.declared.factors.place.VertexFactor.{VertexFactor}
use Rattle.identify.specs.declared.wanted.Wanted.{Wanted}
use Rattle.identify.specs.declared.wanted.Wanted.TheVariants.{Derivation}
use Rattle.identify.specs.Bodies.{IsPlaceOf}
use Rattle.identify.specs.Lists.{lists_onto, lists_view}
use Rattle.identify.proofs.Steps.{lists_more}

-- whatever are the factors and lists of the vertices from place i on completes those made to all
pub record Placing (wanted : Wanted) (g : MixedGraph) (order : List ℕ) (from : Source) (a t p i : ℕ) (factors : List Expr)
    (lists : List (Vec Step)) : Type 0 where
  pub factored : (fs : Trees) → AreFactors g from a t p (drop i order) fs → AreFactors g from a t 0 order (appended (views factors) fs)
  pub placed : wanted ≡ Derivation → (ls : Lists) → ArePlaceLists g from a t p (drop i order) ls → ArePlaceLists g from a t 0 order (lists_onto lists ls)

module _ (wanted : Wanted) (g : MixedGraph) (order : List ℕ) (from : Source) (a t : ℕ) where
  abbrev vertex : ℕ → ℕ
  vertex i = get_or order i 0

  factors_at : (p i : ℕ) (fs : Trees) → i < length order → AreFactors g from a t p (vertex i ∷ drop (i + 1) order) fs
      → AreFactors g from a t p (drop i order) fs
  factors_at p i fs lt r = subst (λ (o : List ℕ). AreFactors g from a t p o fs) (sym (at_drop_more (λ o. o) order i 0 lt)) r

  lists_at : (p i : ℕ) (ls : Lists) → i < length order → ArePlaceLists g from a t p (vertex i ∷ drop (i + 1) order) ls
      → ArePlaceLists g from a t p (drop i order) ls
  lists_at p i ls lt r = subst (λ (o : List ℕ). ArePlaceLists g from a t p o ls) (sym (at_drop_more (λ o. o) order i 0 lt)) r

  pub placing_none : Placing wanted g order from a t 0 0 [] []
  placing_none = record { factored = λ fs r. r; placed = λ w ls r. r }

  pub placing_skip : (p p' i : ℕ) (factors : List Expr) (lists : List (Vec Step)) → i < length order → has t (vertex i) ≡ false → p' ≡ union p (one (vertex i))
      → Placing wanted g order from a t p i factors lists → Placing wanted g order from a t p' (i + 1) factors lists
  placing_skip p p' i factors lists lt out is so_far = record {
    factored = λ fs r. so_far.factored fs (factors_at p i fs lt (AreFactors.skip out (subst (λ q. AreFactors g from a t q (drop (i + 1) order) fs) is r)));
    placed = λ w ls r. so_far.placed w ls (lists_at p i ls lt (ArePlaceLists.skip out (subst (λ q. ArePlaceLists g from a t q (drop (i + 1) order) ls) is r)));
  }

  pub placing_take : (p p' i : ℕ) (factors factors' : List Expr) (lists lists' : List (Vec Step)) (found : VertexFactor) → i < length order → has t (vertex i)
      ≡ true → p' ≡ union p (one (vertex i)) →
      IsPlaceOf wanted g from a t p (vertex i) found → factors' ≡ factors ++ found.term ∷ [] → lists' ≡ lists ++ found.steps ∷ []
      → Placing wanted g order from a t p i factors lists → Placing wanted g order from a t p' (i + 1) factors' lists'
  placing_take p p' i factors factors' lists lists' found lt into is k more_factors more_lists so_far = record {
    factored = λ fs r. subst (AreFactors g from a t 0 order) (ap (λ e. appended (views factors) (tree e fs)) (sym k.term)
        ∙ sym (joined_more factors found.term fs) ∙ sym (ap (λ es. appended (views es) fs) more_factors))
        (so_far.factored (tree (conditional from a (vertex i) k.m) fs)
        (factors_at p i _ lt (AreFactors.take into k.pillow (subst (λ q. AreFactors g from a t q (drop (i + 1) order) fs) is r))));
    placed = λ w ls r. subst (ArePlaceLists g from a t 0 order) (ap (λ l. lists_onto lists (more l ls)) (sym (k.steps w))
        ∙ sym (lists_more lists found.steps ls) ∙ sym (ap (λ l. lists_onto l ls) more_lists))
        (so_far.placed w (more (place_list p (universe g.vertices from a) a t k.m (source_steps from a (vertex i) k.m)) ls)
        (lists_at p i _ lt (ArePlaceLists.take into k.pillow (subst (λ q. ArePlaceLists g from a t q (drop (i + 1) order) ls) is r))));
  }

  pub placing_factors : (p i : ℕ) (factors : List Expr) (lists : List (Vec Step)) → length order ≤ i → Placing wanted g order from a t p i factors lists
      → AreFactors g from a t 0 order (views factors)
  placing_factors p i factors lists le so_far = subst (AreFactors g from a t 0 order) (joined-nothing (views factors))
      (so_far.factored no_trees (subst (λ (o : List ℕ). AreFactors g from a t p o no_trees) (sym (at_drop_all (λ o. o) order i le)) AreFactors.none))

  pub placing_lists : (p i : ℕ) (factors : List Expr) (lists : List (Vec Step)) → length order ≤ i → Placing wanted g order from a t p i factors lists
      → wanted ≡ Derivation → ArePlaceLists g from a t 0 order (lists_view lists)
  placing_lists p i factors lists le so_far w = so_far.placed w no_more (subst (λ (o : List ℕ). ArePlaceLists g from a t p o no_more)
      (sym (at_drop_all (λ o. o) order i le)) ArePlaceLists.none)

-- how many lists there are
abbrev pub count_lists : Lists → ℕ
count_lists no_more = 0
count_lists (more l ls) = suc (count_lists ls)

pub count_lists_of : (lists : List (Vec Step)) → count_lists (lists_view lists) ≡ length lists
count_lists_of [] = refl
count_lists_of (l ∷ lists) = ap suc (count_lists_of lists)

-- one for each member of t in the order
pub one_list_each : (g : MixedGraph) (from : Source) (a t p : ℕ) (o : List ℕ) (ls : Lists) → ArePlaceLists g from a t p o ls → count_lists ls
    ≡ length (in_order t o)
one_list_each g from a t _ _ _ ArePlaceLists.none = refl
one_list_each g from a t _ _ _ (ArePlaceLists.skip {p = p} {v = v} {o = o} {ls = ls} out r) =
    one_list_each g from a t (union p (one v)) o ls r ∙ ap (λ b. length (cond b (v ∷ in_order t o) (in_order t o))) (sym out)
one_list_each g from a t _ _ _ (ArePlaceLists.take {p = p} {v = v} {o = o} {ls = ls} into pillow r) =
    ap suc (one_list_each g from a t (union p (one v)) o ls r) ∙ ap (λ b. length (cond b (v ∷ in_order t o) (in_order t o))) (sym into)
