-- One step of the loops over lists, and their ends.
use Rattle.std.proofs.Common.{ℕ, zero, suc, ◌+◌, ◌≡◌, ◌<◌, ◌≤◌, Bool, true, false, eqb, ltb, ◌&&◌, refl, sym, ap, ap₂, ◌∙◌, List, [], ◌∷◌, ◌++◌}
use Rattle.std.proofs.Common.{length, get_or, drop, arith, ltb-true, eqb-true, ne_eqb, subst}
use Rattle.std.specs.Global.{Vec}
use Rattle.std.proofs.lemmas.List.{at_drop_more, at_drop_all}
use Rattle.mixed_graph.specs.Vocabulary.{has, MixedGraph, one, union, minus}
use Rattle.finite_models.proofs.Bools.{and_first, and_second}
use Rattle.prob_expr.specs.Tree.{Tree, prob, sum, product, quotient, named, tree}
use Rattle.prob_expr.specs.declared.expr.Expr.{Expr}
use Rattle.prob_expr.specs.Vocabulary.{Trees, no_trees, views}
use Rattle.prob_expr.specs.View.{view}
use Rattle.do_derivation.specs.View.{numbers_of}
use Rattle.do_derivation.specs.Shapes.{is_list_of, chained, appended, flat, has_product, picked, as_one, groups_of, times_in, each_below, all_of}
use Rattle.do_derivation.specs.Shapes.{grouped, is_grouping, unwrapped}
use Rattle.do_derivation.specs.Steps.{IsMade, RowRefuses}
use Rattle.do_derivation.specs.Table.{if_made}
use Rattle.do_derivation.specs.declared.faults.StepFault.TheVariants.{Grouping, Shape}
use Rattle.do_derivation.proofs.Lists.{joined-nothing, joined_more, each_below_append, times_in_append, picked_some, count_views, views_append}

pub list_fails : (list : List ℕ) (i rest : ℕ) → i < length list → has rest (get_or list i 0) ≡ false → is_list_of (drop i list) rest ≡ false
list_fails list i rest lt h = at_drop_more (λ l. is_list_of l rest) list i 0 lt ∙ rw h refl

pub chained_step : (made : List Expr) (b c c' : ℕ) (list : List ℕ) (i : ℕ) (x : Expr) → i < length list → view x ≡ prob (one (get_or list i 0)) b c → c'
    ≡ union c (one (get_or list i 0))
    → appended (views (made ++ x ∷ [])) (chained b c' (drop (i + 1) list)) ≡ appended (views made) (chained b c (drop i list))
chained_step made b c c' list i x lt h k =
    joined_more made x (chained b c' (drop (i + 1) list))
    ∙ ap (λ t. appended (views made) t) (ap₂ (λ y d. tree y (chained b d (drop (i + 1) list))) h k ∙ sym (at_drop_more (λ l. chained b c l) list i 0 lt))

any_default : (list : List ℕ) (i d : ℕ) → i < length list → get_or list i d ≡ get_or list i 0
any_default [] i d lt = absurd (omega arith)
any_default (v ∷ list) zero d lt = refl
any_default (v ∷ list) (suc i) d lt = any_default list i d (omega arith)

pub small_more : (list : List ℕ) (i : ℕ) → i < length list → ((k d : ℕ) → k < i → get_or list k d < 64) → get_or list i 0 < 64 → (k d : ℕ) → k < i + 1
    → get_or list k d < 64
small_more list i lt before now k d le = go (eqb k i) refl
  where
    go : (b : Bool) → eqb k i ≡ b → get_or list k d < 64
    go true same = subst (λ j. get_or list j d < 64) (sym (eqb-true k i same)) (rw (any_default list i d lt) now)
    go false other = before k d (let e : k ≡ i → ⊥ = λ same. absurd (grind (arith, same, other)) in omega arith)

pub list_step : (list : List ℕ) (i rest rest' : ℕ) → i < length list → has rest (get_or list i 0) ≡ true → rest' ≡ minus rest (one (get_or list i 0))
    → is_list_of (drop (i + 1) list) rest' ≡ is_list_of (drop i list) rest
list_step list i rest rest' lt h e = rw e (sym (at_drop_more (λ l. is_list_of l rest) list i 0 lt ∙ rw h refl))

pub walk_end : {X : Type 0} (F : List X → Trees) (made : List Expr) (list : List X) (i : ℕ) → length list ≤ i → F [] ≡ no_trees
    → appended (views made) (F (drop i list)) ≡ views made
walk_end {X} F made list i le none = ap (λ t. appended (views made) t) (at_drop_all F list i le ∙ none) ∙ joined-nothing (views made)

-- ---- groups of numbers
module _ (items : List (Vec ℕ)) (i : ℕ) (e : Vec ℕ) (lt : i < length items) (is : e ≡ get_or items i e) where
  pub all_of_more : all_of (numbers_of (drop i items)) ≡ e.items ++ all_of (numbers_of (drop (i + 1) items))
  all_of_more = at_drop_more (λ l. all_of (numbers_of l)) items i e lt ∙ ap (λ (x : Vec ℕ). x.items ++ all_of (numbers_of (drop (i + 1) items))) (sym is)

  pub below_more : (m : ℕ) → each_below m (all_of (numbers_of (drop i items)))
      ≡ (each_below m e.items && each_below m (all_of (numbers_of (drop (i + 1) items))))
  below_more m = ap (λ l. each_below m l) all_of_more ∙ each_below_append m e.items (all_of (numbers_of (drop (i + 1) items)))

  pub below_fails : (m : ℕ) → each_below m e.items ≡ false → each_below m (all_of (numbers_of (drop i items))) ≡ false
  below_fails m h = below_more m ∙ rw h refl

  pub below_holds : (m : ℕ) → each_below m e.items ≡ true → each_below m (all_of (numbers_of (drop (i + 1) items)))
      ≡ each_below m (all_of (numbers_of (drop i items)))
  below_holds m h = sym (below_more m ∙ rw h refl)

  pub times_more : (k : ℕ) → times_in k (all_of (numbers_of (drop i items))) ≡ times_in k e.items + times_in k (all_of (numbers_of (drop (i + 1) items)))
  times_more k = ap (λ l. times_in k l) all_of_more ∙ times_in_append k e.items (all_of (numbers_of (drop (i + 1) items)))

  pub groups_step : (es made : List Expr) (x : Expr) → view x ≡ as_one (picked (views es) e.items)
      → appended (views (made ++ x ∷ [])) (groups_of (views es) (numbers_of (drop (i + 1) items)))
      ≡ appended (views made) (groups_of (views es) (numbers_of (drop i items)))
  groups_step es made x h =
      joined_more made x (groups_of (views es) (numbers_of (drop (i + 1) items)))
      ∙ ap (λ t. appended (views made) t) (ap (λ y. tree y (groups_of (views es) (numbers_of (drop (i + 1) items))))
      (h ∙ ap (λ (y : Vec ℕ). as_one (picked (views es) y.items)) is)
      ∙ sym (at_drop_more (λ l. groups_of (views es) (numbers_of l)) items i e lt))

pub below_group : (m : ℕ) (items : List (Vec ℕ)) (i : ℕ) (e : Vec ℕ) → i < length items → e ≡ get_or items i e → each_below m (all_of (numbers_of items))
    ≡ true → each_below m e.items ≡ true
below_group m [] i e lt is h = absurd (omega arith)
below_group m (x ∷ items) zero e lt is h =
    rw is (and_first (each_below m x.items) (each_below m (all_of (numbers_of items))) (sym (each_below_append m x.items (all_of (numbers_of items))) ∙ h))
below_group m (x ∷ items) (suc i) e lt is h =
    below_group m items i e (omega arith) is (and_second (each_below m x.items) (each_below m (all_of (numbers_of items)))
    (sym (each_below_append m x.items (all_of (numbers_of items))) ∙ h))

pub not_once : (n : ℕ) → 2 ≤ n → false ≡ eqb n 1
not_once n le = sym (ne_eqb n 1 (omega arith))

pub below_at : (m : ℕ) (l : List ℕ) (k : ℕ) → each_below m l ≡ true → k < length l → get_or l k 0 < m
below_at m [] k h lt = absurd (omega arith)
below_at m (j ∷ l) zero h lt = ltb-true j m (and_first (ltb j m) (each_below m l) h)
below_at m (j ∷ l) (suc k) h lt = below_at m l k (and_second (ltb j m) (each_below m l) h) (omega arith)

pub picked_step : (es made : List Expr) (nums : List ℕ) (k : ℕ) (x y : Expr) → k < length nums → get_or nums k 0 < length es → y
    ≡ get_or es (get_or nums k 0) y → view x ≡ view y
    → appended (views (made ++ x ∷ [])) (picked (views es) (drop (k + 1) nums)) ≡ appended (views made) (picked (views es) (drop k nums))
picked_step es made nums k x y lt low is same =
    joined_more made x (picked (views es) (drop (k + 1) nums))
    ∙ ap (λ t. appended (views made) t) (ap (λ z. tree z (picked (views es) (drop (k + 1) nums)))
    (same ∙ ap view is ∙ sym (picked_some es (get_or nums k 0) y low))
    ∙ sym (at_drop_more (λ l. picked (views es) l) nums k 0 lt))

pub as_one_many : (es : List Expr) → (length es ≡ 1 → ⊥) → as_one (views es) ≡ product (views es)
as_one_many [] ne = refl
as_one_many (e ∷ []) ne = absurd (ne refl)
as_one_many (e ∷ f ∷ es) ne = refl

-- ---- products
module _ (g : MixedGraph) (l : List (List ℕ)) (e : Tree) (es : List Expr) (seen : e ≡ product (views es)) where
  pub group_refused : is_grouping (length es) l ≡ false → RowRefuses g (if_made (grouped l e) Grouping) Grouping
  group_refused h = rw (seen, count_views es, h) refl

  pub group_made : is_grouping (length es) l ≡ true → (x : Tree) → x ≡ product (groups_of (views es) l) → IsMade g (if_made (grouped l e) Grouping) x
  group_made h x same = rw (seen, count_views es, h) same

  pub unwrap_refused : has_product (views es) ≡ false → RowRefuses g (if_made (unwrapped e) Shape) Shape
  unwrap_refused h = rw (seen, h) refl

  pub unwrap_made : has_product (views es) ≡ true → (x : Tree) → x ≡ product (flat (views es)) → IsMade g (if_made (unwrapped e) Shape) x
  unwrap_made h x same = rw (seen, h) same

pub flat_other : (t : Tree) → has_product (tree t no_trees) ≡ false → flat (tree t no_trees) ≡ tree t no_trees
flat_other (prob a b c) h = refl
flat_other (sum u e) h = refl
flat_other (product es) h = absurd (grind (arith, h))
flat_other (quotient p q) h = refl
flat_other (named k) h = refl

pub flat_product : (old inner : List Expr) (t : Tree) → t ≡ product (views inner) → views (old ++ inner) ≡ appended (views old) (flat (tree t no_trees))
flat_product old inner t e = views_append old inner ∙ ap (λ u. appended (views old) u)
    (sym (joined-nothing (views inner)) ∙ ap (λ u. flat (tree u no_trees)) (sym e))
