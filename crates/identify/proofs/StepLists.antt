-- The districts, the orders and the steps of main, as derivations have them.
use Rattle.std.proofs.Common.{ℕ, suc, ◌≡◌, ◌≤◌, Bool, true, false, cond, leb, refl, sym, ap, ap₂, ◌∙◌, List, [], ◌∷◌, length, take, map, All, arith, le-leb}
use Rattle.std.proofs.lemmas.List.{take-map}
use Rattle.std.proofs.lemmas.List.Elements.{All-nil, All-cons}
use Rattle.mixed_graph.specs.declared.sets.VSet.{VSet}
use Rattle.mixed_graph.specs.Vocabulary.{has, minus, all, is_empty, common}
use Rattle.std.specs.Global.{Vec}
use Rattle.do_derivation.specs.Plans.{Move, Plan, Plans, plan}
use Rattle.do_derivation.specs.declared.steps.Step.{Make}
use Rattle.do_derivation.specs.declared.moves.Move.TheVariants.{WithSet}
use Rattle.do_derivation.specs.Vocabulary.{no_plans, flat, step_view, steps_view}
use Rattle.do_derivation.specs.declared.steps.Step.{Step}
use Rattle.do_derivation.proofs.StepViews.{step-Make}
use Rattle.do_derivation.specs.declared.moves.SetMove.TheVariants as set_move
use Rattle.do_derivation.specs.declared.moves.BareMove.TheVariants as bare_move
use Rattle.hedge.specs.Vocabulary.{first_masks}
use Rattle.prob_expr.specs.Tree.{product}
use Rattle.prob_expr.specs.declared.expr.Expr.{Expr}
use Rattle.prob_expr.specs.Vocabulary.{Trees, views}
use Rattle.prob_expr.specs.View.{view}
use Rattle.identification_theory.specs.Vocabulary.{product_of, Lists, single, with_set, at_place, at_each, at_zero, in_order, two_or_more, unchain_steps, unwrap_steps, home_list, home_lists, group_steps, district_steps, main_steps}
use Rattle.identify.specs.Lists.{lists_view}

-- ---- the sets of districts
pub masks_taken : (sets : List VSet) (n : ℕ) → first_masks sets n ≡ map (λ (s : VSet). s.bits) (take n sets)
masks_taken sets n = take-map (λ (s : VSet). s.bits) n sets

-- ---- orders
-- the members of a set keep what is true of all of the order
pub in_order_all : (P : ℕ → Type 0) (t : ℕ) (l : List ℕ) → All P l → All P (in_order t l)
in_order_all P t [] h = All-nil P
in_order_all P t (v ∷ l) h = go (has t v) (in_order_all P t l (λ k d lt. h (suc k) d (omega arith)))
  where
    go : (b : Bool) → All P (in_order t l) → All P (cond b (v ∷ in_order t l) (in_order t l))
    go true rest = All-cons P v (in_order t l) (h 0 v (omega arith)) rest
    go false rest = rest

pub two_from : (l : List ℕ) → leb 2 (length l) ≡ two_or_more l
two_from [] = refl
two_from (v ∷ []) = refl
two_from (v ∷ w ∷ l) = le-leb 2 (length (v ∷ w ∷ l)) (omega arith)

pub unchain_is : (l : List ℕ) → unchain_steps l ≡ cond (two_or_more l) (single (Plan.Make (Move.Bare bare_move.Unchain))) no_plans
unchain_is [] = refl
unchain_is (v ∷ []) = refl
unchain_is (v ∷ w ∷ l) = refl

-- ---- products
pub flat_is : (es : List Expr) → (length es ≡ 1 → ⊥) → product (flat (views es)) ≡ product_of (views es)
flat_is [] ne = refl
flat_is (e ∷ []) ne = absurd (ne refl)
flat_is (e ∷ f ∷ es) ne = refl

pub alone_is : (e : Expr) → product_of (views (e ∷ [])) ≡ view e
alone_is e = refl

-- ---- the steps of main
pub home_is : (d t p : ℕ) (e f : VSet) → e.bits ≡ minus (common d p) t → f.bits ≡ minus (minus d t) (minus (common d p) t)
    → with_set e.bits (step_view (Make (WithSet set_move.Rule2Do e))) (with_set f.bits (step_view (Make (WithSet set_move.Rule3In f))) no_plans) ≡ home_list d t p
home_is d t p e f a b =
    ap₂ (λ r s. with_set e.bits r (with_set f.bits s no_plans)) (step-Make (WithSet set_move.Rule2Do e)) (step-Make (WithSet set_move.Rule3In f))
    ∙ ap₂ (λ z w. with_set z (Plan.Make (Move.WithSet set_move.Rule2Do z)) (with_set w (Plan.Make (Move.WithSet set_move.Rule3In w)) no_plans)) a b

pub main_flat : (n x y d : ℕ) (o f : VSet) (rest : Plans) → o.bits ≡ minus (minus (all n) x) d → f.bits ≡ minus d y → is_empty f.bits ≡ true
    → with_set o.bits (step_view (Make (WithSet set_move.Rule3In o))) rest ≡ main_steps n x y d rest
main_flat n x y d o f rest a b e =
    ap (λ s. with_set o.bits s rest) (step-Make (WithSet set_move.Rule3In o)) ∙ ap (λ z. with_set z (Plan.Make (Move.WithSet set_move.Rule3In z)) rest) a
    ∙ ap (λ t. with_set (minus (minus (all n) x) d) (Plan.Make (Move.WithSet set_move.Rule3In (minus (minus (all n) x) d)))
    (cond t rest (plan (Plan.Make (Move.WithSet set_move.Widen (minus d y))) (at_zero rest)))) (sym (ap is_empty (sym b) ∙ e))

pub main_wide : (n x y d : ℕ) (o f : VSet) (rest : Plans) → o.bits ≡ minus (minus (all n) x) d → f.bits ≡ minus d y → is_empty f.bits ≡ false
    → with_set o.bits (step_view (Make (WithSet set_move.Rule3In o))) (plan (step_view (Make (WithSet set_move.Widen f))) (at_place 0 rest no_plans)) ≡ main_steps n x y d rest
main_wide n x y d o f rest a b e =
    ap₂ (λ r s. with_set o.bits r (plan s (at_zero rest))) (step-Make (WithSet set_move.Rule3In o)) (step-Make (WithSet set_move.Widen f))
    ∙ ap₂ (λ z w. with_set z (Plan.Make (Move.WithSet set_move.Rule3In z)) (plan (Plan.Make (Move.WithSet set_move.Widen w)) (at_zero rest))) a b
    ∙ ap (λ t. with_set (minus (minus (all n) x) d) (Plan.Make (Move.WithSet set_move.Rule3In (minus (minus (all n) x) d)))
    (cond t rest (plan (Plan.Make (Move.WithSet set_move.Widen (minus d y))) (at_zero rest)))) (sym (ap is_empty (sym b) ∙ e))

pub no_districts : (order : List ℕ) (d : ℕ) (ts : List ℕ) (ls : Lists) (fs : Trees) → length ts ≡ 0 → no_plans ≡ district_steps order d ts ls fs
no_districts order d [] ls fs e = refl
no_districts order d (t ∷ ts) ls fs e = absurd (omega (arith, e))

pub one_district : (order : List ℕ) (d : ℕ) (ts : List ℕ) (ls : List (Vec Step)) (l : Vec Step) (fs : Trees) → ls ≡ l ∷ [] → length ls ≡ length ts
    → steps_view l.items ≡ district_steps order d ts (lists_view ls) fs
one_district order d [] ls l fs e n = absurd (let k : length ls ≡ 1 = ap length e in omega (arith, k, n))
one_district order d (t ∷ []) ls l fs e n = ap (λ z. district_steps order d (t ∷ []) (lists_view z) fs) (sym e)
one_district order d (t ∷ s ∷ ts) ls l fs e n = absurd (let k : length ls ≡ 1 = ap length e in omega (arith, k, n))

pub more_districts : (order : List ℕ) (d : ℕ) (ts : List ℕ) (ls : Lists) (fs : Trees) → 2 ≤ length ts
    → plan (Plan.Make (Move.Chain (in_order d order))) (at_each 0 (home_lists d ts 0 order)
    (group_steps order (in_order d order) ts (at_each 0 ls (unwrap_steps fs)))) ≡ district_steps order d ts ls fs
more_districts order d [] ls fs le = absurd (omega (arith, le))
more_districts order d (t ∷ []) ls fs le = absurd (omega (arith, le))
more_districts order d (t ∷ s ∷ ts) ls fs le = refl
