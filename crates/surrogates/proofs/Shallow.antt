-- The formula over experiments nests little, whatever the graph.
use Rattle.std.proofs.Common.{ℕ, zero, suc, ◌+◌, ◌≡◌, ◌⊎◌, inl, inr, Bool, true, false, cond, refl, sym, subst, ◌&&◌, List, [], ◌∷◌, ◌++◌, length}
use Rattle.do_derivation.specs.Vocabulary.{as_one, flat, appended}
use Rattle.identification_theory.proofs.Bools.{and_l, and_r, both_true}
use Rattle.identification_theory.specs.Procedure.IsFactor.{whole, summed, further}
use Rattle.identification_theory.specs.Vocabulary.{AreFactors, IsBody, IsFactor, Source, conditional, marginal, product_of, sum_if, are_defs_within, are_trees_within, is_tree_within}
use Rattle.identification_theory.proofs.Depth.{flat_more}
use Rattle.mixed_graph.specs.Vocabulary.{MixedGraph, is_empty, union, minus, one}
use Rattle.prob_expr.specs.Tree.{Tree, named, prob, product, quotient, sum, tree}
use Rattle.prob_expr.specs.Vocabulary.{PlainFormula, Trees, no_trees}
use Rattle.surrogates.specs.ExperimentLaws.{SurrogateIsShallow}
use Rattle.surrogates.specs.Surrogates.{AreFactoredWith, IsComposedOver, without}

sum_within : (d s : ℕ) (e : Tree) → is_tree_within d e ≡ true → is_tree_within (suc d) (sum_if s e) ≡ true
sum_within d s e h = go (is_empty s)
  where
    go : (b : Bool) → is_tree_within (suc d) (cond b e (sum s e)) ≡ true
    go true = flat_more d e h
    go false = h

conditional_within : (from : Source) (a v m : ℕ) → is_tree_within 3 (conditional from a v m) ≡ true
conditional_within (Source.Under z) a v m = refl
conditional_within (Source.Defined k) a v m = go (is_empty m)
  where
    go : (b : Bool) → is_tree_within 3 (cond b (marginal k a (one v)) (quotient (marginal k a (union m (one v))) (marginal k a m))) ≡ true
    go true = sum_within 2 (minus a (one v)) (named k) refl
    go false = both_true (is_tree_within 2 (marginal k a (union m (one v)))) (is_tree_within 2 (marginal k a m))
        (sum_within 1 (minus a (union m (one v))) (named k) refl) (sum_within 1 (minus a m) (named k) refl)

conditionals_within : (g : MixedGraph) (from : Source) (a t p : ℕ) (o : List ℕ) (fs : Trees) → AreFactors g from a t p o fs → are_trees_within 3 fs ≡ true
conditionals_within g from a t _ _ _ AreFactors.none = refl
conditionals_within g from a t _ _ _ (AreFactors.skip {p = p} {v = v} {o = o} {fs = fs} q r) = conditionals_within g from a t (union p (one v)) o fs r
conditionals_within g from a t _ _ _ (AreFactors.take {p = p} {v = v} {m = m} {o = o} {fs = fs} q pl r) =
    both_true (is_tree_within 3 (conditional from a v m)) (are_trees_within 3 fs) (conditional_within from a v m)
    (conditionals_within g from a t (union p (one v)) o fs r)

one_within : (d : ℕ) (fs : Trees) → are_trees_within d fs ≡ true → is_tree_within (suc d) (as_one fs) ≡ true
one_within d no_trees h = refl
one_within d (tree e no_trees) h = flat_more d e (and_l (is_tree_within d e) true h)
one_within d (tree e (tree f fs)) h = h

body_within : (g : MixedGraph) (o : List ℕ) (from : Source) (a t : ℕ) (e : Tree) → IsBody g o from a t e → is_tree_within 4 e ≡ true
body_within g o from a t e b = rw b.is (one_within 3 b.factors (conditionals_within g from a t 0 o b.factors b.are))

-- a factor nests at most 5 deep, and so do its definitions
factor_within : (g : MixedGraph) (o : List ℕ) (c a : ℕ) (from : Source) (k : ℕ) (ds : List Tree) (e : Tree) → IsFactor g o c a from k ds e
    → (are_defs_within 5 ds ≡ true) × (is_tree_within 5 e ≡ true)
factor_within g o c a from k _ e (whole d b) = (refl, flat_more 4 e (body_within g o from a c e b))
factor_within g o c a from k _ _ (summed {t = t} {e = e} d ne n b) = (refl, body_within g o from a t e b)
factor_within g o c a from k _ e (further {t = t} {a2 = a2} {b = x} {ds = ds} d ne n m q b next) =
    let r = factor_within g o c a2 (Source.Defined k) (suc k) ds e next in
    (both_true (is_tree_within 4 x) (are_defs_within 5 ds) (body_within g o from a t x b) r.0, r.1)

defs_append : (ds es : List Tree) → are_defs_within 5 ds ≡ true → are_defs_within 5 es ≡ true → are_defs_within 5 (ds ++ es) ≡ true
defs_append [] es h k = k
defs_append (d ∷ ds) es h k = both_true (is_tree_within 5 d) (are_defs_within 5 (ds ++ es)) (and_l (is_tree_within 5 d) (are_defs_within 5 ds) h)
    (defs_append ds es (and_r (is_tree_within 5 d) (are_defs_within 5 ds) h) k)

factored_within : (g : MixedGraph) (zs : List ℕ) (k : ℕ) (cs : List ℕ) (ds : List Tree) (fs : Trees) → AreFactoredWith g zs k cs ds fs
    → (are_defs_within 5 ds ≡ true) × (are_trees_within 5 fs ≡ true)
factored_within g zs _ _ _ _ AreFactoredWith.none = (refl, refl)
factored_within g zs _ _ _ _ (AreFactoredWith.next {k = k} {c = c} {z = z} {cs = cs} {ds = ds} {es = es} {e = e} {fs = fs} first f r) =
    let x = factor_within (without g z) f.order c f.a (Source.Under z) k ds e f.factor in
    let y = factored_within g zs (k + length ds) cs es fs r in
    (defs_append ds es x.0 y.0, both_true (is_tree_within 5 e) (are_trees_within 5 fs) x.1 y.1)

joined_within : (d : ℕ) (es fs : Trees) → are_trees_within d es ≡ true → are_trees_within d fs ≡ true → are_trees_within d (appended es fs) ≡ true
joined_within d no_trees fs h k = k
joined_within d (tree e es) fs h k = both_true (is_tree_within d e) (are_trees_within d (appended es fs)) (and_l (is_tree_within d e) (are_trees_within d es) h)
    (joined_within d es fs (and_r (is_tree_within d e) (are_trees_within d es) h) k)

flat_within : (fs : Trees) → are_trees_within 5 fs ≡ true → are_trees_within 5 (flat fs) ≡ true
flat_within no_trees h = refl
flat_within (tree (product es) fs) h = joined_within 5 es (flat fs) (flat_more 5 (product es) (and_l (are_trees_within 4 es) (are_trees_within 5 fs) h))
    (flat_within fs (and_r (are_trees_within 4 es) (are_trees_within 5 fs) h))
flat_within (tree (prob a b c) fs) h = flat_within fs h
flat_within (tree (sum u e) fs) h = both_true (is_tree_within 5 (sum u e)) (are_trees_within 5 (flat fs))
    (and_l (is_tree_within 5 (sum u e)) (are_trees_within 5 fs) h) (flat_within fs (and_r (is_tree_within 5 (sum u e)) (are_trees_within 5 fs) h))
flat_within (tree (quotient p q) fs) h = both_true (is_tree_within 5 (quotient p q)) (are_trees_within 5 (flat fs))
    (and_l (is_tree_within 5 (quotient p q)) (are_trees_within 5 fs) h) (flat_within fs (and_r (is_tree_within 5 (quotient p q)) (are_trees_within 5 fs) h))
flat_within (tree (named j) fs) h = flat_within fs h

product_within : (fs : Trees) → are_trees_within 5 fs ≡ true → is_tree_within 6 (product_of fs) ≡ true
product_within no_trees h = refl
product_within (tree e no_trees) h = flat_more 5 e (and_l (is_tree_within 5 e) true h)
product_within (tree e (tree f fs)) h = flat_within (tree e (tree f fs)) h

-- the formula over experiments nests at most 7 deep in main and 5 in a definition
pub surrogate_is_shallow : SurrogateIsShallow
surrogate_is_shallow g zs x y f s = go s.answer
  where
    go : ((x ≡ 0) × (f ≡ record { defs = []; main = prob y 0 0 })) ⊎ ((x ≡ 0 → ⊥) × IsComposedOver g s.order zs x y f)
        → (are_defs_within 5 f.defs ≡ true) × (is_tree_within 7 f.main ≡ true)
    go (inl e) = subst (λ f. (are_defs_within 5 f.defs ≡ true) × (is_tree_within 7 f.main ≡ true)) (sym e.1) (refl, refl)
    go (inr c) =
        let t = c.1 in
        let h = factored_within g zs 0 t.split.districts f.defs t.factors t.are_factored in
        (h.0, rw t.main (sum_within 6 (minus t.split.d y) (product_of t.factors) (product_within t.factors h.1)))
