-- The formula of identification nests little, whatever the graph.
use Rattle.std.proofs.Common.{ℕ, zero, suc, ◌+◌, ◌≡◌, Bool, true, false, cond, refl, ◌&&◌, List, [], ◌∷◌, ◌++◌, length, arith}
use Rattle.do_derivation.specs.Vocabulary.{as_one, flat, appended}
use Rattle.identification_theory.proofs.Bools.{and_l, and_r, both_true}
use Rattle.identification_theory.specs.Procedure.IsFactor.{whole, summed, further}
use Rattle.identification_theory.specs.Procedure.{AreFactored, AreFactors, IsBody, IsComposed, IsFactor, Source, conditional, marginal, product_of, sum_if}
use Rattle.identification_theory.specs.AnswerDepth.{are_defs_within, are_trees_within, is_tree_within}
use Rattle.mixed_graph.specs.Vocabulary.{MixedGraph, is_empty, union, minus, one}
use Rattle.prob_expr.specs.Tree.{Tree, named, prob, product, quotient, sum, tree}
use Rattle.prob_expr.specs.Vocabulary.{PlainFormula, Trees, no_trees}

mutual
  -- a tree of at most d nodes in depth has at most d + 1
  pub flat_more : (d : ℕ) (e : Tree) → is_tree_within d e ≡ true → is_tree_within (suc d) e ≡ true
  flat_more zero e h = absurd (grind (arith, h))
  flat_more (suc d) (prob a b c) h = refl
  flat_more (suc d) (sum u e) h = flat_more d e h
  flat_more (suc d) (product fs) h = flat_more_each d fs h
  flat_more (suc d) (quotient p q) h = both_true (is_tree_within (suc d) p) (is_tree_within (suc d) q)
      (flat_more d p (and_l (is_tree_within d p) (is_tree_within d q) h)) (flat_more d q (and_r (is_tree_within d p) (is_tree_within d q) h))
  flat_more (suc d) (named j) h = refl

  flat_more_each : (d : ℕ) (fs : Trees) → are_trees_within d fs ≡ true → are_trees_within (suc d) fs ≡ true
  flat_more_each d no_trees h = refl
  flat_more_each d (tree e fs) h = both_true (is_tree_within (suc d) e) (are_trees_within (suc d) fs)
      (flat_more d e (and_l (is_tree_within d e) (are_trees_within d fs) h)) (flat_more_each d fs (and_r (is_tree_within d e) (are_trees_within d fs) h))

sum_flat : (d s : ℕ) (e : Tree) → is_tree_within d e ≡ true → is_tree_within (suc d) (sum_if s e) ≡ true
sum_flat d s e h = go (is_empty s)
  where
    go : (b : Bool) → is_tree_within (suc d) (cond b e (sum s e)) ≡ true
    go true = flat_more d e h
    go false = h

factor_flat : (from : Source) (a v m : ℕ) → is_tree_within 3 (conditional from a v m) ≡ true
factor_flat (Source.Under z) a v m = refl
factor_flat (Source.Defined k) a v m = go (is_empty m)
  where
    go : (b : Bool) → is_tree_within 3 (cond b (marginal k a (one v)) (quotient (marginal k a (union m (one v))) (marginal k a m))) ≡ true
    go true = sum_flat 2 (minus a (one v)) (named k) refl
    go false = both_true (is_tree_within 2 (marginal k a (union m (one v)))) (is_tree_within 2 (marginal k a m))
        (sum_flat 1 (minus a (union m (one v))) (named k) refl) (sum_flat 1 (minus a m) (named k) refl)

factors_flat : (g : MixedGraph) (from : Source) (a t p : ℕ) (o : List ℕ) (fs : Trees) → AreFactors g from a t p o fs → are_trees_within 3 fs ≡ true
factors_flat g from a t _ _ _ AreFactors.none = refl
factors_flat g from a t _ _ _ (AreFactors.skip {p = p} {v = v} {o = o} {fs = fs} q r) = factors_flat g from a t (union p (one v)) o fs r
factors_flat g from a t _ _ _ (AreFactors.take {p = p} {v = v} {m = m} {o = o} {fs = fs} q pl r) =
    both_true (is_tree_within 3 (conditional from a v m)) (are_trees_within 3 fs) (factor_flat from a v m) (factors_flat g from a t (union p (one v)) o fs r)

one_flat : (d : ℕ) (fs : Trees) → are_trees_within d fs ≡ true → is_tree_within (suc d) (as_one fs) ≡ true
one_flat d no_trees h = refl
one_flat d (tree e no_trees) h = flat_more d e (and_l (is_tree_within d e) true h)
one_flat d (tree e (tree f fs)) h = h

body_flat : (g : MixedGraph) (o : List ℕ) (from : Source) (a t : ℕ) (e : Tree) → IsBody g o from a t e → is_tree_within 4 e ≡ true
body_flat g o from a t e b = rw b.is (one_flat 3 b.factors (factors_flat g from a t 0 o b.factors b.are))

-- A factor is a sum of a product of factors of depth 3, or such a product: its factors, where it is a product, are of depth 3.
abbrev pub is_part_flat : Tree → Bool
is_part_flat (product fs) = are_trees_within 3 fs
is_part_flat (prob a b c) = true
is_part_flat (sum u e) = is_tree_within 5 (sum u e)
is_part_flat (quotient p q) = is_tree_within 5 (quotient p q)
is_part_flat (named j) = true

part_of : (e : Tree) → is_tree_within 4 e ≡ true → is_part_flat e ≡ true
part_of (product fs) h = h
part_of (prob a b c) h = refl
part_of (sum u e) h = flat_more 4 (sum u e) h
part_of (quotient p q) h = flat_more 4 (quotient p q) h
part_of (named j) h = refl

factor_all : (g : MixedGraph) (o : List ℕ) (c a : ℕ) (from : Source) (k : ℕ) (ds : List Tree) (e : Tree) → IsFactor g o c a from k ds e
    → (are_defs_within 5 ds ≡ true) × (is_part_flat e ≡ true)
factor_all g o c a from k _ e (whole d b) = (refl, part_of e (body_flat g o from a c e b))
factor_all g o c a from k _ _ (summed {t = t} {e = e} d ne n b) = (refl, body_flat g o from a t e b)
factor_all g o c a from k _ e (further {t = t} {a2 = a2} {b = x} {ds = ds} d ne n m q b next) = let r =
    factor_all g o c a2 (Source.Defined k) (suc k) ds e next in
    (both_true (is_tree_within 4 x) (are_defs_within 5 ds) (body_flat g o from a t x b) r.0, r.1)

abbrev are_parts_flat : Trees → Bool
are_parts_flat no_trees = true
are_parts_flat (tree e fs) = is_part_flat e && are_parts_flat fs

all_append : (ds es : List Tree) → are_defs_within 5 ds ≡ true → are_defs_within 5 es ≡ true → are_defs_within 5 (ds ++ es) ≡ true
all_append [] es h k = k
all_append (d ∷ ds) es h k = both_true (is_tree_within 5 d) (are_defs_within 5 (ds ++ es)) (and_l (is_tree_within 5 d) (are_defs_within 5 ds) h)
    (all_append ds es (and_r (is_tree_within 5 d) (are_defs_within 5 ds) h) k)

districts_flat : (g : MixedGraph) (o : List ℕ) (k : ℕ) (cs : List ℕ) (ds : List Tree) (fs : Trees) → AreFactored g o k cs ds fs
    → (are_defs_within 5 ds ≡ true) × (are_parts_flat fs ≡ true)
districts_flat g o _ _ _ _ AreFactored.none = (refl, refl)
districts_flat g o _ _ _ _ (AreFactored.next {k = k} {c = c} {a = a} {cs = cs} {ds = ds} {es = es} {e = e} {fs = fs} n f r) =
    let x = factor_all g o c a (Source.Under 0) k ds e f in let y = districts_flat g o (k + length ds) cs es fs r in
    (all_append ds es x.0 y.0, both_true (is_part_flat e) (are_parts_flat fs) x.1 y.1)

joined_flat : (d : ℕ) (es fs : Trees) → are_trees_within d es ≡ true → are_trees_within d fs ≡ true → are_trees_within d (appended es fs) ≡ true
joined_flat d no_trees fs h k = k
joined_flat d (tree e es) fs h k = both_true (is_tree_within d e) (are_trees_within d (appended es fs)) (and_l (is_tree_within d e) (are_trees_within d es) h)
    (joined_flat d es fs (and_r (is_tree_within d e) (are_trees_within d es) h) k)

flat_flat : (fs : Trees) → are_parts_flat fs ≡ true → are_trees_within 5 (flat fs) ≡ true
flat_flat no_trees h = refl
flat_flat (tree (product es) fs) h = joined_flat 5 es (flat fs) (flat_more_each 4 es
    (flat_more_each 3 es (and_l (are_trees_within 3 es) (are_parts_flat fs) h))) (flat_flat fs (and_r (are_trees_within 3 es) (are_parts_flat fs) h))
flat_flat (tree (prob a b c) fs) h = flat_flat fs h
flat_flat (tree (sum u e) fs) h = both_true (is_tree_within 5 (sum u e)) (are_trees_within 5 (flat fs))
    (and_l (is_tree_within 5 (sum u e)) (are_parts_flat fs) h) (flat_flat fs (and_r (is_tree_within 5 (sum u e)) (are_parts_flat fs) h))
flat_flat (tree (quotient p q) fs) h = both_true (is_tree_within 5 (quotient p q)) (are_trees_within 5 (flat fs))
    (and_l (is_tree_within 5 (quotient p q)) (are_parts_flat fs) h) (flat_flat fs (and_r (is_tree_within 5 (quotient p q)) (are_parts_flat fs) h))
flat_flat (tree (named j) fs) h = flat_flat fs h

part_six : (e : Tree) → is_part_flat e ≡ true → is_tree_within 6 e ≡ true
part_six (product fs) h = flat_more_each 4 fs (flat_more_each 3 fs h)
part_six (prob a b c) h = refl
part_six (sum u e) h = flat_more 5 (sum u e) h
part_six (quotient p q) h = flat_more 5 (quotient p q) h
part_six (named j) h = refl

product_flat : (fs : Trees) → are_parts_flat fs ≡ true → is_tree_within 6 (product_of fs) ≡ true
product_flat no_trees h = refl
product_flat (tree e no_trees) h = part_six e (and_l (is_part_flat e) true h)
product_flat (tree e (tree f fs)) h = flat_flat (tree e (tree f fs)) h

-- main is at most 7 nodes deep, a definition at most 5
pub tree_flat : (g : MixedGraph) (o : List ℕ) (x y : ℕ) (f : PlainFormula) → IsComposed g o x y f → (are_defs_within 5 f.defs ≡ true)
    × (is_tree_within 7 f.main ≡ true)
tree_flat g o x y f t = let h = districts_flat g o 0 t.split.districts f.defs t.factors t.are_factored in
    (h.0, rw t.main (sum_flat 6 (minus t.split.d y) (product_of t.factors) (product_flat t.factors h.1)))
