-- The value of a product doesn't change when its factors are grouped, or when products among them are opened.
use Rattle.std.proofs.Common.{ℕ, zero, suc, ◌+◌, ◌*◌, ◌≡◌, ◌<◌, ◌≤◌, Bool, true, false, cond, eqb, ltb, leb, refl, sym, ap, ◌∙◌, ◌&&◌, List, [], ◌∷◌}
use Rattle.std.proofs.Common.{◌++◌, length, arith, eqb-true, ltb-true, ne_eqb}
use Rattle.fractions.specs.Vocabulary.{Fraction, over, IsEqual, mul}
use Rattle.fractions.proofs.FractionLaws.{equal_same}
use Rattle.finite_models.specs.Vocabulary.{product_below, all_below}
use Rattle.finite_models.proofs.Bools.{and_first, and_second}
use Rattle.finite_models.proofs.Indicators.{all_below_each}
use Rattle.finite_models.proofs.SumLaws.{product_below-congr, product_below-mul}
use Rattle.prob_expr.specs.Tree.{Tree, prob, sum, product, quotient, named, tree}
use Rattle.prob_expr.specs.Vocabulary.{Trees, no_trees, Weights, value, product_value}
use Rattle.do_derivation.specs.Shapes.{factor_at, or_nothing, picked, as_one, groups_of, all_of, times_in, each_below, is_grouping, none_empty}
use Rattle.do_derivation.specs.Shapes.{count_factors, appended, flat}

pub list_product : (ℕ → ℕ) → List ℕ → ℕ
list_product f [] = 1
list_product f (j ∷ l) = f j * list_product f l

append_product : (f : ℕ → ℕ) (l k : List ℕ) → list_product f (l ++ k) ≡ list_product f l * list_product f k
unfolding list_product
append_product f [] k = omega arith
append_product f (j ∷ l) k = ap (λ n. f j * n) (append_product f l k) ∙ omega arith

-- ---- a list that holds each number below n once
power : ℕ → ℕ → ℕ
power x zero = 1
power x (suc k) = x * power x k

power_more : (x t : ℕ) (b : Bool) → power x (cond b 1 0 + t) ≡ cond b x 1 * power x t
unfolding power
power_more x t true = let e : 1 + t ≡ suc t = omega arith in rw e refl
power_more x t false = let e : 0 + t ≡ t = omega arith in rw e (omega arith)

power_one : (x t : ℕ) → t ≡ 1 → power x t ≡ x
unfolding power
power_one x t e = rw e (omega arith)

ones_below : (k : ℕ) → product_below k (λ i. 1) ≡ 1
ones_below zero = refl
ones_below (suc k) = omega (arith, ones_below k)

power_none : (k : ℕ) (f : ℕ → ℕ) → product_below k (λ i. power (f i) 0) ≡ 1
unfolding power
power_none k f = ones_below k

others_below : (k j : ℕ) (f : ℕ → ℕ) → k ≤ j → product_below k (λ i. cond (eqb i j) (f i) 1) ≡ 1
others_below zero j f le = refl
others_below (suc k) j f le = let e : eqb k j ≡ false = ne_eqb k j (omega arith) in rw e (omega (arith, others_below k j f (omega arith)))

one_below : (k j : ℕ) (f : ℕ → ℕ) → j < k → product_below k (λ i. cond (eqb i j) (f i) 1) ≡ f j
one_below zero j f lt = absurd (omega arith)
one_below (suc k) j f lt = go (eqb k j) refl (one_below k j f)
  where
    go : (b : Bool) → eqb k j ≡ b → (j < k → product_below k (λ i. cond (eqb i j) (f i) 1) ≡ f j)
        → product_below k (λ i. cond (eqb i j) (f i) 1) * cond (eqb k j) (f k) 1 ≡ f j
    go true e h = rw e (ap (λ n. n * f k) (others_below k j f (omega (arith, eqb-true k j e))) ∙ (let r : 1 * f k ≡ f k = omega arith in r)
        ∙ ap f (eqb-true k j e))
    go false e h = rw e (let r = h (let d : k ≡ j → ⊥ = λ s. absurd (grind (arith, s, e)) in omega arith) in omega (arith, r))

powers : (k : ℕ) (f : ℕ → ℕ) (l : List ℕ) → each_below k l ≡ true → list_product f l ≡ product_below k (λ i. power (f i) (times_in i l))
unfolding list_product
powers k f [] e = sym (power_none k f)
powers k f (j ∷ l) e =
    ap (λ n. n * list_product f l) (sym (one_below k j f (ltb-true j k (and_first (ltb j k) (each_below k l) e))))
    ∙ ap (λ n. product_below k (λ i. cond (eqb i j) (f i) 1) * n) (powers k f l (and_second (ltb j k) (each_below k l) e))
    ∙ sym (product_below-mul k (λ i. cond (eqb i j) (f i) 1) (λ i. power (f i) (times_in i l)))
    ∙ product_below-congr k (λ i. cond (eqb i j) (f i) 1 * power (f i) (times_in i l)) (λ i. power (f i) (times_in i (j ∷ l)))
    (λ i lt. sym (power_more (f i) (times_in i l) (eqb i j)))

each_once : (k : ℕ) (f : ℕ → ℕ) (l : List ℕ) → each_below k l ≡ true → all_below k (λ i. eqb (times_in i l) 1) ≡ true → list_product f l ≡ product_below k f
each_once k f l e h = powers k f l e ∙ product_below-congr k (λ i. power (f i) (times_in i l)) f
    (λ i lt. power_one (f i) (times_in i l) (eqb-true (times_in i l) 1 (all_below_each k (λ i. eqb (times_in i l) 1) h i lt)))

first_out : (k : ℕ) (f : ℕ → ℕ) → product_below (suc k) f ≡ f 0 * product_below k (λ i. f (suc i))
first_out zero f = omega arith
first_out (suc k) f = ap (λ n. n * f (suc k)) (first_out k f) ∙ omega arith

-- ---- numerators, or denominators
module _ (m : Weights) (q : ℕ → (ℕ → ℕ) → Fraction) (s : ℕ → ℕ) (part : Fraction → ℕ) (unit : part (over 1 1) ≡ 1)
    (both : (f h : Fraction) → part (mul f h) ≡ part f * part h) where
  factor_part : Trees → ℕ → ℕ
  factor_part ts i = part (value m q (or_nothing (factor_at ts i)) s)

  picked_part : (ts : Trees) (l : List ℕ) → part (product_value m q (picked ts l) s) ≡ list_product (factor_part ts) l
  unfolding list_product factor_part
  picked_part ts [] = unit
  picked_part ts (i ∷ l) =
      both (value m q (or_nothing (factor_at ts i)) s) (product_value m q (picked ts l) s)
      ∙ ap (λ n. part (value m q (or_nothing (factor_at ts i)) s) * n) (picked_part ts l)

  one_part : (us : Trees) → part (value m q (as_one us) s) ≡ part (product_value m q us s)
  one_part no_trees = refl
  one_part (tree e no_trees) =
      sym (both (value m q e s) (over 1 1) ∙ ap (λ n. part (value m q e s) * n) unit
      ∙ (let r : part (value m q e s) * 1 ≡ part (value m q e s) = omega arith in r))
  one_part (tree e (tree f ts)) = refl

  groups_part : (ts : Trees) (l : List (List ℕ)) → part (product_value m q (groups_of ts l) s) ≡ list_product (factor_part ts) (all_of l)
  unfolding list_product
  groups_part ts [] = unit
  groups_part ts (k ∷ l) =
      both (value m q (as_one (picked ts k)) s) (product_value m q (groups_of ts l) s)
      ∙ ap (λ n. n * part (product_value m q (groups_of ts l) s)) (one_part (picked ts k) ∙ picked_part ts k)
      ∙ ap (λ n. list_product (factor_part ts) k * n) (groups_part ts l)
      ∙ sym (append_product (factor_part ts) k (all_of l))

  all_part : (ts : Trees) → product_below (count_factors ts) (factor_part ts) ≡ part (product_value m q ts s)
  unfolding factor_part
  all_part no_trees = sym unit
  all_part (tree e ts) =
      first_out (count_factors ts) (factor_part (tree e ts)) ∙ ap (λ n. part (value m q e s) * n) (all_part ts)
      ∙ sym (both (value m q e s) (product_value m q ts s))

  pub grouped_part : (ts : Trees) (l : List (List ℕ)) → is_grouping (count_factors ts) l ≡ true → part (product_value m q (groups_of ts l) s)
      ≡ part (product_value m q ts s)
  grouped_part ts l e =
      let k = count_factors ts in
      let rest = and_second (none_empty l) (each_below k (all_of l) && all_below k (λ i. eqb (times_in i (all_of l)) 1))
      (and_second (leb 2 (length l)) (none_empty l && (each_below k (all_of l) && all_below k (λ i. eqb (times_in i (all_of l)) 1))) e) in
      groups_part ts l
      ∙ each_once k (factor_part ts) (all_of l) (and_first (each_below k (all_of l)) (all_below k (λ i. eqb (times_in i (all_of l)) 1)) rest)
      (and_second (each_below k (all_of l)) (all_below k (λ i. eqb (times_in i (all_of l)) 1)) rest)
      ∙ all_part ts

  joined_part : (ts us : Trees) → part (product_value m q (appended ts us) s) ≡ part (product_value m q ts s) * part (product_value m q us s)
  joined_part no_trees us = (let r : part (product_value m q us s) ≡ 1 * part (product_value m q us s) = omega arith in r)
      ∙ ap (λ n. n * part (product_value m q us s)) (sym unit)
  joined_part (tree e ts) us =
      both (value m q e s) (product_value m q (appended ts us) s) ∙ ap (λ n. part (value m q e s) * n) (joined_part ts us)
      ∙ (let r : part (value m q e s) * (part (product_value m q ts s) * part (product_value m q us s))
      ≡ (part (value m q e s) * part (product_value m q ts s)) * part (product_value m q us s) = omega arith in r)
      ∙ ap (λ n. n * part (product_value m q us s)) (sym (both (value m q e s) (product_value m q ts s)))

  flat_step : (e : Tree) (ts us : Trees) → part (product_value m q us s) ≡ part (product_value m q ts s) → part (mul (value m q e s) (product_value m q us s))
      ≡ part (mul (value m q e s) (product_value m q ts s))
  flat_step e ts us h = both (value m q e s) (product_value m q us s) ∙ ap (λ n. part (value m q e s) * n) h
      ∙ sym (both (value m q e s) (product_value m q ts s))

  pub flat_part : (ts : Trees) → part (product_value m q (flat ts) s) ≡ part (product_value m q ts s)
  flat_part no_trees = refl
  flat_part (tree (product es) ts) =
      joined_part es (flat ts) ∙ ap (λ n. part (product_value m q es s) * n) (flat_part ts) ∙ sym (both (product_value m q es s) (product_value m q ts s))
  flat_part (tree (prob a b c) ts) = flat_step (prob a b c) ts (flat ts) (flat_part ts)
  flat_part (tree (sum u e) ts) = flat_step (sum u e) ts (flat ts) (flat_part ts)
  flat_part (tree (quotient x y) ts) = flat_step (quotient x y) ts (flat ts) (flat_part ts)
  flat_part (tree (named k) ts) = flat_step (named k) ts (flat ts) (flat_part ts)

module _ (m : Weights) (q : ℕ → (ℕ → ℕ) → Fraction) (s : ℕ → ℕ) where
  pub group_law : (ts : Trees) (l : List (List ℕ)) → 1 ≤ (product_value m q ts s).bottom → is_grouping (count_factors ts) l ≡ true
      → IsEqual (product_value m q ts s) (product_value m q (groups_of ts l) s)
  group_law ts l le e =
      equal_same (product_value m q ts s) (product_value m q (groups_of ts l) s) le
      (sym (grouped_part m q s (λ f. f.top) refl (λ f h. refl) ts l e)) (sym (grouped_part m q s (λ f. f.bottom) refl (λ f h. refl) ts l e))

  pub unwrap_law : (ts : Trees) → 1 ≤ (product_value m q ts s).bottom → IsEqual (product_value m q ts s) (product_value m q (flat ts) s)
  unwrap_law ts le =
      equal_same (product_value m q ts s) (product_value m q (flat ts) s) le
      (sym (flat_part m q s (λ f. f.top) refl (λ f h. refl) ts)) (sym (flat_part m q s (λ f. f.bottom) refl (λ f h. refl) ts))
