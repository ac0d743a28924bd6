-- What a kind gives for a sum of a product of factors covers its value: it is the value of a tree that names the factors by their numbers.
use Rattle.std.proofs.Common.{ℕ, suc, ◌+◌, ◌≡◌, Bool, true, false, cond, eqb, ◌&&◌, not, refl, sym, ap, ap₂, ◌∙◌, subst, arith, ne_eqb, eq-eqb}
use Rattle.std.proofs.Common.{List, [], ◌∷◌, ◌++◌, length, get_or, Option, None, Result, Ok, append_assoc}
use Rattle.std.proofs.lemmas.List.{length-append, get_or_at}
use mathlib.Core.Path.{fun_ext}
use Rattle.mixed_graph.specs.Vocabulary.{has}
use Rattle.fractions.specs.Vocabulary.{Fraction, mul, div}
use Rattle.prob_expr.specs.Tree.{Tree, sum, product, quotient, named, tree}
use Rattle.prob_expr.specs.Vocabulary.{Trees, no_trees, Weights, value, product_value, value_of, add_over}
use Rattle.quantity.specs.Kinds.{Pair}
use Rattle.quantity.specs.Vocabulary.{Kind, IsLawful}
use Rattle.count_eval.specs.Evaluated.{evaluated}
use Rattle.count_eval.specs.Vocabulary.{factors_evaluated, some_zero, formula_value, node_behind, is_supported, plain, one_more, each_cell, whole, after, placed, has_value, have_values, all_over}
use Rattle.count_eval.specs.Stops.{Stop}
use Rattle.count_eval.proofs.Covered.{Good, expr_good, formula_good, never_zero}
use Rattle.factor_values.specs.Factors.{PlainFactor, PlainFactors, read_at, chance_of, factors_product, factors_value, product_supported, factors_supported}
use Rattle.factor_values.specs.Laws.{FactorsAreCovered}
use Rattle.factor_values.specs.Outcomes.{factor_outcome, product_from, product_outcome, factors_outcome}

-- the factors by their numbers
abbrev numbered : ℕ → List PlainFactor → Trees
numbered k [] = no_trees
numbered k (f ∷ fs) = tree (named k) (numbered (suc k) fs)

module _ (kind : Kind) (covers : Pair → Fraction → Type 0) (law : IsLawful kind covers) (w : Weights) (t : ℕ → ℕ) (every : List PlainFactor) (z : ℕ) where
  last : PlainFactor
  last = record { second = 0; formula = chance_of z }

  abbrev nth : ℕ → PlainFactor
  nth k = get_or every k last

  -- the last number is that of P(z)
  abbrev outcomes : ℕ → (ℕ → ℕ) → Result Pair Stop
  outcomes k c = cond (eqb k (length every)) (formula_value (plain kind) w (chance_of z) c) (factor_outcome kind w (nth k) c t)

  abbrev values : ℕ → (ℕ → ℕ) → Fraction
  values k c = cond (eqb k (length every)) (value_of w (chance_of z) c) (value_of w (nth k).formula (read_at (nth k).second c t))

  abbrev supports : ℕ → (ℕ → ℕ) → Bool
  supports k c = cond (eqb k (length every)) (is_supported w (chance_of z) c) (is_supported w (nth k).formula (read_at (nth k).second c t))

  each_good : (k : ℕ) (c : ℕ → ℕ) → Good (Unit {0}) covers (supports k c) (values k c) (outcomes k c)
  each_good k c = go (eqb k (length every))
    where
      go : (b : Bool) → Good (Unit {0}) covers (cond b (is_supported w (chance_of z) c) (is_supported w (nth k).formula (read_at (nth k).second c t)))
          (cond b (value_of w (chance_of z) c) (value_of w (nth k).formula (read_at (nth k).second c t)))
          (cond b (formula_value (plain kind) w (chance_of z) c) (factor_outcome kind w (nth k) c t))
      go true = formula_good kind covers law w (chance_of z) c
      go false = formula_good kind covers law w (nth k).formula (read_at (nth k).second c t)

  -- the number of a factor
  record IsNumbered (k : ℕ) (f : PlainFactor) : Type 0 where
    early : eqb k (length every) ≡ false
    there : nth k ≡ f

  number_of : (before : List PlainFactor) (f : PlainFactor) (fs : List PlainFactor) → before ++ f ∷ fs ≡ every → IsNumbered (length before) f
  number_of before f fs e = record {
    early = ne_eqb (length before) (length every) (λ same. absurd (
        let l : length (before ++ f ∷ fs) ≡ length before + length (f ∷ fs) = length-append before (f ∷ fs) in
        let m : length (before ++ f ∷ fs) ≡ length every = ap (λ (xs : List PlainFactor). length xs) e in
        omega (arith, same, l, m)));
    there = ap (λ (xs : List PlainFactor). get_or xs (length before) last) (sym e) ∙ get_or_at before f fs last (length before) refl;
  }

  snoc : (before : List PlainFactor) (f : PlainFactor) (fs : List PlainFactor) → before ++ f ∷ fs ≡ every → (before ++ f ∷ []) ++ fs ≡ every
  snoc before f fs e = append_assoc before (f ∷ []) fs ∙ e

  longer : (before : List PlainFactor) (f : PlainFactor) → length (before ++ f ∷ []) ≡ suc (length before)
  longer before f = let l = length-append before (f ∷ []) in omega (arith, l)

  same_factors : (before fs : List PlainFactor) → before ++ fs ≡ every → (j : ℕ) (c : ℕ → ℕ) (o : Option Pair)
      → factors_evaluated (plain kind) w outcomes None 2 j (numbered (length before) fs) c o ≡ product_from kind w fs c t o
  same_factors before [] e j c o = refl
  same_factors before (f ∷ fs) e j c o =
      let n = number_of before f fs e in
      let one : outcomes (length before) c ≡ factor_outcome kind w f c t =
      ap (λ b. cond b (formula_value (plain kind) w (chance_of z) c) (factor_outcome kind w (nth (length before)) c t)) n.early
      ∙ ap (λ (g : PlainFactor). factor_outcome kind w g c t) n.there in
      ap₂ (λ (r : Result Pair Stop) (k : Option Pair → Result (Option Pair) Stop). after (one_more kind.mul None 2 c r o) k) one
      (fun_ext (λ p. ap (λ i. factors_evaluated (plain kind) w outcomes None 2 (node_behind (named (length before)) j) (numbered i fs) c p) (sym (longer before f))
      ∙ same_factors (before ++ f ∷ []) fs (snoc before f fs e) (node_behind (named (length before)) j) c p))

  same_product : (c : ℕ → ℕ) → evaluated (plain kind) w outcomes None 2 (product (numbered 0 every)) c ≡ product_outcome kind w every c t
  same_product c =
      never_zero kind (some_zero (plain kind) w outcomes None 3 (numbered 0 every) c)
      (after (factors_evaluated (plain kind) w outcomes None 2 3 (numbered 0 every) c None) (whole (kind.from_ratio 1 1)))
      ∙ ap (λ (r : Result (Option Pair) Stop). after r (whole (kind.from_ratio 1 1))) (same_factors [] every refl 3 c None)

  same_values : (before fs : List PlainFactor) → before ++ fs ≡ every → (c : ℕ → ℕ) → product_value w values (numbered (length before) fs) c
      ≡ factors_product w fs c t
  same_values before [] e c = refl
  same_values before (f ∷ fs) e c =
      let n = number_of before f fs e in
      ap₂ mul (ap (λ b. cond b (value_of w (chance_of z) c) (value_of w (nth (length before)).formula (read_at (nth (length before)).second c t))) n.early
      ∙ ap (λ (g : PlainFactor). value_of w g.formula (read_at g.second c t)) n.there)
      (ap (λ i. product_value w values (numbered i fs) c) (sym (longer before f)) ∙ same_values (before ++ f ∷ []) fs (snoc before f fs e) c)

  same_supports : (before fs : List PlainFactor) → before ++ fs ≡ every → (c : ℕ → ℕ) → have_values w values supports (numbered (length before) fs) c
      ≡ product_supported w fs c t
  same_supports before [] e c = refl
  same_supports before (f ∷ fs) e c =
      let n = number_of before f fs e in
      ap₂ (λ a b. a && b)
      (ap (λ b. cond b (is_supported w (chance_of z) c) (is_supported w (nth (length before)).formula (read_at (nth (length before)).second c t))) n.early
      ∙ ap (λ (g : PlainFactor). is_supported w g.formula (read_at g.second c t)) n.there)
      (ap (λ i. have_values w values supports (numbered i fs) c) (sym (longer before f)) ∙ same_supports (before ++ f ∷ []) fs (snoc before f fs e) c)

  at_last : eqb (length every) (length every) ≡ true
  at_last = eq-eqb (length every) (length every) refl

  module _ (u : ℕ) (s : ℕ → ℕ) where
    abbrev all_factors : PlainFactors
    all_factors = record { summed = u; factors = every; given = z }

    abbrev whole_tree : Tree
    whole_tree = quotient (sum u (product (numbered 0 every))) (named (length every))

    same_outcome : evaluated (plain kind) w outcomes None 0 whole_tree s ≡ factors_outcome kind w all_factors s t
    same_outcome = ap₂ (λ (r p : Result Pair Stop). after r (λ a. after p (λ b. placed None 0 s (kind.div a b))))
        (ap (λ (f : (ℕ → ℕ) → Result Pair Stop). after (each_cell (has u) w.size w.vertices 0 (λ c. one_more kind.add None 1 s (f c)) s None)
        (whole (kind.from_ratio 0 1))) (fun_ext same_product))
        (ap (λ b. cond b (formula_value (plain kind) w (chance_of z) s) (factor_outcome kind w (nth (length every)) s t)) at_last)

    same_value : value w values whole_tree s ≡ factors_value w all_factors s t
    same_value = ap₂ div (ap (λ (f : (ℕ → ℕ) → Fraction). add_over (has u) w.size w.vertices f s) (fun_ext (λ c. same_values [] every refl c)))
        (ap (λ b. cond b (value_of w (chance_of z) s) (value_of w (nth (length every)).formula (read_at (nth (length every)).second s t))) at_last)

    same_support : has_value w values supports whole_tree s ≡ factors_supported w all_factors s t
    same_support = ap₂ (λ a b. a && b)
        (ap (λ (f : (ℕ → ℕ) → Bool). all_over (has u) w.size w.vertices f s) (fun_ext (λ c. same_supports [] every refl c)))
        (ap₂ (λ a (f : Fraction). a && not (eqb f.top 0))
        (ap (λ b. cond b (is_supported w (chance_of z) s) (is_supported w (nth (length every)).formula (read_at (nth (length every)).second s t))) at_last)
        (ap (λ b. cond b (value_of w (chance_of z) s) (value_of w (nth (length every)).formula (read_at (nth (length every)).second s t))) at_last))

    covered : (c : Pair) → factors_outcome kind w all_factors s t ≡ Ok c
        → (factors_supported w all_factors s t ≡ true) × covers c (factors_value w all_factors s t)
    covered c e = let k = (expr_good kind covers law w values supports outcomes each_good whole_tree None 0 s).found c (same_outcome ∙ e) in
        (sym same_support ∙ k.0, subst (λ f. covers c f) same_value k.1)

pub factors_are_covered : (kind : Kind) (covers : Pair → Fraction → Type 0) → IsLawful kind covers → FactorsAreCovered kind covers
factors_are_covered kind covers law w e s t c is = covered kind covers law w t e.factors e.given e.summed s c is
