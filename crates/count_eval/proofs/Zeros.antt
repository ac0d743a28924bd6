-- The two rules for products: the second keeps the values of the first, and gives the same where each weight is positive.
use Rattle.std.proofs.Common.{ℕ, zero, suc, ◌+◌, ◌≡◌, ◌<◌, ◌≤◌, Bool, true, false, cond, ◌||◌, eqb, refl, sym, ap, ap₂, ◌∙◌, subst, arith, Option}
use Rattle.std.proofs.Common.{Some, None, Result, Ok, Err, List, [], ◌∷◌}
use Rattle.mixed_graph.specs.Vocabulary.{MixedGraph, IsMixedGraph, has}
use Rattle.finite_models.specs.Vocabulary.{set_at, FiniteModel, Fits, IsAssignment, IsPositiveModel}
use Rattle.finite_models.proofs.Bools.{and_first, and_second}
use Rattle.fractions.specs.Vocabulary.{Fraction, over}
use Rattle.prob_expr.specs.Vocabulary.{cap, next_node, is_under, are_under, all_under, is_do_free, Trees, no_trees, PlainFormula, Weights, value, values_from}
use Rattle.prob_expr.specs.Tree.{Tree, prob, sum, product, quotient, named, tree}
use Rattle.prob_expr.proofs.Boxes.{assignment_set}
use Rattle.quantity.specs.declared.fault.QuantityFault.{QuantityFault}
use Rattle.quantity.specs.declared.fault.QuantityFault.TheVariants.{ZeroBelow, TooWide, TooFine}
use Rattle.quantity.specs.Vocabulary.{Kind, IsLawful}
use Rattle.quantity.specs.Kinds.{Pair}
use Rattle.count_eval.specs.Stops.{Stop, after, placed}
use Rattle.count_eval.specs.Rules.{rule, plain, is_zero, is_zero_below, or_zero}
use Rattle.count_eval.specs.Steps.{joined, one_more, each_level, each_cell, whole}
use Rattle.count_eval.specs.Supported.{has_value, supported_from}
use Rattle.count_eval.specs.Evaluated.{node_behind, evaluated, factors_evaluated, some_zero, evaluated_from, formula_value}
use Rattle.count_eval.specs.Laws.{IsUsed, AreUsed, AllUsed, IsMatched, ZeroKeepsValues, MatchedIsSame}
use Rattle.count_eval.proofs.Covered.{Good, expr_good, never_zero}
use Rattle.count_eval.proofs.Matched.{IsSure, resized, same_value, same_has, sure, matched_sizes, matched_positive, from_model, size_positive}

-- ---- what has a value keeps it

-- each value of the first is one of the second
abbrev Keeps : {A : Type 0} → Result A Stop → Result A Stop → Type 0
Keeps {A} r r' = (c : A) → r ≡ Ok c → r' ≡ Ok c

keeps_after : {A B : Type 0} (r r' : Result A Stop) (f g : A → Result B Stop) → Keeps r r' → ((a : A) → Keeps (f a) (g a)) → Keeps (after r f) (after r' g)
keeps_after (Ok a) r' f g k h c e = ap (λ x. after x g) (k a refl) ∙ h a c e
keeps_after (Err s) r' f g k h c e = absurd (cc e)

keeps_level : (n : ℕ) (f g : ℕ → Option Pair → Result (Option Pair) Stop) → ((x : ℕ) (o : Option Pair) → Keeps (f x o) (g x o)) → (o : Option Pair)
    → Keeps (each_level n f o) (each_level n g o)
keeps_level zero f g h o = λ c e. e
keeps_level (suc n) f g h o = keeps_after (each_level n f o) (each_level n g o) (f n) (g n) (keeps_level n f g h o) (h n)

keeps_cell : (U : ℕ → Bool) (size : ℕ → ℕ) (k v : ℕ) (f g : (ℕ → ℕ) → Option Pair → Result (Option Pair) Stop)
    → ((t : ℕ → ℕ) (o : Option Pair) → Keeps (f t o) (g t o))
    → (s : ℕ → ℕ) (o : Option Pair) → Keeps (each_cell U size k v f s o) (each_cell U size k v g s o)
keeps_cell U size zero v f g h s o = h s o
keeps_cell U size (suc k) v f g h s o = go (U v) (λ t p. keeps_cell U size k (suc v) f g h t p)
  where
    go : (b : Bool) → ((t : ℕ → ℕ) (p : Option Pair) → Keeps (each_cell U size k (suc v) f t p) (each_cell U size k (suc v) g t p))
        → Keeps (cond b (each_level (size v) (λ x. each_cell U size k (suc v) f (set_at s v x)) o) (each_cell U size k (suc v) f s o))
        (cond b (each_level (size v) (λ x. each_cell U size k (suc v) g (set_at s v x)) o) (each_cell U size k (suc v) g s o))
    go true ih = keeps_level (size v) (λ x. each_cell U size k (suc v) f (set_at s v x)) (λ x. each_cell U size k (suc v) g (set_at s v x))
        (λ x p. ih (set_at s v x) p) o
    go false ih = ih s o

keeps_zero : (kind : Kind) (z z' : Bool) (r r' : Result Pair Stop) → Keeps r r' → Keeps (or_zero (plain kind) z r) (or_zero (rule kind true) z' r')
keeps_zero kind z z' r r' k c e = ap (or_zero (rule kind true) z') (k c (sym (never_zero kind z r) ∙ e))

module _ (kind : Kind) (w : Weights) where
  module _ (q q' : ℕ → (ℕ → ℕ) → Result Pair Stop) (each_named : (j : ℕ) (t : ℕ → ℕ) → Keeps (q j t) (q' j t)) where
    mutual
      keeps_expr : (e : Tree) (d : Option ℕ) (i : ℕ) (s : ℕ → ℕ) → Keeps (evaluated (plain kind) w q d i e s) (evaluated (rule kind true) w q' d i e s)
      keeps_expr (prob a b c) d i s = λ x e. e
      keeps_expr (sum u e) d i s =
          let f : (ℕ → ℕ) → Option Pair → Result (Option Pair) Stop = λ t. one_more kind.add d i s (evaluated (plain kind) w q d (next_node i) e t) in
          let g : (ℕ → ℕ) → Option Pair → Result (Option Pair) Stop = λ t. one_more kind.add d i s (evaluated (rule kind true) w q' d (next_node i) e t) in
          keeps_after (each_cell (has u) w.size w.vertices 0 f s None) (each_cell (has u) w.size w.vertices 0 g s None) (whole (kind.from_ratio 0 1))
          (whole (kind.from_ratio 0 1))
          (keeps_cell (has u) w.size w.vertices 0 f g (λ t o. keeps_after (evaluated (plain kind) w q d (next_node i) e t)
          (evaluated (rule kind true) w q' d (next_node i) e t)
          (joined kind.add d i s o) (joined kind.add d i s o) (keeps_expr e d (next_node i) t) (λ a x e'. e')) s None) (λ a x e'. e')
      keeps_expr (product fs) d i s =
          keeps_zero kind (some_zero (plain kind) w q d (next_node i) fs s) (some_zero (rule kind true) w q' d (next_node i) fs s)
          (after (factors_evaluated (plain kind) w q d i (next_node i) fs s None) (whole (kind.from_ratio 1 1)))
          (after (factors_evaluated (rule kind true) w q' d i (next_node i) fs s None) (whole (kind.from_ratio 1 1)))
          (keeps_after (factors_evaluated (plain kind) w q d i (next_node i) fs s None) (factors_evaluated (rule kind true) w q' d i (next_node i) fs s None)
          (whole (kind.from_ratio 1 1)) (whole (kind.from_ratio 1 1))
          (keeps_factors fs d i (next_node i) s None) (λ a x e'. e'))
      keeps_expr (quotient x y) d i s =
          keeps_after (evaluated (plain kind) w q d (next_node i) x s) (evaluated (rule kind true) w q' d (next_node i) x s)
          (λ a. after (evaluated (plain kind) w q d (node_behind x (next_node i)) y s) (λ b. placed d i s (kind.div a b)))
          (λ a. after (evaluated (rule kind true) w q' d (node_behind x (next_node i)) y s) (λ b. placed d i s (kind.div a b)))
          (keeps_expr x d (next_node i) s) (λ a. keeps_after (evaluated (plain kind) w q d (node_behind x (next_node i)) y s)
          (evaluated (rule kind true) w q' d (node_behind x (next_node i)) y s)
          (λ b. placed d i s (kind.div a b)) (λ b. placed d i s (kind.div a b)) (keeps_expr y d (node_behind x (next_node i)) s) (λ b v e'. e'))
      keeps_expr (named j) d i s = each_named j s

      keeps_factors : (fs : Trees) (d : Option ℕ) (i j : ℕ) (s : ℕ → ℕ) (o : Option Pair)
          → Keeps (factors_evaluated (plain kind) w q d i j fs s o) (factors_evaluated (rule kind true) w q' d i j fs s o)
      keeps_factors no_trees d i j s o = λ x e. e
      keeps_factors (tree e fs) d i j s o =
          keeps_after (one_more kind.mul d i s (evaluated (plain kind) w q d j e s) o) (one_more kind.mul d i s (evaluated (rule kind true) w q' d j e s) o)
          (factors_evaluated (plain kind) w q d i (node_behind e j) fs s) (factors_evaluated (rule kind true) w q' d i (node_behind e j) fs s)
          (keeps_after (evaluated (plain kind) w q d j e s) (evaluated (rule kind true) w q' d j e s) (joined kind.mul d i s o) (joined kind.mul d i s o)
          (keeps_expr e d j s) (λ a x e'. e'))
          (λ p. keeps_factors fs d i (node_behind e j) s p)

  keeps_defs : (ds : List Tree) (n : ℕ) (q q' : ℕ → (ℕ → ℕ) → Result Pair Stop) → ((j : ℕ) (t : ℕ → ℕ) → Keeps (q j t) (q' j t))
      → (j : ℕ) (t : ℕ → ℕ) → Keeps (evaluated_from (plain kind) w q n ds j t) (evaluated_from (rule kind true) w q' n ds j t)
  keeps_defs [] n q q' k = k
  keeps_defs (e ∷ es) n q q' k =
      keeps_defs es (suc n) (λ j s. cond (eqb j n) (evaluated (plain kind) w q (Some (cap n)) 0 e s) (q j s))
      (λ j s. cond (eqb j n) (evaluated (rule kind true) w q' (Some (cap n)) 0 e s) (q' j s))
      (λ j t. at (eqb j n) (evaluated (plain kind) w q (Some (cap n)) 0 e t) (q j t) (evaluated (rule kind true) w q' (Some (cap n)) 0 e t) (q' j t)
      (keeps_expr q q' k e (Some (cap n)) 0 t) (k j t))
    where
      at : (b : Bool) (r o r' o' : Result Pair Stop) → Keeps r r' → Keeps o o' → Keeps (cond b r o) (cond b r' o')
      at true r o r' o' x y = x
      at false r o r' o' x y = y

pub zero_keeps_values : (kind : Kind) → ZeroKeepsValues kind
zero_keeps_values kind = λ w f s c e.
    keeps_expr kind w (evaluated_from (plain kind) w (λ j t. Ok (kind.from_ratio 1 1)) 0 f.defs)
    (evaluated_from (rule kind true) w (λ j t. Ok (kind.from_ratio 1 1)) 0 f.defs)
    (keeps_defs kind w f.defs 0 (λ j t. Ok (kind.from_ratio 1 1)) (λ j t. Ok (kind.from_ratio 1 1)) (λ j t x y. y)) f.main None 0 s c e

-- ---- where each weight is positive

same_level : (n : ℕ) (f g : ℕ → Option Pair → Result (Option Pair) Stop) → ((x : ℕ) → x < n → (o : Option Pair) → f x o ≡ g x o) → (o : Option Pair)
    → each_level n f o ≡ each_level n g o
same_level zero f g h o = refl
same_level (suc n) f g h o = ap (λ r. after r (f n)) (same_level n f g (λ x lt. h x (omega arith)) o) ∙ last (each_level n g o)
  where
    last : (r : Result (Option Pair) Stop) → after r (f n) ≡ after r (g n)
    last (Ok p) = h n (omega arith) p
    last (Err e) = refl

-- the same at all cells of a property that other levels of summed vertices keep
module _ (U : ℕ → Bool) (size : ℕ → ℕ) (n : ℕ) (P : (ℕ → ℕ) → Type 0) (kept : (s : ℕ → ℕ) (v x : ℕ) → v < n → U v ≡ true → x < size v → P s → P (set_at s v x))
    (f g : (ℕ → ℕ) → Option Pair → Result (Option Pair) Stop) (h : (t : ℕ → ℕ) → P t → (o : Option Pair) → f t o ≡ g t o) where
  same_cell : (k v : ℕ) → v + k ≤ n → (s : ℕ → ℕ) → P s → (o : Option Pair) → each_cell U size k v f s o ≡ each_cell U size k v g s o
  same_cell zero v le s p o = h s p o
  same_cell (suc k) v le s p o = go (U v) refl (λ t pt i. same_cell k (suc v) (omega arith) t pt i)
    where
      go : (b : Bool) → U v ≡ b → ((t : ℕ → ℕ) → P t → (i : Option Pair) → each_cell U size k (suc v) f t i ≡ each_cell U size k (suc v) g t i)
          → cond b (each_level (size v) (λ x. each_cell U size k (suc v) f (set_at s v x)) o) (each_cell U size k (suc v) f s o)
          ≡ cond b (each_level (size v) (λ x. each_cell U size k (suc v) g (set_at s v x)) o) (each_cell U size k (suc v) g s o)
      go true e ih = same_level (size v) (λ x. each_cell U size k (suc v) f (set_at s v x)) (λ x. each_cell U size k (suc v) g (set_at s v x))
          (λ x lt i. ih (set_at s v x) (kept s v x (omega arith) e lt p) i) o
      go false e ih = ih s p o

-- no factor is 0: the product stays
none_zero : (kind : Kind) (z : Bool) (r : Result Pair Stop) → z ≡ false → or_zero (rule kind true) z r ≡ r
none_zero kind z r e = ap (λ b. or_zero (rule kind true) b r) e ∙ stays r
  where
    stays : (x : Result Pair Stop) → or_zero (rule kind true) false x ≡ x
    stays (Ok c) = refl
    stays (Err s) = refl

no_zero_below : {A : Type 0} (r : Result A QuantityFault) → (r ≡ Err ZeroBelow → ⊥) → is_zero_below r ≡ false
no_zero_below (Ok x) h = refl
no_zero_below (Err ZeroBelow) h = absurd (h refl)
no_zero_below (Err TooWide) h = refl
no_zero_below (Err TooFine) h = refl

module _ (kind : Kind) (covers : Pair → Fraction → Type 0) (law : IsLawful kind covers) where
  -- what covers a positive fraction isn't 0
  not_zero : (h : Bool) (f : Fraction) (r : Result Pair Stop) → Good (Unit {0}) covers h f r → 1 ≤ f.top → is_zero kind r ≡ false
  not_zero h f (Err e) good positive = refl
  not_zero h f (Ok c) good positive = no_zero_below (kind.div (kind.from_ratio 1 1) c)
      (λ e. let z = (law.div_zero (kind.from_ratio 1 1) c (over 1 1) f (law.keeps.ratio 1 1 (omega arith)) (good.found c refl).1).0 e in
      absurd (omega (arith, z, positive)))

  module _ (w : Weights) (size : ℕ → ℕ) (used : ℕ → Bool) (sizes : (v : ℕ) → v < w.vertices → used v ≡ true → w.size v ≡ size v)
      (some : (v : ℕ) → v < w.vertices → 1 ≤ size v)
      (positive : (a : ℕ → Bool) → ((v : ℕ) → a v ≡ true → used v ≡ true) → (s : ℕ → ℕ) → IsAssignment w.vertices size s → 1 ≤ w.weight (λ v. false) a s) where
    -- what is known of the definitions: their values by the first rule, which are positive, and those by the second
    record AreKnown (qv : ℕ → (ℕ → ℕ) → Fraction) (h : ℕ → (ℕ → ℕ) → Bool) (pv : ℕ → (ℕ → ℕ) → Fraction) (p : ℕ → (ℕ → ℕ) → Bool)
        (q q' : ℕ → (ℕ → ℕ) → Result Pair Stop) : Type 0 where
      pub values : (j : ℕ) (t : ℕ → ℕ) → qv j t ≡ pv j t
      pub supports : (j : ℕ) (t : ℕ → ℕ) → h j t ≡ p j t
      pub sure : (j : ℕ) (t : ℕ → ℕ) → IsAssignment w.vertices size t → IsSure (p j t) (pv j t)
      pub good : (j : ℕ) (t : ℕ → ℕ) → Good (Unit {0}) covers (h j t) (qv j t) (q j t)
      pub same : (j : ℕ) (t : ℕ → ℕ) → IsAssignment w.vertices size t → q' j t ≡ q j t

    module _ (qv : ℕ → (ℕ → ℕ) → Fraction) (h : ℕ → (ℕ → ℕ) → Bool) (pv : ℕ → (ℕ → ℕ) → Fraction) (p : ℕ → (ℕ → ℕ) → Bool)
        (q q' : ℕ → (ℕ → ℕ) → Result Pair Stop) (k : AreKnown qv h pv p q q') where
      -- a value is positive
      top_positive : (e : Tree) → is_under [] e ≡ true → IsUsed used e → (s : ℕ → ℕ) → IsAssignment w.vertices size s → 1 ≤ (value w qv e s).top
      top_positive e d u s at = subst (λ (f : Fraction). 1 ≤ f.top) (sym (same_value w size used sizes qv pv h p k.values k.supports e u s))
          (sure (resized w size used sizes) used some positive pv p k.sure e d u s at).positive.top

      mutual
        same_expr : (e : Tree) → is_under [] e ≡ true → IsUsed used e → (d : Option ℕ) (i : ℕ) (s : ℕ → ℕ) → IsAssignment w.vertices size s
            → evaluated (rule kind true) w q' d i e s ≡ evaluated (plain kind) w q d i e s
        same_expr (prob a b c) f u d i s at = refl
        same_expr (sum v e) f u d i s at = ap (λ r. after r (whole (kind.from_ratio 0 1)))
            (same_cell (has v) w.size w.vertices (IsAssignment w.vertices size)
            (λ t y x lt m xl pt. assignment_set w.vertices size t y x (let r = sizes y lt (u.0 y m) in omega (arith, xl, r)) pt)
            (λ t. one_more kind.add d i s (evaluated (rule kind true) w q' d (next_node i) e t))
            (λ t. one_more kind.add d i s (evaluated (plain kind) w q d (next_node i) e t))
            (λ t pt o. ap (λ r. one_more kind.add d i s r o) (same_expr e f u.1 d (next_node i) t pt)) w.vertices 0 (omega arith) s at None)
        same_expr (product fs) f u d i s at =
            none_zero kind (some_zero (rule kind true) w q' d (next_node i) fs s)
            (after (factors_evaluated (rule kind true) w q' d i (next_node i) fs s None) (whole (kind.from_ratio 1 1)))
            (none_of fs f u d (next_node i) s at)
            ∙ ap (λ r. after r (whole (kind.from_ratio 1 1))) (same_factors fs f u d i (next_node i) s at None)
            ∙ sym (never_zero kind (some_zero (plain kind) w q d (next_node i) fs s)
            (after (factors_evaluated (plain kind) w q d i (next_node i) fs s None) (whole (kind.from_ratio 1 1))))
        same_expr (quotient x y) f u d i s at =
            ap₂ (λ r t. after r (λ a. after t (λ b. placed d i s (kind.div a b))))
            (same_expr x (and_first (is_under [] x) (is_under [] y) f) u.0 d (next_node i) s at)
            (same_expr y (and_second (is_under [] x) (is_under [] y) f) u.1 d (node_behind x (next_node i)) s at)
        same_expr (named j) f u d i s at = k.same j s at

        same_factors : (fs : Trees) → are_under [] fs ≡ true → AreUsed used fs → (d : Option ℕ) (i j : ℕ) (s : ℕ → ℕ) → IsAssignment w.vertices size s
            → (o : Option Pair)
            → factors_evaluated (rule kind true) w q' d i j fs s o ≡ factors_evaluated (plain kind) w q d i j fs s o
        same_factors no_trees f u d i j s at o = refl
        same_factors (tree e fs) f u d i j s at o =
            ap (λ r. after (one_more kind.mul d i s r o) (factors_evaluated (rule kind true) w q' d i (node_behind e j) fs s))
            (same_expr e (and_first (is_under [] e) (are_under [] fs) f) u.0 d j s at)
            ∙ rest (one_more kind.mul d i s (evaluated (plain kind) w q d j e s) o)
            (λ x. same_factors fs (and_second (is_under [] e) (are_under [] fs) f) u.1 d i (node_behind e j) s at x)
          where
            rest : (r : Result (Option Pair) Stop) → ((x : Option Pair) → factors_evaluated (rule kind true) w q' d i (node_behind e j) fs s x
                ≡ factors_evaluated (plain kind) w q d i (node_behind e j) fs s x)
                → after r (factors_evaluated (rule kind true) w q' d i (node_behind e j) fs s)
                ≡ after r (factors_evaluated (plain kind) w q d i (node_behind e j) fs s)
            rest (Ok x) ih = ih x
            rest (Err x) ih = refl

        none_of : (fs : Trees) → are_under [] fs ≡ true → AreUsed used fs → (d : Option ℕ) (j : ℕ) (s : ℕ → ℕ) → IsAssignment w.vertices size s
            → some_zero (rule kind true) w q' d j fs s ≡ false
        none_of no_trees f u d j s at = refl
        none_of (tree e fs) f u d j s at =
            let free = and_first (is_under [] e) (are_under [] fs) f in
            ap (λ b. b || some_zero (rule kind true) w q' d (node_behind e j) fs s)
            (ap (is_zero kind) (same_expr e free u.0 d j s at)
            ∙ not_zero (has_value w qv h e s) (value w qv e s) (evaluated (plain kind) w q d j e s) (expr_good kind covers law w qv h q k.good e d j s)
            (top_positive e free u.0 s at))
            ∙ none_of fs (and_second (is_under [] e) (are_under [] fs) f) u.1 d (node_behind e j) s at

    known_defs : (ds : List Tree) → all_under [] ds ≡ true → AllUsed used ds
        → (n : ℕ) (qv : ℕ → (ℕ → ℕ) → Fraction) (h : ℕ → (ℕ → ℕ) → Bool) (pv : ℕ → (ℕ → ℕ) → Fraction) (p : ℕ → (ℕ → ℕ) → Bool)
        (q q' : ℕ → (ℕ → ℕ) → Result Pair Stop) → AreKnown qv h pv p q q'
        → AreKnown (values_from w qv n ds) (supported_from w qv h n ds) (values_from (resized w size used sizes) pv n ds)
        (supported_from (resized w size used sizes) pv p n ds)
        (evaluated_from (plain kind) w q n ds) (evaluated_from (rule kind true) w q' n ds)
    known_defs [] f u n qv h pv p q q' k = k
    known_defs (e ∷ es) f u n qv h pv p q q' k =
        let w' = resized w size used sizes in
        let free = and_first (is_under [] e) (all_under [] es) f in
        known_defs es (and_second (is_under [] e) (all_under [] es) f) u.1 (suc n)
        (λ j s. cond (eqb j n) (value w qv e s) (qv j s)) (λ j s. cond (eqb j n) (has_value w qv h e s) (h j s))
        (λ j s. cond (eqb j n) (value w' pv e s) (pv j s)) (λ j s. cond (eqb j n) (has_value w' pv p e s) (p j s))
        (λ j s. cond (eqb j n) (evaluated (plain kind) w q (Some (cap n)) 0 e s) (q j s))
        (λ j s. cond (eqb j n) (evaluated (rule kind true) w q' (Some (cap n)) 0 e s) (q' j s))
        (record {
          values = λ j t. ap₂ (cond (eqb j n)) (same_value w size used sizes qv pv h p k.values k.supports e u.0 t) (k.values j t);
          supports = λ j t. ap₂ (cond (eqb j n)) (same_has w size used sizes qv pv h p k.values k.supports e u.0 t) (k.supports j t);
          sure = λ j t at. sure_at (eqb j n) (has_value w' pv p e t) (p j t) (value w' pv e t) (pv j t)
              (sure w' used some positive pv p k.sure e free u.0 t at) (k.sure j t at);
          good = λ j t. good_at (eqb j n) (has_value w qv h e t) (h j t) (value w qv e t) (qv j t) (evaluated (plain kind) w q (Some (cap n)) 0 e t) (q j t)
              (expr_good kind covers law w qv h q k.good e (Some (cap n)) 0 t) (k.good j t);
          same = λ j t at. ap₂ (cond (eqb j n)) (same_expr qv h pv p q q' k e free u.0 (Some (cap n)) 0 t at) (k.same j t at);
        })
      where
        sure_at : (b : Bool) (x y : Bool) (f g : Fraction) → IsSure x f → IsSure y g → IsSure (cond b x y) (cond b f g)
        sure_at true x y f g a c = a
        sure_at false x y f g a c = c

        good_at : (b : Bool) (x y : Bool) (f g : Fraction) (r t : Result Pair Stop) → Good (Unit {0}) covers x f r → Good (Unit {0}) covers y g t
            → Good (Unit {0}) covers (cond b x y) (cond b f g) (cond b r t)
        good_at true x y f g r t a c = a
        good_at false x y f g r t a c = c

    -- what is said of numbers without definitions
    nothing_known : AreKnown (λ j t. over 1 1) (λ j t. true) (λ j t. over 1 1) (λ j t. true) (λ j t. Ok (kind.from_ratio 1 1)) (λ j t. Ok (kind.from_ratio 1 1))
    nothing_known = record {
      values = λ j t. refl;
      supports = λ j t. refl;
      sure = λ j t at. record { has = refl; positive = record { top = omega arith; bottom = omega arith } };
      good = λ j t. record {
        found = λ c e. (refl, subst (λ x. covers x (over 1 1)) (let m : kind.from_ratio 1 1 ≡ c = cc in m) (law.keeps.ratio 1 1 (omega arith)));
        none = λ on x e why. absurd (cc e);
      };
      same = λ j t at. refl;
    }

    same_rules : (f : PlainFormula) → is_do_free f ≡ true → AllUsed used f.defs → IsUsed used f.main → (s : ℕ → ℕ) → IsAssignment w.vertices size s
        → formula_value (rule kind true) w f s ≡ formula_value (plain kind) w f s
    same_rules f d ds main s at =
        let w' = resized w size used sizes in
        same_expr (values_from w (λ j t. over 1 1) 0 f.defs) (supported_from w (λ j t. over 1 1) (λ j t. true) 0 f.defs)
        (values_from w' (λ j t. over 1 1) 0 f.defs)
        (supported_from w' (λ j t. over 1 1) (λ j t. true) 0 f.defs) (evaluated_from (plain kind) w (λ j t. Ok (kind.from_ratio 1 1)) 0 f.defs)
        (evaluated_from (rule kind true) w (λ j t. Ok (kind.from_ratio 1 1)) 0 f.defs)
        (known_defs f.defs (and_first (all_under [] f.defs) (is_under [] f.main) d) ds 0 (λ j t. over 1 1) (λ j t. true) (λ j t. over 1 1) (λ j t. true)
        (λ j t. Ok (kind.from_ratio 1 1)) (λ j t. Ok (kind.from_ratio 1 1)) nothing_known)
        f.main (and_second (all_under [] f.defs) (is_under [] f.main) d) main None 0 s at

  pub matched_is_same : MatchedIsSame kind
  matched_is_same = λ g ok m fit positive used w all k f d ds main s within.
      let at = from_model g ok m fit positive used w all k s within in
      same_rules w m.size used (matched_sizes g ok m fit positive used w all k) (λ v lt. size_positive (s v) (m.size v) (at v lt))
      (matched_positive g ok m fit positive used w all k) f d ds main s at

  -- over counts that match a positive model a rule gives what the first gives
  pub either_rule : (zero : Bool) (g : MixedGraph) → IsMixedGraph g → (m : FiniteModel) → Fits g m → IsPositiveModel m
      → (used : ℕ → Bool) (w : Weights) (all : ℕ) → IsMatched used w all m
      → (f : PlainFormula) → is_do_free f ≡ true → AllUsed used f.defs → IsUsed used f.main → (s : ℕ → ℕ) → IsAssignment m.vertices m.size s
      → formula_value (rule kind zero) w f s ≡ formula_value (plain kind) w f s
  either_rule true g ok m fit positive used w all k f d ds main s within = matched_is_same g ok m fit positive used w all k f d ds main s within
  either_rule false g ok m fit positive used w all k f d ds main s within = refl
