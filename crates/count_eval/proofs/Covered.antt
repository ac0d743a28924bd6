-- A value in a lawful kind of quantity covers the true value.
use Rattle.std.proofs.Common.{ℕ, zero, suc, ◌+◌, ◌*◌, ◌≡◌, ◌≢◌, ◌≤◌, Bool, true, false, cond, not, ◌&&◌, ◌||◌, eqb, refl, sym, ap, ap₂, ◌∙◌, subst}
use Rattle.std.proofs.Common.{arith, eqb-true, ne_eqb, mul-pos, Option, Some, None, Result, Ok, Err, List, [], ◌∷◌}
use Rattle.std.proofs.lemmas.Bool.{and_from, and_left, and_right, or_left, or_right}
use Rattle.finite_models.specs.Vocabulary.{set_at, all_below}
use Rattle.mixed_graph.specs.Vocabulary.{has}
use Rattle.prob_expr.specs.Tree.{Tree, prob, sum, product, quotient, named, tree}
use Rattle.prob_expr.specs.Vocabulary.{Trees, no_trees, PlainFormula, add_over, Weights, value, product_value, values_from, value_of, cap, next_node}
use Rattle.fractions.specs.Vocabulary.{Fraction, over, add, mul, div, add_below}
use Rattle.quantity.specs.declared.fault.QuantityFault.{QuantityFault}
use Rattle.quantity.specs.declared.fault.QuantityFault.TheVariants.{ZeroBelow, TooWide, TooFine}
use Rattle.quantity.specs.Vocabulary.{Kind, IsLawful}
use Rattle.quantity.specs.Kinds.{Pair}
use Rattle.count_eval.specs.Stops.{Stop, stop, after, placed}
use Rattle.count_eval.specs.Rules.{rule, plain, is_zero, is_zero_below, or_zero}
use Rattle.count_eval.specs.Steps.{joined, one_more, each_level, each_cell, whole}
use Rattle.count_eval.specs.Supported.{all_over, has_value, have_values, supported_from}
use Rattle.count_eval.specs.WithZeros.{has_value_with_zeros, have_values_with_zeros, some_is_zero, value_with_zeros, product_with_zeros}
use Rattle.count_eval.specs.WithZeros.{supported_with_zeros, values_with_zeros, is_supported_with_zeros, value_of_with_zeros}
use Rattle.count_eval.specs.Evaluated.{node_behind, evaluated, factors_evaluated, some_zero, evaluated_from, formula_value}
use Rattle.count_eval.proofs.Orders

-- by the first rule no product is 0 in place of a stop
pub never_zero : (kind : Kind) (z : Bool) (r : Result Pair Stop) → or_zero (plain kind) z r ≡ r
never_zero kind z (Ok c) = refl
never_zero kind z (Err e) = refl

-- ---- the two orders of a sum
plus_comm : (f g : Fraction) → add f g ≡ add g f
plus_comm f g = ap₂ over (let r : f.top * g.bottom + g.top * f.bottom ≡ g.top * f.bottom + f.top * g.bottom = omega arith in r)
    (let r : f.bottom * g.bottom ≡ g.bottom * f.bottom = omega arith in r)

plus_assoc : (f g h : Fraction) → add f (add g h) ≡ add (add f g) h
plus_assoc f g h =
    ap₂ over (let r : f.top * (g.bottom * h.bottom) + (g.top * h.bottom + h.top * g.bottom) * f.bottom ≡ (f.top * g.bottom + g.top * f.bottom) * h.bottom
    + h.top * (f.bottom * g.bottom) = omega arith in r)
    (let r : f.bottom * (g.bottom * h.bottom) ≡ (f.bottom * g.bottom) * h.bottom = omega arith in r)

plus_zero : (f : Fraction) → add (over 0 1) f ≡ f
plus_zero f = ap₂ over (let r : 0 * f.bottom + f.top * 1 ≡ f.top = omega arith in r) (let r : 1 * f.bottom ≡ f.bottom = omega arith in r)

times_assoc : (f g h : Fraction) → mul f (mul g h) ≡ mul (mul f g) h
times_assoc f g h = ap₂ over (let r : f.top * (g.top * h.top) ≡ (f.top * g.top) * h.top = omega arith in r)
    (let r : f.bottom * (g.bottom * h.bottom) ≡ (f.bottom * g.bottom) * h.bottom = omega arith in r)

times_one : (f : Fraction) → mul (over 1 1) f ≡ f
times_one f = ap₂ over (let r : 1 * f.top ≡ f.top = omega arith in r) (let r : 1 * f.bottom ≡ f.bottom = omega arith in r)

one_times : (f : Fraction) → mul f (over 1 1) ≡ f
one_times f = ap₂ over (let r : f.top * 1 ≡ f.top = omega arith in r) (let r : f.bottom * 1 ≡ f.bottom = omega arith in r)

and_comm : (a b : Bool) → (a && b) ≡ (b && a)
and_comm true true = refl
and_comm true false = refl
and_comm false true = refl
and_comm false false = refl

and_assoc : (a b c : Bool) → (a && (b && c)) ≡ ((a && b) && c)
and_assoc true b c = refl
and_assoc false b c = refl

true_and : (a : Bool) → (true && a) ≡ a
true_and a = refl

pub down_add : (U : ℕ → Bool) (s : ℕ → ℕ) (n : ℕ) (F : (ℕ → ℕ) → Fraction) (b : ℕ → ℕ) → Orders.down add (over 0 1) U s n F b ≡ add_over U s n F b
down_add = Orders.down_is add (over 0 1) add_below (λ f. refl) (λ k f. refl) add_over (λ U s F b. refl) (λ U s n F b. refl)

pub down_all : (U : ℕ → Bool) (s : ℕ → ℕ) (n : ℕ) (F : (ℕ → ℕ) → Bool) (b : ℕ → ℕ) → Orders.down (λ x y. x && y) true U s n F b ≡ all_over U s n F b
down_all = Orders.down_is (λ x y. x && y) true all_below (λ f. refl) (λ k f. refl) all_over (λ U s F b. refl) (λ U s n F b. refl)

-- ---- a result against the true value f, which is there where h holds; and where S, a zero below means that it isn't
pub record Good (S : Type 0) (covers : Pair → Fraction → Type 0) (h : Bool) (f : Fraction) (r : Result Pair Stop) : Type 0 where
  pub found : (c : Pair) → r ≡ Ok c → (h ≡ true) × covers c f
  pub none : S → (e : Stop) → r ≡ Err e → e.why ≡ ZeroBelow → h ≡ false

abbrev pub Holds : (Pair → Fraction → Type 0) → (Fraction → Type 0) → Option Pair → Fraction → Type 0
Holds covers Z None f = Z f
Holds covers Z (Some c) f = covers c f

-- the same of what there is so far
pub record Joins (S : Type 0) (covers : Pair → Fraction → Type 0) (Z : Fraction → Type 0) (h : Bool) (f : Fraction) (r : Result (Option Pair) Stop) : Type 0 where
  pub found : (o : Option Pair) → r ≡ Ok o → (h ≡ true) × Holds covers Z o f
  pub none : S → (e : Stop) → r ≡ Err e → e.why ≡ ZeroBelow → h ≡ false

module _ (S : Type 0) (covers : Pair → Fraction → Type 0) (Z : Fraction → Type 0) (op : Pair → Pair → Result Pair QuantityFault) (join : Fraction → Fraction → Fraction)
    (one : Fraction)
    (assoc : (f g h : Fraction) → join f (join g h) ≡ join (join f g) h) (unit : (f : Fraction) → join f one ≡ f)
    (start : (c : Pair) (f g : Fraction) → Z f → covers c g → covers c (join f g))
    (more : (a b c : Pair) (f g : Fraction) → covers a f → covers b g → op a b ≡ Ok c → covers c (join f g))
    (never : (a b : Pair) → op a b ≢ Err ZeroBelow) where
  here : (o : Option Pair) (f : Fraction) → Holds covers Z o f → Joins S covers Z true f (Ok o)
  here o f hold = record {
    found = λ o' e. (refl, subst (λ x. Holds covers Z x f) (let k : o ≡ o' = cc in k) hold);
    none = λ on e' e why. absurd (cc);
  }

  joined_good : (d : Option ℕ) (i : ℕ) (s : ℕ → ℕ) (h : Bool) (f g : Fraction) (o : Option Pair) (c : Pair) → Holds covers Z o f → h ≡ true → covers c g
      → Joins S covers Z h (join f g) (joined op d i s o c)
  joined_good d i s h f g None c hold t k = record {
    found = λ o' e. (t, subst (λ x. Holds covers Z x (join f g)) (let k' : Some c ≡ o' = cc in k') (start c f g hold k));
    none = λ on e' e why. absurd (cc);
  }
  joined_good d i s h f g (Some a) c hold t k = go (op a c) refl
    where
      go : (r : Result Pair QuantityFault) → op a c ≡ r → Joins S covers Z h (join f g) (after (placed d i s r) (λ x. Ok (Some x)))
      go (Ok x) e = record {
        found = λ o' e'. (t, subst (λ y. Holds covers Z y (join f g)) (let k' : Some x ≡ o' = cc in k') (more a c x f g hold k e));
        none = λ on e' e'' why. absurd (cc);
      }
      go (Err x) e = record {
        found = λ o' e'. absurd (cc);
        none = λ on e' e'' why. absurd (never a c (e ∙ ap (λ y. Err y) (let k' : x ≡ ZeroBelow = ap (λ (y : Stop). y.why) (let m : stop x d i s ≡ e' = cc in m)
            ∙ why in k')));
      }

  one_more_good : (d : Option ℕ) (i : ℕ) (s : ℕ → ℕ) (h : Bool) (g : Fraction) (r : Result Pair Stop) → Good S covers h g r → (o : Option Pair) (f : Fraction)
      → Holds covers Z o f
      → Joins S covers Z h (join f g) (one_more op d i s r o)
  one_more_good d i s h g (Ok c) good o f hold = let k = good.found c refl in joined_good d i s h f g o c hold k.0 k.1
  one_more_good d i s h g (Err x) good o f hold = record {
    found = λ o' e. absurd (cc);
    none = λ on e' e why. good.none on e' (ap (λ y. Err y) (let k : x ≡ e' = cc in k)) why;
  }

  combine : (hA hB : Bool) (f A B : Fraction) (r : Result (Option Pair) Stop) (step : Option Pair → Result (Option Pair) Stop) → Joins S covers Z hA (join f A) r
      → ((o : Option Pair) → Holds covers Z o (join f A) → Joins S covers Z hB (join (join f A) B) (step o))
      → Joins S covers Z (hA && hB) (join f (join A B)) (after r step)
  combine hA hB f A B (Ok o) step j next =
      let k = j.found o refl in let m = next o k.1 in
      record {
        found = λ o' e. let p = m.found o' e in (and_from hA hB k.0 p.0, subst (λ x. Holds covers Z o' x) (sym (assoc f A B)) p.1);
        none = λ on e' e why. and_right hA hB (m.none on e' e why);
      }
  combine hA hB f A B (Err x) step j next = record {
    found = λ o' e. absurd (cc);
    none = λ on e' e why. and_left hA hB (j.none on e' (ap (λ y. Err y) (let k : x ≡ e' = cc in k)) why);
  }

  level_good : (n : ℕ) (F : ℕ → Fraction) (H : ℕ → Bool) (step : ℕ → Option Pair → Result (Option Pair) Stop)
      → ((x : ℕ) (o : Option Pair) (f : Fraction) → Holds covers Z o f → Joins S covers Z (H x) (join f (F x)) (step x o))
      → (o : Option Pair) (f : Fraction) → Holds covers Z o f → Joins S covers Z (Orders.big (λ x y. x && y) true n H) (join f (Orders.big join one n F))
      (each_level n step o)
  level_good zero F H step good o f hold = subst (λ x. Joins S covers Z true x (Ok o)) (sym (unit f)) (here o f hold)
  level_good (suc n) F H step good o f hold =
      combine (Orders.big (λ x y. x && y) true n H) (H n) f (Orders.big join one n F) (F n) (each_level n step o) (step n) (level_good n F H step good o f hold)
      (λ o' hold'. good n o' (join f (Orders.big join one n F)) hold')

  cell_good : (U : ℕ → Bool) (size : ℕ → ℕ) (k v : ℕ) (F : (ℕ → ℕ) → Fraction) (H : (ℕ → ℕ) → Bool) (g : (ℕ → ℕ) → Option Pair → Result (Option Pair) Stop)
      → ((t : ℕ → ℕ) (o : Option Pair) (f : Fraction) → Holds covers Z o f → Joins S covers Z (H t) (join f (F t)) (g t o))
      → (s : ℕ → ℕ) (o : Option Pair) (f : Fraction) → Holds covers Z o f
      → Joins S covers Z (Orders.up (λ x y. x && y) true U size k v H s) (join f (Orders.up join one U size k v F s)) (each_cell U size k v g s o)
  cell_good U size zero v F H g good s o f hold = good s o f hold
  cell_good U size (suc k) v F H g good s o f hold =
      go (U v) (λ t o' f' hold'. cell_good U size k (suc v) F H g good t o' f' hold')
    where
      go : (p : Bool) → ((t : ℕ → ℕ) (o : Option Pair) (f : Fraction) → Holds covers Z o f
          → Joins S covers Z (Orders.up (λ x y. x && y) true U size k (suc v) H t) (join f (Orders.up join one U size k (suc v) F t))
          (each_cell U size k (suc v) g t o))
          → Joins S covers Z (cond p (Orders.big (λ x y. x && y) true (size v) (λ x. Orders.up (λ x y. x && y) true U size k (suc v) H (set_at s v x)))
          (Orders.up (λ x y. x && y) true U size k (suc v) H s))
          (join f (cond p (Orders.big join one (size v) (λ x. Orders.up join one U size k (suc v) F (set_at s v x))) (Orders.up join one U size k (suc v) F s)))
          (cond p (each_level (size v) (λ x. each_cell U size k (suc v) g (set_at s v x)) o) (each_cell U size k (suc v) g s o))
      go true ih = level_good (size v) (λ x. Orders.up join one U size k (suc v) F (set_at s v x))
          (λ x. Orders.up (λ x y. x && y) true U size k (suc v) H (set_at s v x)) (λ x. each_cell U size k (suc v) g (set_at s v x)) (λ x. ih (set_at s v x))
          o f hold
      go false ih = ih s o f hold

  whole_good : (empty : Pair) → ((f : Fraction) → Z f → covers empty f) → (h : Bool) (f : Fraction) (r : Result (Option Pair) Stop) → Joins S covers Z h f r
      → Good S covers h f (after r (whole empty))
  whole_good empty zero_is h f (Ok None) j = let k = j.found None refl in record {
    found = λ c e. (k.0, subst (λ x. covers x f) (let m : empty ≡ c = cc in m) (zero_is f k.1));
    none = λ on e' e why. absurd (cc);
  }
  whole_good empty zero_is h f (Ok (Some x)) j = let k = j.found (Some x) refl in record {
    found = λ c e. (k.0, subst (λ y. covers y f) (let m : x ≡ c = cc in m) k.1);
    none = λ on e' e why. absurd (cc);
  }
  whole_good empty zero_is h f (Err x) j = record {
    found = λ c e. absurd (cc);
    none = λ on e' e why. j.none on e' (ap (λ y. Err y) (let k : x ≡ e' = cc in k)) why;
  }

-- the test not (bottom is 0), and the value there
not_zero : (S : Type 0) (p n : ℕ) (covers : Pair → Fraction → Type 0) (d : Option ℕ) (i : ℕ) (s : ℕ → ℕ) (c : Pair) (t : Bool) → eqb n 0 ≡ t
    → (1 ≤ n → covers c (over p n)) → Good S covers (not t) (over p n) (cond t (Err (stop ZeroBelow d i s)) (Ok c))
not_zero S p n covers d i s c true e h = record {
  found = λ c' e'. absurd (cc);
  none = λ on e' e'' why. refl;
}
not_zero S p n covers d i s c false e h = record {
  found = λ c' e'. (refl, subst (λ x. covers x (over p n)) (let m : c ≡ c' = cc in m) (h (some_of n e)));
  none = λ on e' e'' why. absurd (cc);
}
  where
    some_of : (n : ℕ) → eqb n 0 ≡ false → 1 ≤ n
    some_of n e = grind (arith, e)

eqb_of : (n : ℕ) → n ≡ 0 → eqb n 0 ≡ true
eqb_of n e = ap (λ m. eqb m 0) e

eqb_not : (n : ℕ) → (n ≡ 0 → ⊥) → eqb n 0 ≡ false
eqb_not n h = ne_eqb n 0 h

module _ (kind : Kind) (covers : Pair → Fraction → Type 0) (law : IsLawful kind covers) where
  -- nothing is summed so far, nothing is multiplied
  abbrev IsNone : Fraction → Type 0
  IsNone f = (f.top ≡ 0) × (1 ≤ f.bottom)

  abbrev IsOne : Fraction → Type 0
  IsOne f = f ≡ over 1 1

  first_term : (c : Pair) (f g : Fraction) → IsNone f → covers c g → covers c (add f g)
  first_term c f g none k =
      law.keeps.equal c g (add f g) k (record {
        left_bottom = law.bottom c g k;
        right_bottom = mul-pos none.1 (law.bottom c g k);
        products = numbers f.top f.bottom g.top g.bottom none.0;
      })
    where
      numbers : (t b p q : ℕ) → t ≡ 0 → p * (b * q) ≡ (t * q + p * b) * q
      numbers t b p q e = (let r : p * (b * q) ≡ (0 * q + p * b) * q = omega arith in r) ∙ ap (λ n. (n * q + p * b) * q) (sym e)

  zero_unit : (f : Fraction) → add f (over 0 1) ≡ f
  zero_unit f = plus_comm f (over 0 1) ∙ plus_zero f

  first_factor : (c : Pair) (f g : Fraction) → IsOne f → covers c g → covers c (mul f g)
  first_factor c f g e k = subst (λ x. covers c x) (sym (ap (λ y. mul y g) e ∙ times_one g)) k

  empty_sum : (f : Fraction) → IsNone f → covers (kind.from_ratio 0 1) f
  empty_sum f none = law.keeps.equal (kind.from_ratio 0 1) (over 0 1) f (law.keeps.ratio 0 1 (omega arith))
      (record { left_bottom = omega arith; right_bottom = none.1; products = (let e = none.0 in omega (arith, e)) })

  empty_product : (f : Fraction) → IsOne f → covers (kind.from_ratio 1 1) f
  empty_product f e = subst (λ x. covers (kind.from_ratio 1 1) x) (sym e) (law.keeps.ratio 1 1 (omega arith))

  quotient_good : (S : Type 0) (d : Option ℕ) (i : ℕ) (s : ℕ → ℕ) (hx hy : Bool) (f g : Fraction) (rx ry : Result Pair Stop) → Good S covers hx f rx → Good S covers hy g ry
      → Good S covers (hx && (hy && not (eqb g.top 0))) (div f g) (after rx (λ a. after ry (λ b. placed d i s (kind.div a b))))
  quotient_good S d i s hx hy f g (Err x) ry gx gy = record {
    found = λ c e. absurd (cc);
    none = λ on e' e why. and_left hx (hy && not (eqb g.top 0)) (gx.none on e' (ap (λ y. Err y) (let k : x ≡ e' = cc in k)) why);
  }
  quotient_good S d i s hx hy f g (Ok a) (Err x) gx gy = record {
    found = λ c e. absurd (cc);
    none = λ on e' e why. and_right hx (hy && not (eqb g.top 0)) (and_left hy (not (eqb g.top 0)) (gy.none on e' (ap (λ y. Err y) (let k : x ≡ e' = cc in k)) why));
  }
  quotient_good S d i s hx hy f g (Ok a) (Ok b) gx gy = go (kind.div a b) refl (gx.found a refl) (gy.found b refl)
    where
      go : (r : Result Pair QuantityFault) → kind.div a b ≡ r → (hx ≡ true) × covers a f → (hy ≡ true) × covers b g
          → Good S covers (hx && (hy && not (eqb g.top 0))) (div f g) (placed d i s r)
      go (Ok x) e ka kb = record {
        found = λ c e'. (
          and_from hx (hy && not (eqb g.top 0)) ka.0 (and_from hy (not (eqb g.top 0)) kb.0
              (ap not (eqb_not g.top (λ z. absurd (differ (sym e ∙ (law.div_zero a b f g ka.1 kb.1).1 z)))))),
          subst (λ y. covers y (div f g)) (let m : x ≡ c = cc in m) (law.keeps.div a b x f g ka.1 kb.1 e),
        );
        none = λ on e' e'' why. absurd (cc);
      }
        where
          differ : {A E : Type 0} {x : A} {y : E} → Ok x ≡ Err y → ⊥
          differ h = cc
      go (Err x) e ka kb = record {
        found = λ c e'. absurd (cc);
        none = λ on e' e'' why. and_right hx (hy && not (eqb g.top 0)) (and_right hy (not (eqb g.top 0))
            (ap not (eqb_of g.top ((law.div_zero a b f g ka.1 kb.1).0 (e
            ∙ ap (λ y. Err y) (ap (λ (y : Stop). y.why) (let m : stop x d i s ≡ e' = cc in m) ∙ why))))));
      }

  module _ (w : Weights) (qv : ℕ → (ℕ → ℕ) → Fraction) (h : ℕ → (ℕ → ℕ) → Bool) (q : ℕ → (ℕ → ℕ) → Result Pair Stop)
      (each_named : (j : ℕ) (t : ℕ → ℕ) → Good (Unit {0}) covers (h j t) (qv j t) (q j t)) where
    mutual
      pub expr_good : (e : Tree) (d : Option ℕ) (i : ℕ) (s : ℕ → ℕ) → Good (Unit {0}) covers (has_value w qv h e s) (value w qv e s) (evaluated (plain kind) w q d i e s)
      expr_good (prob a b c) d i s =
          not_zero (Unit {0}) (w.weight (has b) (λ v. has a v || has c v) s) (w.weight (has b) (has c) s) covers d i s
          (kind.from_ratio (w.weight (has b) (λ v. has a v || has c v) s) (w.weight (has b) (has c) s))
          (eqb (w.weight (has b) (has c) s) 0) refl (λ le. law.keeps.ratio (w.weight (has b) (λ v. has a v || has c v) s) (w.weight (has b) (has c) s) le)
      expr_good (sum u e) d i s =
          let F = value w qv e in
          let H = has_value w qv h e in
          let g : (ℕ → ℕ) → Option Pair → Result (Option Pair) Stop = λ t. one_more kind.add d i s (evaluated (plain kind) w q d (next_node i) e t) in
          let r = each_cell (has u) w.size w.vertices 0 g s None in
          let j = cell_good (Unit {0}) covers IsNone kind.add add (over 0 1) plus_assoc zero_unit first_term law.keeps.add law.add_never (has u) w.size w.vertices 0 F H g
          (λ t o f hold. one_more_good (Unit {0}) covers IsNone kind.add add (over 0 1) plus_assoc zero_unit first_term law.keeps.add law.add_never d i s (H t) (F t)
          (evaluated (plain kind) w q d (next_node i) e t) (expr_good e d (next_node i) t) o f hold)
          s None (over 0 1) (refl, omega arith) in
          subst (λ x. Good (Unit {0}) covers x (add_over (has u) w.size w.vertices F s) (after r (whole (kind.from_ratio 0 1))))
          (Orders.up_down (λ x y. x && y) true and_comm and_assoc true_and (has u) w.size w.vertices H s ∙ down_all (has u) w.size w.vertices H s)
          (subst (λ x. Good (Unit {0}) covers (Orders.up (λ x y. x && y) true (has u) w.size w.vertices 0 H s) x (after r (whole (kind.from_ratio 0 1))))
          (plus_zero (Orders.up add (over 0 1) (has u) w.size w.vertices 0 F s)
          ∙ Orders.up_down add (over 0 1) plus_comm plus_assoc plus_zero (has u) w.size w.vertices F s ∙ down_add (has u) w.size w.vertices F s)
          (whole_good (Unit {0}) covers IsNone kind.add add (over 0 1) plus_assoc zero_unit first_term law.keeps.add law.add_never (kind.from_ratio 0 1) empty_sum
          (Orders.up (λ x y. x && y) true (has u) w.size w.vertices 0 H s) (add (over 0 1) (Orders.up add (over 0 1) (has u) w.size w.vertices 0 F s)) r j))
      expr_good (product fs) d i s =
          subst (λ r. Good (Unit {0}) covers (have_values w qv h fs s) (product_value w qv fs s) r)
          (sym (never_zero kind (some_zero (plain kind) w q d (next_node i) fs s)
          (after (factors_evaluated (plain kind) w q d i (next_node i) fs s None) (whole (kind.from_ratio 1 1)))))
          (subst (λ x. Good (Unit {0}) covers (have_values w qv h fs s) x (after (factors_evaluated (plain kind) w q d i (next_node i) fs s None)
          (whole (kind.from_ratio 1 1)))) (times_one (product_value w qv fs s))
          (whole_good (Unit {0}) covers IsOne kind.mul mul (over 1 1) times_assoc one_times first_factor law.keeps.mul law.mul_never (kind.from_ratio 1 1) empty_product
          (have_values w qv h fs s) (mul (over 1 1) (product_value w qv fs s)) (factors_evaluated (plain kind) w q d i (next_node i) fs s None)
          (factors_good fs d i (next_node i) s None (over 1 1) refl)))
      expr_good (quotient x y) d i s =
          quotient_good (Unit {0}) d i s (has_value w qv h x s) (has_value w qv h y s) (value w qv x s) (value w qv y s) (evaluated (plain kind) w q d (next_node i) x s)
          (evaluated (plain kind) w q d (node_behind x (next_node i)) y s)
          (expr_good x d (next_node i) s) (expr_good y d (node_behind x (next_node i)) s)
      expr_good (named j) d i s = each_named j s

      factors_good : (fs : Trees) (d : Option ℕ) (i j : ℕ) (s : ℕ → ℕ) (o : Option Pair) (f : Fraction) → Holds covers IsOne o f
          → Joins (Unit {0}) covers IsOne (have_values w qv h fs s) (mul f (product_value w qv fs s)) (factors_evaluated (plain kind) w q d i j fs s o)
      factors_good no_trees d i j s o f hold =
          subst (λ x. Joins (Unit {0}) covers IsOne true x (Ok o)) (sym (one_times f))
          (here (Unit {0}) covers IsOne kind.mul mul (over 1 1) times_assoc one_times first_factor law.keeps.mul law.mul_never o f hold)
      factors_good (tree e fs) d i j s o f hold =
          combine (Unit {0}) covers IsOne kind.mul mul (over 1 1) times_assoc one_times first_factor law.keeps.mul law.mul_never (has_value w qv h e s)
          (have_values w qv h fs s) f (value w qv e s) (product_value w qv fs s)
          (one_more kind.mul d i s (evaluated (plain kind) w q d j e s) o) (factors_evaluated (plain kind) w q d i (node_behind e j) fs s)
          (one_more_good (Unit {0}) covers IsOne kind.mul mul (over 1 1) times_assoc one_times first_factor law.keeps.mul law.mul_never d i s (has_value w qv h e s)
          (value w qv e s) (evaluated (plain kind) w q d j e s) (expr_good e d j s) o f hold)
          (λ o' hold'. factors_good fs d i (node_behind e j) s o' (mul f (value w qv e s)) hold')

  defs_good : (w : Weights) (ds : List Tree) (n : ℕ) (qv : ℕ → (ℕ → ℕ) → Fraction) (h : ℕ → (ℕ → ℕ) → Bool) (q : ℕ → (ℕ → ℕ) → Result Pair Stop)
      → ((j : ℕ) (t : ℕ → ℕ) → Good (Unit {0}) covers (h j t) (qv j t) (q j t))
      → (j : ℕ) (t : ℕ → ℕ) → Good (Unit {0}) covers (supported_from w qv h n ds j t) (values_from w qv n ds j t) (evaluated_from (plain kind) w q n ds j t)
  defs_good w [] n qv h q good = good
  defs_good w (e ∷ es) n qv h q good =
      defs_good w es (suc n) (λ j s. cond (eqb j n) (value w qv e s) (qv j s)) (λ j s. cond (eqb j n) (has_value w qv h e s) (h j s))
      (λ j s. cond (eqb j n) (evaluated (plain kind) w q (Some (cap n)) 0 e s) (q j s))
      (λ j t. at (eqb j n) (has_value w qv h e t) (h j t) (value w qv e t) (qv j t) (evaluated (plain kind) w q (Some (cap n)) 0 e t) (q j t)
      (expr_good w qv h q good e (Some (cap n)) 0 t) (good j t))
    where
      at : (b : Bool) (h h' : Bool) (f f' : Fraction) (r r' : Result Pair Stop) → Good (Unit {0}) covers h f r → Good (Unit {0}) covers h' f' r'
          → Good (Unit {0}) covers (cond b h h') (cond b f f') (cond b r r')
      at true h h' f f' r r' x y = x
      at false h h' f f' r r' x y = y

  before : (j : ℕ) (t : ℕ → ℕ) → Good (Unit {0}) covers true (over 1 1) (Ok (kind.from_ratio 1 1))
  before j t = record {
    found = λ c e. (refl, subst (λ x. covers x (over 1 1)) (let m : kind.from_ratio 1 1 ≡ c = cc in m) (law.keeps.ratio 1 1 (omega arith)));
    none = λ on e' e why. absurd (cc);
  }

  pub formula_good : (w : Weights) (f : PlainFormula) (s : ℕ → ℕ) → Good (Unit {0}) covers
      (has_value w (values_from w (λ j s. over 1 1) 0 f.defs) (supported_from w (λ j s. over 1 1) (λ j s. true) 0 f.defs) f.main s) (value_of w f s)
      (formula_value (plain kind) w f s)
  formula_good w f s =
      expr_good w (values_from w (λ j s. over 1 1) 0 f.defs) (supported_from w (λ j s. over 1 1) (λ j s. true) 0 f.defs)
      (evaluated_from (plain kind) w (λ j t. Ok (kind.from_ratio 1 1)) 0 f.defs)
      (defs_good w f.defs 0 (λ j s. over 1 1) (λ j s. true) (λ j t. Ok (kind.from_ratio 1 1)) before) f.main None 0 s

  -- ---- the second rule: a product with a factor 0
  -- a factor that the rule sees as 0 is 0
  zero_factor : (h : Bool) (f : Fraction) (r : Result Pair Stop) → Good ⊥ covers h f r → is_zero kind r ≡ true → (h && eqb f.top 0) ≡ true
  zero_factor h f (Err e) good z = absurd (cc)
  zero_factor h f (Ok c) good z =
      let k = good.found c refl in
      and_from h (eqb f.top 0) k.0 (eqb_of f.top
      ((law.div_zero (kind.from_ratio 1 1) c (over 1 1) f (law.keeps.ratio 1 1 (omega arith)) k.1).0 (below (kind.div (kind.from_ratio 1 1) c) z)))
    where
      below : (r : Result Pair QuantityFault) → is_zero_below r ≡ true → r ≡ Err ZeroBelow
      below (Ok x) e = absurd (cc)
      below (Err ZeroBelow) e = refl
      below (Err TooWide) e = absurd (cc)
      below (Err TooFine) e = absurd (cc)

  -- 0 where some factor is, and else the product of all
  product_with_zeros_good : (z some all : Bool) (f : Fraction) (r : Result Pair Stop) → Good ⊥ covers all f r → (z ≡ true → some ≡ true)
      → (some ≡ true → f.top ≡ 0) → Good ⊥ covers (some || all) (cond some (over 0 1) f) (or_zero (rule kind true) z r)
  product_with_zeros_good z some all f (Ok c) good sees tops = record {
    found = λ c' e. let k = good.found c refl in
        (or_right some all k.0, subst (λ x. covers x (cond some (over 0 1) f)) (let m : c ≡ c' = cc in m) (as_zero some tops k.1));
    none = λ on. absurd on;
  }
    where
      as_zero : (b : Bool) → (b ≡ true → f.top ≡ 0) → covers c f → covers c (cond b (over 0 1) f)
      as_zero true top k = law.keeps.equal c f (over 0 1) k
          (record { left_bottom = law.bottom c f k; right_bottom = omega arith; products = (let t = top refl in omega (arith, t)) })
      as_zero false top k = k
  product_with_zeros_good true some all f (Err x) good sees tops = record {
    found = λ c e. (
      or_left some all (sees refl),
      subst (λ b. covers c (cond b (over 0 1) f)) (sym (sees refl))
          (subst (λ y. covers y (over 0 1)) (let m : kind.from_ratio 0 1 ≡ c = cc in m) (law.keeps.ratio 0 1 (omega arith))),
    );
    none = λ on. absurd on;
  }
  product_with_zeros_good false some all f (Err x) good sees tops = record {
    found = λ c e. absurd (cc);
    none = λ on. absurd on;
  }

  -- a product with a factor 0 is 0
  zero_product : (w : Weights) (qv : ℕ → (ℕ → ℕ) → Fraction) (h : ℕ → (ℕ → ℕ) → Bool) (fs : Trees) (s : ℕ → ℕ) → some_is_zero w qv h fs s ≡ true
      → (product_with_zeros w qv h fs s).top ≡ 0
  zero_product w qv h no_trees s e = absurd (cc)
  zero_product w qv h (tree t fs) s e = go (has_value_with_zeros w qv h t s) (eqb (value_with_zeros w qv h t s).top 0) refl e
      (λ k. zero_product w qv h fs s k)
    where
      go : (a b : Bool) → eqb (value_with_zeros w qv h t s).top 0 ≡ b → ((a && b) || some_is_zero w qv h fs s) ≡ true
          → (some_is_zero w qv h fs s ≡ true → (product_with_zeros w qv h fs s).top ≡ 0)
          → (value_with_zeros w qv h t s).top * (product_with_zeros w qv h fs s).top ≡ 0
      go true true z k rest = ap (λ n. n * (product_with_zeros w qv h fs s).top) (eqb-true (value_with_zeros w qv h t s).top 0 z)
          ∙ (let r : 0 * (product_with_zeros w qv h fs s).top ≡ 0 = omega arith in r)
      go true false z k rest = ap (λ n. (value_with_zeros w qv h t s).top * n) (rest k)
          ∙ (let r : (value_with_zeros w qv h t s).top * 0 ≡ 0 = omega arith in r)
      go false b z k rest = ap (λ n. (value_with_zeros w qv h t s).top * n) (rest k)
          ∙ (let r : (value_with_zeros w qv h t s).top * 0 ≡ 0 = omega arith in r)

  module _ (w : Weights) (qv : ℕ → (ℕ → ℕ) → Fraction) (h : ℕ → (ℕ → ℕ) → Bool) (q : ℕ → (ℕ → ℕ) → Result Pair Stop)
      (each_named : (j : ℕ) (t : ℕ → ℕ) → Good ⊥ covers (h j t) (qv j t) (q j t)) where
    mutual
      expr_with_zeros : (e : Tree) (d : Option ℕ) (i : ℕ) (s : ℕ → ℕ)
          → Good ⊥ covers (has_value_with_zeros w qv h e s) (value_with_zeros w qv h e s) (evaluated (rule kind true) w q d i e s)
      expr_with_zeros (prob a b c) d i s =
          not_zero ⊥ (w.weight (has b) (λ v. has a v || has c v) s) (w.weight (has b) (has c) s) covers d i s
          (kind.from_ratio (w.weight (has b) (λ v. has a v || has c v) s) (w.weight (has b) (has c) s))
          (eqb (w.weight (has b) (has c) s) 0) refl (λ le. law.keeps.ratio (w.weight (has b) (λ v. has a v || has c v) s) (w.weight (has b) (has c) s) le)
      expr_with_zeros (sum u e) d i s =
          let F = value_with_zeros w qv h e in
          let H = has_value_with_zeros w qv h e in
          let g : (ℕ → ℕ) → Option Pair → Result (Option Pair) Stop = λ t. one_more kind.add d i s (evaluated (rule kind true) w q d (next_node i) e t) in
          let r = each_cell (has u) w.size w.vertices 0 g s None in
          let j = cell_good ⊥ covers IsNone kind.add add (over 0 1) plus_assoc zero_unit first_term law.keeps.add law.add_never (has u) w.size w.vertices 0 F H g
          (λ t o f hold. one_more_good ⊥ covers IsNone kind.add add (over 0 1) plus_assoc zero_unit first_term law.keeps.add law.add_never d i s (H t) (F t)
          (evaluated (rule kind true) w q d (next_node i) e t) (expr_with_zeros e d (next_node i) t) o f hold)
          s None (over 0 1) (refl, omega arith) in
          subst (λ x. Good ⊥ covers x (add_over (has u) w.size w.vertices F s) (after r (whole (kind.from_ratio 0 1))))
          (Orders.up_down (λ x y. x && y) true and_comm and_assoc true_and (has u) w.size w.vertices H s ∙ down_all (has u) w.size w.vertices H s)
          (subst (λ x. Good ⊥ covers (Orders.up (λ x y. x && y) true (has u) w.size w.vertices 0 H s) x (after r (whole (kind.from_ratio 0 1))))
          (plus_zero (Orders.up add (over 0 1) (has u) w.size w.vertices 0 F s)
          ∙ Orders.up_down add (over 0 1) plus_comm plus_assoc plus_zero (has u) w.size w.vertices F s ∙ down_add (has u) w.size w.vertices F s)
          (whole_good ⊥ covers IsNone kind.add add (over 0 1) plus_assoc zero_unit first_term law.keeps.add law.add_never (kind.from_ratio 0 1) empty_sum
          (Orders.up (λ x y. x && y) true (has u) w.size w.vertices 0 H s) (add (over 0 1) (Orders.up add (over 0 1) (has u) w.size w.vertices 0 F s)) r j))
      expr_with_zeros (product fs) d i s =
          product_with_zeros_good (some_zero (rule kind true) w q d (next_node i) fs s) (some_is_zero w qv h fs s) (have_values_with_zeros w qv h fs s)
          (product_with_zeros w qv h fs s) (after (factors_evaluated (rule kind true) w q d i (next_node i) fs s None) (whole (kind.from_ratio 1 1)))
          (subst (λ x. Good ⊥ covers (have_values_with_zeros w qv h fs s) x (after (factors_evaluated (rule kind true) w q d i (next_node i) fs s None)
          (whole (kind.from_ratio 1 1)))) (times_one (product_with_zeros w qv h fs s))
          (whole_good ⊥ covers IsOne kind.mul mul (over 1 1) times_assoc one_times first_factor law.keeps.mul law.mul_never (kind.from_ratio 1 1) empty_product
          (have_values_with_zeros w qv h fs s) (mul (over 1 1) (product_with_zeros w qv h fs s))
          (factors_evaluated (rule kind true) w q d i (next_node i) fs s None)
          (factors_with_zeros fs d i (next_node i) s None (over 1 1) refl)))
          (zeros_seen fs d (next_node i) s) (zero_product w qv h fs s)
      expr_with_zeros (quotient x y) d i s =
          quotient_good ⊥ d i s (has_value_with_zeros w qv h x s) (has_value_with_zeros w qv h y s) (value_with_zeros w qv h x s) (value_with_zeros w qv h y s)
          (evaluated (rule kind true) w q d (next_node i) x s) (evaluated (rule kind true) w q d (node_behind x (next_node i)) y s)
          (expr_with_zeros x d (next_node i) s) (expr_with_zeros y d (node_behind x (next_node i)) s)
      expr_with_zeros (named j) d i s = each_named j s

      factors_with_zeros : (fs : Trees) (d : Option ℕ) (i j : ℕ) (s : ℕ → ℕ) (o : Option Pair) (f : Fraction) → Holds covers IsOne o f
          → Joins ⊥ covers IsOne (have_values_with_zeros w qv h fs s) (mul f (product_with_zeros w qv h fs s))
          (factors_evaluated (rule kind true) w q d i j fs s o)
      factors_with_zeros no_trees d i j s o f hold =
          subst (λ x. Joins ⊥ covers IsOne true x (Ok o)) (sym (one_times f))
          (here ⊥ covers IsOne kind.mul mul (over 1 1) times_assoc one_times first_factor law.keeps.mul law.mul_never o f hold)
      factors_with_zeros (tree e fs) d i j s o f hold =
          combine ⊥ covers IsOne kind.mul mul (over 1 1) times_assoc one_times first_factor law.keeps.mul law.mul_never (has_value_with_zeros w qv h e s)
          (have_values_with_zeros w qv h fs s) f (value_with_zeros w qv h e s) (product_with_zeros w qv h fs s)
          (one_more kind.mul d i s (evaluated (rule kind true) w q d j e s) o) (factors_evaluated (rule kind true) w q d i (node_behind e j) fs s)
          (one_more_good ⊥ covers IsOne kind.mul mul (over 1 1) times_assoc one_times first_factor law.keeps.mul law.mul_never d i s
          (has_value_with_zeros w qv h e s) (value_with_zeros w qv h e s) (evaluated (rule kind true) w q d j e s) (expr_with_zeros e d j s) o f hold)
          (λ o' hold'. factors_with_zeros fs d i (node_behind e j) s o' (mul f (value_with_zeros w qv h e s)) hold')

      zeros_seen : (fs : Trees) (d : Option ℕ) (j : ℕ) (s : ℕ → ℕ) → some_zero (rule kind true) w q d j fs s ≡ true → some_is_zero w qv h fs s ≡ true
      zeros_seen no_trees d j s e = absurd (cc)
      zeros_seen (tree t fs) d j s e =
          go (is_zero kind (evaluated (rule kind true) w q d j t s)) refl e (expr_with_zeros t d j s) (λ k. zeros_seen fs d (node_behind t j) s k)
        where
          go : (b : Bool) → is_zero kind (evaluated (rule kind true) w q d j t s) ≡ b
              → (b || some_zero (rule kind true) w q d (node_behind t j) fs s) ≡ true
              → Good ⊥ covers (has_value_with_zeros w qv h t s) (value_with_zeros w qv h t s) (evaluated (rule kind true) w q d j t s)
              → (some_zero (rule kind true) w q d (node_behind t j) fs s ≡ true → some_is_zero w qv h fs s ≡ true)
              → ((has_value_with_zeros w qv h t s && eqb (value_with_zeros w qv h t s).top 0) || some_is_zero w qv h fs s) ≡ true
          go true z k good rest = or_left (has_value_with_zeros w qv h t s && eqb (value_with_zeros w qv h t s).top 0) (some_is_zero w qv h fs s)
              (zero_factor (has_value_with_zeros w qv h t s) (value_with_zeros w qv h t s) (evaluated (rule kind true) w q d j t s) good z)
          go false z k good rest = or_right (has_value_with_zeros w qv h t s && eqb (value_with_zeros w qv h t s).top 0) (some_is_zero w qv h fs s)
              (rest k)

  defs_with_zeros : (w : Weights) (ds : List Tree) (n : ℕ) (qv : ℕ → (ℕ → ℕ) → Fraction) (h : ℕ → (ℕ → ℕ) → Bool) (q : ℕ → (ℕ → ℕ) → Result Pair Stop)
      → ((j : ℕ) (t : ℕ → ℕ) → Good ⊥ covers (h j t) (qv j t) (q j t)) → (j : ℕ) (t : ℕ → ℕ)
      → Good ⊥ covers (supported_with_zeros w qv h n ds j t) (values_with_zeros w qv h n ds j t) (evaluated_from (rule kind true) w q n ds j t)
  defs_with_zeros w [] n qv h q good = good
  defs_with_zeros w (e ∷ es) n qv h q good =
      defs_with_zeros w es (suc n) (λ j s. cond (eqb j n) (value_with_zeros w qv h e s) (qv j s))
      (λ j s. cond (eqb j n) (has_value_with_zeros w qv h e s) (h j s))
      (λ j s. cond (eqb j n) (evaluated (rule kind true) w q (Some (cap n)) 0 e s) (q j s))
      (λ j t. at (eqb j n) (has_value_with_zeros w qv h e t) (h j t) (value_with_zeros w qv h e t) (qv j t)
      (evaluated (rule kind true) w q (Some (cap n)) 0 e t) (q j t) (expr_with_zeros w qv h q good e (Some (cap n)) 0 t) (good j t))
    where
      at : (b : Bool) (h h' : Bool) (f f' : Fraction) (r r' : Result Pair Stop) → Good ⊥ covers h f r → Good ⊥ covers h' f' r'
          → Good ⊥ covers (cond b h h') (cond b f f') (cond b r r')
      at true h h' f f' r r' x y = x
      at false h h' f f' r r' x y = y

  -- what the second rule gives covers the value by this rule
  pub zeros_are_covered : (w : Weights) (f : PlainFormula) (s : ℕ → ℕ) (c : Pair) → formula_value (rule kind true) w f s ≡ Ok c
      → (is_supported_with_zeros w f s ≡ true) × covers c (value_of_with_zeros w f s)
  zeros_are_covered w f s c e =
      (expr_with_zeros w (values_with_zeros w (λ j s. over 1 1) (λ j s. true) 0 f.defs) (supported_with_zeros w (λ j s. over 1 1) (λ j s. true) 0 f.defs)
      (evaluated_from (rule kind true) w (λ j t. Ok (kind.from_ratio 1 1)) 0 f.defs)
      (defs_with_zeros w f.defs 0 (λ j s. over 1 1) (λ j s. true) (λ j t. Ok (kind.from_ratio 1 1)) given_one) f.main None 0 s).found c e
    where
      given_one : (j : ℕ) (t : ℕ → ℕ) → Good ⊥ covers true (over 1 1) (Ok (kind.from_ratio 1 1))
      given_one j t = record {
        found = λ c e. (refl, subst (λ x. covers x (over 1 1)) (let m : kind.from_ratio 1 1 ≡ c = cc in m) (law.keeps.ratio 1 1 (omega arith)));
        none = λ on. absurd on;
      }
