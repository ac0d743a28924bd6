-- In a matching positive model a formula has a value over the counts, and it is the model's.
use Rattle.std.proofs.Common.{ℕ, zero, suc, ◌*◌, ◌≡◌, ◌<◌, ◌≤◌, Bool, true, false, cond, not, ◌&&◌, ◌||◌, eqb, refl, sym, ap, ap₂, ◌∙◌, subst, arith}
use Rattle.std.proofs.Common.{ne_eqb, mul-pos, List, [], ◌∷◌}
use mathlib.Core.Path.{fun_ext}
use Rattle.std.proofs.lemmas.Bool.{and_from}
use Rattle.mixed_graph.specs.Vocabulary.{MixedGraph, IsMixedGraph, has, is_empty}
use Rattle.finite_models.specs.Vocabulary.{set_at, all_below, FiniteModel, Fits, IsAssignment, IsPositiveModel, weight_of, total}
use Rattle.prob_expr.specs.Tree.{Tree, prob, sum, product, quotient, named, tree}
use Rattle.prob_expr.specs.Vocabulary.{Trees, no_trees, PlainFormula, is_under, are_under, all_under, is_listed, is_do_free, add_over, Weights, weights_of, value, product_value, values_from, value_of}
use Rattle.fractions.specs.Vocabulary.{Fraction, over, IsEqual, add, mul, div, IsPositive}
use Rattle.finite_models.proofs.Bools.{and_first, and_second, either}
use Rattle.mixed_graph.proofs.MaskLaws.{empty_has}
use Rattle.fractions.proofs.FractionLaws.{mul_positive, div_positive}
use Rattle.prob_expr.proofs.Boxes.{assignment_set, add_over_positive}
use Rattle.finite_models.proofs.Positive.{positive_weight}
use Rattle.finite_models.proofs.Following.{follows_of}
use Rattle.finite_models.proofs.Weights.{weight-none, weight_of-none}
use Rattle.prob_expr.proofs.Alike.{Events, Asks, AskEach, AllAsk, formula_alike}
use Rattle.prob_expr.proofs.ValueLaws.{values_are_positive}
use Rattle.count_eval.specs.Supported.{all_over, has_value, have_values, supported_from}
use Rattle.count_eval.specs.Laws.{is_supported, IsUsed, AreUsed, AllUsed, IsMatched, MatchedHasValue}
use Rattle.count_eval.proofs.Covered.{down_add, down_all}
use Rattle.count_eval.proofs.Orders

-- ---- sizes of vertices that aren't summed don't matter
module _ (w : Weights) (size : ℕ → ℕ) (used : ℕ → Bool) (sizes : (v : ℕ) → v < w.vertices → used v ≡ true → w.size v ≡ size v) where
  abbrev pub resized : Weights
  resized = record w { size = size }

  same_add : (U : ℕ → Bool) → ((v : ℕ) → U v ≡ true → used v ≡ true) → (F G : (ℕ → ℕ) → Fraction) → ((c : ℕ → ℕ) → F c ≡ G c) → (b : ℕ → ℕ)
      → add_over U w.size w.vertices F b ≡ add_over U size w.vertices G b
  same_add U us F G h b =
      sym (down_add U w.size w.vertices F b) ∙ Orders.same_down add (over 0 1) U w.size size w.vertices (λ v lt u. sizes v lt (us v u)) F G h b
      ∙ down_add U size w.vertices G b

  same_all : (U : ℕ → Bool) → ((v : ℕ) → U v ≡ true → used v ≡ true) → (F G : (ℕ → ℕ) → Bool) → ((c : ℕ → ℕ) → F c ≡ G c) → (b : ℕ → ℕ)
      → all_over U w.size w.vertices F b ≡ all_over U size w.vertices G b
  same_all U us F G h b =
      sym (down_all U w.size w.vertices F b) ∙ Orders.same_down (λ x y. x && y) true U w.size size w.vertices (λ v lt u. sizes v lt (us v u)) F G h b
      ∙ down_all U size w.vertices G b

  module _ (q q' : ℕ → (ℕ → ℕ) → Fraction) (h h' : ℕ → (ℕ → ℕ) → Bool) (eq : (j : ℕ) (t : ℕ → ℕ) → q j t ≡ q' j t)
      (eh : (j : ℕ) (t : ℕ → ℕ) → h j t ≡ h' j t) where
    mutual
      pub same_value : (e : Tree) → IsUsed used e → (s : ℕ → ℕ) → value w q e s ≡ value resized q' e s
      same_value (prob a b c) u s = refl
      same_value (sum v e) u s = same_add (has v) u.0 (value w q e) (value resized q' e) (λ c. same_value e u.1 c) s
      same_value (product fs) u s = same_product fs u s
      same_value (quotient x y) u s = ap₂ div (same_value x u.0 s) (same_value y u.1 s)
      same_value (named k) u s = eq k s

      same_product : (fs : Trees) → AreUsed used fs → (s : ℕ → ℕ) → product_value w q fs s ≡ product_value resized q' fs s
      same_product no_trees u s = refl
      same_product (tree e fs) u s = ap₂ mul (same_value e u.0 s) (same_product fs u.1 s)

    mutual
      pub same_has : (e : Tree) → IsUsed used e → (s : ℕ → ℕ) → has_value w q h e s ≡ has_value resized q' h' e s
      same_has (prob a b c) u s = refl
      same_has (sum v e) u s = same_all (has v) u.0 (has_value w q h e) (has_value resized q' h' e) (λ c. same_has e u.1 c) s
      same_has (product fs) u s = same_have fs u s
      same_has (quotient x y) u s = ap₂ (λ a b. a && b) (same_has x u.0 s)
          (ap₂ (λ a (f : Fraction). a && not (eqb f.top 0)) (same_has y u.1 s) (same_value y u.1 s))
      same_has (named k) u s = eh k s

      same_have : (fs : Trees) → AreUsed used fs → (s : ℕ → ℕ) → have_values w q h fs s ≡ have_values resized q' h' fs s
      same_have no_trees u s = refl
      same_have (tree e fs) u s = ap₂ (λ a b. a && b) (same_has e u.0 s) (same_have fs u.1 s)

  pub record AreSame (q q' : ℕ → (ℕ → ℕ) → Fraction) (h h' : ℕ → (ℕ → ℕ) → Bool) : Type 0 where
    pub values : (j : ℕ) (t : ℕ → ℕ) → q j t ≡ q' j t
    pub supports : (j : ℕ) (t : ℕ → ℕ) → h j t ≡ h' j t

  same_defs : (ds : List Tree) → AllUsed used ds → (n : ℕ) (q q' : ℕ → (ℕ → ℕ) → Fraction) (h h' : ℕ → (ℕ → ℕ) → Bool) → AreSame q q' h h'
      → AreSame (values_from w q n ds) (values_from resized q' n ds) (supported_from w q h n ds) (supported_from resized q' h' n ds)
  same_defs [] u n q q' h h' k = k
  same_defs (d ∷ ds) u n q q' h h' k =
      same_defs ds u.1 (suc n) (λ j s. cond (eqb j n) (value w q d s) (q j s)) (λ j s. cond (eqb j n) (value resized q' d s) (q' j s))
      (λ j s. cond (eqb j n) (has_value w q h d s) (h j s)) (λ j s. cond (eqb j n) (has_value resized q' h' d s) (h' j s))
      (record {
        values = λ j t. ap₂ (cond (eqb j n)) (same_value q q' h h' k.values k.supports d u.0 t) (k.values j t);
        supports = λ j t. ap₂ (cond (eqb j n)) (same_has q q' h h' k.values k.supports d u.0 t) (k.supports j t);
      })

  same_formula : (f : PlainFormula) → AllUsed used f.defs → IsUsed used f.main → (s : ℕ → ℕ) → (value_of w f s ≡ value_of resized f s)
      × (is_supported w f s ≡ is_supported resized f s)
  same_formula f ds main s =
      let k = same_defs f.defs ds 0 (λ j t. over 1 1) (λ j t. over 1 1) (λ j t. true) (λ j t. true)
      (record { values = λ j t. refl; supports = λ j t. refl }) in (
        same_value (values_from w (λ j t. over 1 1) 0 f.defs) (values_from resized (λ j t. over 1 1) 0 f.defs)
            (supported_from w (λ j t. over 1 1) (λ j t. true) 0 f.defs) (supported_from resized (λ j t. over 1 1) (λ j t. true) 0 f.defs)
            k.values k.supports f.main main s,
        same_has (values_from w (λ j t. over 1 1) 0 f.defs) (values_from resized (λ j t. over 1 1) 0 f.defs)
            (supported_from w (λ j t. over 1 1) (λ j t. true) 0 f.defs) (supported_from resized (λ j t. over 1 1) (λ j t. true) 0 f.defs)
            k.values k.supports f.main main s,
      )

-- ---- where each weight is positive, each value is there and is positive
none_doing : (b : ℕ) → (is_empty b || is_listed b []) ≡ true → has b ≡ (λ v. false)
none_doing b e = fun_ext (λ v. empty_has b v (left (is_empty b) e))
  where
    left : (p : Bool) → (p || false) ≡ true → p ≡ true
    left true h = refl
    left false h = h

pub record IsSure (h : Bool) (f : Fraction) : Type 0 where
  pub has : h ≡ true
  pub positive : IsPositive f

module _ (w : Weights) (used : ℕ → Bool) (some : (v : ℕ) → v < w.vertices → 1 ≤ w.size v)
    (positive : (a : ℕ → Bool) → ((v : ℕ) → a v ≡ true → used v ≡ true) → (s : ℕ → ℕ) → IsAssignment w.vertices w.size s → 1 ≤ w.weight (λ v. false) a s) where
  all_sure : (U : ℕ → Bool) (n : ℕ) → n ≤ w.vertices → (F : (ℕ → ℕ) → Bool) → ((c : ℕ → ℕ) → IsAssignment w.vertices w.size c → F c ≡ true) → (b : ℕ → ℕ)
      → IsAssignment w.vertices w.size b → all_over U w.size n F b ≡ true
  all_sure U zero le F h b k = h b k
  all_sure U (suc n) le F h b k = go (U n) (λ c kc. all_sure U n (omega arith) F h c kc)
    where
      below : (m : ℕ) (f : ℕ → Bool) → ((x : ℕ) → x < m → f x ≡ true) → all_below m f ≡ true
      below zero f g = refl
      below (suc m) f g = and_from (all_below m f) (f m) (below m f (λ x lt. g x (omega arith))) (g m (omega arith))

      go : (p : Bool) → ((c : ℕ → ℕ) → IsAssignment w.vertices w.size c → all_over U w.size n F c ≡ true)
          → cond p (all_below (w.size n) (λ x. all_over U w.size n F (set_at b n x))) (all_over U w.size n F b) ≡ true
      go true ih = below (w.size n) (λ x. all_over U w.size n F (set_at b n x)) (λ x lt. ih (set_at b n x) (assignment_set w.vertices w.size b n x lt k))
      go false ih = ih b k

  not_zero : (n : ℕ) → 1 ≤ n → not (eqb n 0) ≡ true
  not_zero n le = ap not (ne_eqb n 0 (λ e. absurd (omega arith)))

  module _ (q : ℕ → (ℕ → ℕ) → Fraction) (h : ℕ → (ℕ → ℕ) → Bool) (each_named : (j : ℕ) (t : ℕ → ℕ) → IsAssignment w.vertices w.size t
      → IsSure (h j t) (q j t)) where
    mutual
      pub sure : (e : Tree) → is_under [] e ≡ true → IsUsed used e → (s : ℕ → ℕ) → IsAssignment w.vertices w.size s
          → IsSure (has_value w q h e s) (value w q e s)
      sure (prob a b c) d u s k =
          let bottom : 1 ≤ w.weight (has b) (has c) s = subst (λ B. 1 ≤ w.weight B (has c) s) (sym (none_doing b d)) (positive (has c) u.1 s k) in
          record {
            has = not_zero (w.weight (has b) (has c) s) bottom;
            positive = record {
              top = subst (λ B. 1 ≤ w.weight B (λ v. has a v || has c v) s) (sym (none_doing b d))
                  (positive (λ v. has a v || has c v) (λ v e. either (has a v) (has c v) (used v ≡ true) e (u.0 v) (u.1 v)) s k);
              bottom = bottom;
            };
          }
      sure (sum v e) d u s k = record {
        has = all_sure (has v) w.vertices (omega arith) (has_value w q h e) (λ c kc. (sure e d u.1 c kc).has) s k;
        positive = add_over_positive (has v) w.size (IsAssignment w.vertices w.size) w.vertices (value w q e) s (λ i lt. some i lt)
            (λ c i x lt ui xl p. assignment_set w.vertices w.size c i x xl p) k (λ c kc. (sure e d u.1 c kc).positive);
      }
      sure (product fs) d u s k = sure_each fs d u s k
      sure (quotient x y) d u s k =
          let a = sure x (and_first (is_under [] x) (is_under [] y) d) u.0 s k in
          let b = sure y (and_second (is_under [] x) (is_under [] y) d) u.1 s k in
          record {
            has = and_from (has_value w q h x s) (has_value w q h y s && not (eqb (value w q y s).top 0)) a.has
                (and_from (has_value w q h y s) (not (eqb (value w q y s).top 0)) b.has (not_zero (value w q y s).top b.positive.top));
            positive = div_positive (value w q x s) (value w q y s) a.positive b.positive;
          }
      sure (named j) d u s k = each_named j s k

      sure_each : (fs : Trees) → are_under [] fs ≡ true → AreUsed used fs → (s : ℕ → ℕ) → IsAssignment w.vertices w.size s
          → IsSure (have_values w q h fs s) (product_value w q fs s)
      sure_each no_trees d u s k = record { has = refl; positive = record { top = omega arith; bottom = omega arith } }
      sure_each (tree e fs) d u s k =
          let a = sure e (and_first (is_under [] e) (are_under [] fs) d) u.0 s k in
          let b = sure_each fs (and_second (is_under [] e) (are_under [] fs) d) u.1 s k in
          record {
            has = and_from (has_value w q h e s) (have_values w q h fs s) a.has b.has;
            positive = mul_positive (value w q e s) (product_value w q fs s) a.positive b.positive;
          }

  sure_defs : (ds : List Tree) → all_under [] ds ≡ true → AllUsed used ds → (n : ℕ) (q : ℕ → (ℕ → ℕ) → Fraction) (h : ℕ → (ℕ → ℕ) → Bool)
      → ((j : ℕ) (t : ℕ → ℕ) → IsAssignment w.vertices w.size t → IsSure (h j t) (q j t))
      → (j : ℕ) (t : ℕ → ℕ) → IsAssignment w.vertices w.size t → IsSure (supported_from w q h n ds j t) (values_from w q n ds j t)
  sure_defs [] d u n q h k = k
  sure_defs (e ∷ es) d u n q h k =
      sure_defs es (and_second (is_under [] e) (all_under [] es) d) u.1 (suc n) (λ j s. cond (eqb j n) (value w q e s) (q j s))
      (λ j s. cond (eqb j n) (has_value w q h e s) (h j s))
      (λ j t kt. at (eqb j n) (has_value w q h e t) (h j t) (value w q e t) (q j t) (sure q h k e (and_first (is_under [] e) (all_under [] es) d) u.0 t kt)
      (k j t kt))
    where
      at : (b : Bool) (h h' : Bool) (f f' : Fraction) → IsSure h f → IsSure h' f' → IsSure (cond b h h') (cond b f f')
      at true h h' f f' x y = x
      at false h h' f f' x y = y

  sure_formula : (f : PlainFormula) → is_do_free f ≡ true → AllUsed used f.defs → IsUsed used f.main → (s : ℕ → ℕ) → IsAssignment w.vertices w.size s
      → IsSure (is_supported w f s) (value_of w f s)
  sure_formula f d ds main s k =
      sure (values_from w (λ j t. over 1 1) 0 f.defs) (supported_from w (λ j t. over 1 1) (λ j t. true) 0 f.defs)
      (sure_defs f.defs (and_first (all_under [] f.defs) (is_under [] f.main) d) ds 0 (λ j t. over 1 1) (λ j t. true)
      (λ j t kt. record { has = refl; positive = record { top = omega arith; bottom = omega arith } }))
      f.main (and_second (all_under [] f.defs) (is_under [] f.main) d) main s k

-- ---- the events that are asked for are observed, and of used vertices
abbrev observed_of : (ℕ → Bool) → Events
observed_of used b a = ((is_empty b || is_listed b []) ≡ true) × ((v : ℕ) → a v ≡ true → used v ≡ true)

mutual
  asks_of : (used : ℕ → Bool) (e : Tree) → is_under [] e ≡ true → IsUsed used e → Asks (observed_of used) e
  asks_of used (prob a b c) d u = ((d, λ v h. either (has a v) (has c v) (used v ≡ true) h (u.0 v) (u.1 v)), (d, u.1))
  asks_of used (sum v e) d u = asks_of used e d u.1
  asks_of used (product fs) d u = ask_of used fs d u
  asks_of used (quotient x y) d u =
      (asks_of used x (and_first (is_under [] x) (is_under [] y) d) u.0, asks_of used y (and_second (is_under [] x) (is_under [] y) d) u.1)
  asks_of used (named k) d u = tt

  ask_of : (used : ℕ → Bool) (fs : Trees) → are_under [] fs ≡ true → AreUsed used fs → AskEach (observed_of used) fs
  ask_of used no_trees d u = tt
  ask_of used (tree e fs) d u =
      (asks_of used e (and_first (is_under [] e) (are_under [] fs) d) u.0, ask_of used fs (and_second (is_under [] e) (are_under [] fs) d) u.1)

all_ask_of : (used : ℕ → Bool) (ds : List Tree) → all_under [] ds ≡ true → AllUsed used ds → AllAsk (observed_of used) ds
all_ask_of used [] d u = tt
all_ask_of used (e ∷ es) d u =
    (asks_of used e (and_first (is_under [] e) (all_under [] es) d) u.0, all_ask_of used es (and_second (is_under [] e) (all_under [] es) d) u.1)

positive_other : (a b c d : ℕ) → a * b ≡ c * d → 1 ≤ a → 1 ≤ b → 1 ≤ c
positive_other a b zero d e la lb = absurd (let r : 1 ≤ a * b = mul-pos la lb in let z : 0 * d ≡ 0 = omega arith in omega arith)
positive_other a b (suc c) d e la lb = omega arith

pub size_positive : (a b : ℕ) → a < b → 1 ≤ b
size_positive a b lt = omega arith

module _ (g : MixedGraph) (ok : IsMixedGraph g) (m : FiniteModel) (fit : Fits g m) (positive : IsPositiveModel m) (used : ℕ → Bool) (w : Weights) (all : ℕ)
    (k : IsMatched used w all m) where
  -- used vertices have the sizes of the model
  pub matched_sizes : (v : ℕ) → v < w.vertices → used v ≡ true → w.size v ≡ m.size v
  matched_sizes v lt u = k.sizes v (let e = k.vertices in omega (arith, e)) u

  to_model : (t : ℕ → ℕ) → IsAssignment w.vertices m.size t → IsAssignment m.vertices m.size t
  to_model t h v lt = h v (let e = k.vertices in omega (arith, e))

  pub from_model : (t : ℕ → ℕ) → IsAssignment m.vertices m.size t → IsAssignment w.vertices m.size t
  from_model t h v lt = h v (let e = k.vertices in omega (arith, e))

  weight_one : (a : ℕ → Bool) (t : ℕ → ℕ) → IsAssignment m.vertices m.size t → 1 ≤ weight_of m (λ v. false) a t
  weight_one a t h = positive_weight g m ok (follows_of g m fit) positive (λ v. false) a t h

  -- each weight of used vertices is positive
  pub matched_positive : (a : ℕ → Bool) → ((v : ℕ) → a v ≡ true → used v ≡ true) → (t : ℕ → ℕ) → IsAssignment w.vertices m.size t
      → 1 ≤ w.weight (λ v. false) a t
  matched_positive a u t h = positive_other (weight_of m (λ v. false) a t) all (w.weight (λ v. false) a t) (total m) (k.weights a u t (to_model t h))
      (weight_one a t (to_model t h)) k.some

  has_value_there : (f : PlainFormula) → is_do_free f ≡ true → AllUsed used f.defs → IsUsed used f.main → (s : ℕ → ℕ) → IsAssignment m.vertices m.size s
      → (is_supported w f s ≡ true) × IsEqual (value_of w f s) (value_of (weights_of m) f s)
  has_value_there f d ds main s within =
      let back : IsAssignment w.vertices m.size s = from_model s within in
      let w' : Weights = record w { size = m.size } in
      let total_one : 1 ≤ total m = subst (λ n. 1 ≤ n) (weight_of-none m (λ v. false) (λ v. false) s (λ v. refl) ∙ weight-none m (λ v. false) s (λ v. refl))
      (weight_one (λ v. false) s within) in
      let same = same_formula w m.size used matched_sizes f ds main s in
      let alike = formula_alike w' (weights_of m) k.vertices (λ v lt. refl) (λ v lt. size_positive (s v) (m.size v) (back v lt)) all (total m)
      (mul-pos k.some total_one)
      (observed_of used) (λ b a u t h. subst (λ B. 1 ≤ w'.weight B a t) (sym (none_doing b u.0)) (matched_positive a u.1 t h))
      (λ b a u t h. subst (λ B. w'.weight B a t * total m ≡ weight_of m B a t * all) (sym (none_doing b u.0)) (sym (k.weights a u.1 t (to_model t h))))
      f (all_ask_of used f.defs (and_first (all_under [] f.defs) (is_under [] f.main) d) ds)
      (asks_of used f.main (and_second (all_under [] f.defs) (is_under [] f.main) d) main) s back in (
        same.1 ∙ (sure_formula w' used (λ v lt. size_positive (s v) (m.size v) (back v lt)) matched_positive f d ds main s back).has,
        subst (λ x. IsEqual x (value_of (weights_of m) f s)) (sym same.0) alike,
      )

pub matched_has_value : MatchedHasValue
matched_has_value = λ g ok m fit positive used w all k f d ds main s within. has_value_there g ok m fit positive used w all k f d ds main s within

-- the model's own value has a bottom above 0
pub model_bottom : (g : MixedGraph) → IsMixedGraph g → (m : FiniteModel) → Fits g m → IsPositiveModel m → (f : PlainFormula) (s : ℕ → ℕ)
    → IsAssignment m.vertices m.size s → 1 ≤ (value_of (weights_of m) f s).bottom
model_bottom g ok m fit positive f s within = (values_are_positive g ok m fit positive f s within).bottom
