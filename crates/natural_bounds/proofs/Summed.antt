-- Bounds of the strata, summed, bound the effect, whatever bounds they are.
use Rattle.std.proofs.Common.{ℕ, zero, suc, ◌*◌, ◌≡◌, ◌<◌, ◌≤◌, Bool, true, false, ◌||◌, refl, sym, ap, ◌∙◌, subst, arith}
use Rattle.std.proofs.lemmas.Bool.{or_left, or_right}
use mathlib.Core.Path.{fun_ext}
use Rattle.mixed_graph.specs.Vocabulary.{MixedGraph, IsMixedGraph}
use Rattle.fractions.specs.Vocabulary.{Fraction, over, IsEqual, mul}
use Rattle.fractions.proofs.FractionLaws.{equal_refl}
use Rattle.finite_models.specs.Vocabulary.{sum_over, set_at, FiniteModel, Fits, IsAssignment, event_weight, intervene, weight_of, probability, total}
use Rattle.finite_models.proofs.Bools.{not_both}
use Rattle.finite_models.proofs.Factors.{marginal}
use Rattle.finite_models.proofs.Following.{follows_of, intervene_alike}
use Rattle.finite_models.proofs.Ranks.{with_rank}
use Rattle.finite_models.proofs.SumLaws.{along, sum_below-congr, set_at-other}
use Rattle.do_rules.specs.Vocabulary.{cut_into}
use Rattle.do_rules.proofs.Altered.{ranked_into, follows_into}
use Rattle.prob_expr.specs.Vocabulary.{AreProportional, Weights, weights_of, add_over}
use Rattle.prob_expr.proofs.Boxes.{assignment_set, IsStable, add_over_whole, sum_over_equal}
use Rattle.hidden_models.proofs.Depends.{weight_depends}
use Rattle.natural_bounds.specs.declared.ends.End.{End}
use Rattle.natural_bounds.specs.declared.ends.End.TheVariants.{AtLeast, AtMost}
use Rattle.natural_bounds.specs.Natural.{nothing}
use Rattle.natural_bounds.specs.Orders.{Bounds}
use Rattle.natural_bounds.specs.Bounds.{Asked, fixed, share, stratum, condition, IsAskedOf}
use Rattle.natural_bounds.proofs.Natural.{unmoved_weight}
use Rattle.natural_bounds.proofs.Orders.{positive-times, bounds_equal, add_over_bounds}
use Rattle.natural_bounds.proofs.Strata.{Holds, term_lower, term_upper, some, counted, counted_stratum}

-- a sum over a box depends on the sizes of the summed coordinates alone
pub sum_over_sizes : (u : ℕ → Bool) (s t : ℕ → ℕ) (n : ℕ) (f : (ℕ → ℕ) → ℕ) (b : ℕ → ℕ) → ((i : ℕ) → i < n → u i ≡ true → s i ≡ t i)
    → sum_over u s n f b ≡ sum_over u t n f b
sum_over_sizes u s t zero f b h = refl
sum_over_sizes u s t (suc n) f b h = go (u n) refl (λ c. sum_over_sizes u s t n f c (λ i lt e. h i (omega arith) e))
  where
    go : (v : Bool) → u n ≡ v → ((c : ℕ → ℕ) → sum_over u s n f c ≡ sum_over u t n f c)
        → along v (s n) n (sum_over u s n f) b ≡ along v (t n) n (sum_over u t n f) b
    go true e ih = rw (sym (h n (omega arith) e)) (sum_below-congr (s n) (λ x. sum_over u s n f (set_at b n x)) (λ x. sum_over u t n f (set_at b n x))
        (λ x lt. ih (set_at b n x)))
    go false e ih = ih b

or_assoc : (p q r : Bool) → (p || (q || r)) ≡ ((p || q) || r)
or_assoc true q r = refl
or_assoc false q r = refl

pub positive_left : (c all C t : ℕ) → c * all ≡ C * t → 1 ≤ C → 1 ≤ t → 1 ≤ c
positive_left zero all C t e p q = absurd (let k = positive-times C t p q in omega (arith, k, e))
positive_left (suc c) all C t e p q = omega arith

module _ (g : MixedGraph) (ok : IsMixedGraph g) (used : ℕ → Bool) (q : Asked) (asked : IsAskedOf g used q) (m : FiniteModel) (fit : Fits g m) (n : Weights)
    (all : ℕ) (match : AreProportional used n all (weights_of m) (total m)) (s : ℕ → ℕ) (within : IsAssignment m.vertices m.size s)
    (has_weight : 1 ≤ condition n q s) (end : End) (bound : (ℕ → ℕ) → Fraction) (bottom : (t : ℕ → ℕ) → 1 ≤ (bound t).bottom)
    (hold : (t : ℕ → ℕ) → IsAssignment m.vertices m.size t
    → Holds end (bound t) (weight_of m nothing (fixed q) t) (weight_of m q.x (λ v. q.y v || fixed q v) t)) where
  -- an assignment with the values of s outside the strata
  abbrev Alike : (ℕ → ℕ) → Type 0
  Alike t = IsAssignment m.vertices m.size t × ((v : ℕ) → q.u v ≡ false → t v ≡ s v)

  in_all : (v : ℕ) → q.u v ≡ true → (q.x v || (q.y v || (q.z v || fixed q v))) ≡ true
  in_all v i = or_right (q.x v) (q.y v || (q.z v || fixed q v)) (or_right (q.y v) (q.z v || fixed q v) (or_right (q.z v) (fixed q v)
      (or_right (q.c v) (q.u v) i)))

  in_condition : (v : ℕ) → q.c v ≡ true → (q.z v || fixed q v) ≡ true
  in_condition v i = or_right (q.z v) (fixed q v) (or_left (q.c v) (q.u v) i)

  same_size : (i : ℕ) → i < m.vertices → q.u i ≡ true → n.size i ≡ m.size i
  same_size i lt e = match.sizes i lt (asked.covered i (in_all i e))

  stable : IsStable n.vertices q.u n.size Alike
  stable c i k lt i_u kl p = (
    assignment_set m.vertices m.size c i k (subst (λ b. k < b) (same_size i (subst (λ b. i < b) match.vertices lt) i_u) kl) p.0,
    λ v vu. set_at-other c i k v (λ same. not_both (q.u v) (subst (λ j. q.u j ≡ true) (sym same) i_u) vu) ∙ p.1 v vu,
  )

  stable_in : IsStable m.vertices q.u m.size Alike
  stable_in c i k lt i_u kl p = (
    assignment_set m.vertices m.size c i k kl p.0,
    λ v vu. set_at-other c i k v (λ same. not_both (q.u v) (subst (λ j. q.u j ≡ true) (sym same) i_u) vu) ∙ p.1 v vu,
  )

  start : Alike s
  start = (within, λ v e. refl)

  -- W_x(y, w)
  abbrev joint_at : (ℕ → ℕ) → ℕ
  joint_at t = weight_of m q.x (λ v. q.y v || fixed q v) t

  unmoved : weight_of m q.x q.c s ≡ weight_of m nothing q.c s
  unmoved = unmoved_weight g ok q.x q.y q.z (fixed q) asked.instrument m fit s within q.c in_condition

  counted_given : weight_of m q.x q.c s * all ≡ condition n q s * total m
  counted_given = ap (λ k. k * all) unmoved ∙ counted g ok used q asked m fit n all match q.c
      (λ v i. or_right (q.x v) (q.y v || (q.z v || fixed q v)) (or_right (q.y v) (q.z v || fixed q v) (in_condition v i))) s within

  pub given_some : 1 ≤ weight_of m q.x q.c s
  given_some = positive_left (weight_of m q.x q.c s) all (condition n q s) (total m) counted_given has_weight (some g ok used q asked m fit n all match)

  -- the condition has one weight in all strata
  given_at : (t : ℕ → ℕ) → Alike t → weight_of m q.x q.c s * all ≡ condition n q t * total m
  given_at t p = ap (λ k. k * all) (unmoved ∙ weight_depends g m ok (follows_of g m fit) nothing nothing q.c q.c s t (λ v vl. refl) (λ v vl. refl)
      (λ v vl e. absurd (grind (arith, e))) (λ v vl e. sym (p.1 v (asked.apart v e))))
      ∙ counted g ok used q asked m fit n all match q.c
      (λ v i. or_right (q.x v) (q.y v || (q.z v || fixed q v)) (or_right (q.y v) (q.z v || fixed q v) (in_condition v i))) t p.0

  condition_some : (t : ℕ → ℕ) → Alike t → 1 ≤ condition n q t
  condition_some t p = positive_left (condition n q t) (total m) (weight_of m q.x q.c s) all (sym (given_at t p)) given_some match.some

  term : (t : ℕ → ℕ) → Alike t → Bounds end (mul (share n q t) (bound t)) (over (joint_at t) (weight_of m q.x q.c s))
  term t p = at_end end (hold t p.0)
    where
      some_here : 1 ≤ (mul (share n q t) (bound t)).bottom
      some_here = positive-times (condition n q t) (bound t).bottom (condition_some t p) (bottom t)

      at_end : (end : End) → Holds end (bound t) (weight_of m nothing (fixed q) t) (joint_at t)
          → Bounds end (mul (share n q t) (bound t)) (over (joint_at t) (weight_of m q.x q.c s))
      at_end AtLeast h = record {
        left_bottom = some_here;
        right_bottom = given_some;
        products = term_lower (stratum n q t) (condition n q t) (bound t).top (bound t).bottom
            (weight_of m nothing (fixed q) t) (weight_of m q.x q.c s) (joint_at t) all (total m) (some g ok used q asked m fit n all match)
            (counted_stratum g ok used q asked m fit n all match t p.0) (given_at t p) h;
      }
      at_end AtMost h = record {
        left_bottom = given_some;
        right_bottom = some_here;
        products = term_upper (stratum n q t) (condition n q t) (bound t).top (bound t).bottom
            (weight_of m nothing (fixed q) t) (weight_of m q.x q.c s) (joint_at t) all (total m) (some g ok used q asked m fit n all match)
            (counted_stratum g ok used q asked m fit n all match t p.0) (given_at t p) h;
      }

  summed : sum_over q.u n.size n.vertices joint_at s ≡ weight_of m q.x (λ v. q.y v || q.c v) s
  summed =
      ap (λ k. sum_over q.u n.size k joint_at s) match.vertices
      ∙ sum_over_sizes q.u n.size m.size m.vertices joint_at s same_size
      ∙ sum_over_equal q.u m.size Alike m.vertices m.size joint_at (λ t. event_weight (intervene m q.x s) (λ v. (q.y v || q.c v) || q.u v) t) s
      (λ i lt. refl) stable_in start
      (λ t p. ap (λ k. event_weight k (λ v. q.y v || (q.c v || q.u v)) t)
      (intervene_alike m q.x t s (λ v e. p.1 v (u_none v e)))
      ∙ ap (λ a. event_weight (intervene m q.x s) a t) (fun_ext (λ v. or_assoc (q.y v) (q.c v) (q.u v))))
      ∙ with_rank g ok (sum_over q.u m.size m.vertices (λ t. event_weight (intervene m q.x s) (λ v. (q.y v || q.c v) || q.u v) t) s)
      (weight_of m q.x (λ v. q.y v || q.c v) s)
      (λ rank ranked. marginal (cut_into g q.x) (intervene m q.x s) rank (ranked_into g q.x rank ranked)
      (follows_into g m q.x s within (follows_of g m fit)) (λ v. q.y v || q.c v) q.u s apart_u)
    where
      u_none : (v : ℕ) → q.x v ≡ true → q.u v ≡ false
      u_none v e = go (q.u v) refl
        where
          go : (b : Bool) → q.u v ≡ b → q.u v ≡ false
          go true k = absurd (not_both (fixed q v) (or_right (q.c v) (q.u v) k) (asked.instrument.sets.x_w v e))
          go false k = k

      apart_u : (v : ℕ) → (q.y v || q.c v) ≡ true → q.u v ≡ true → ⊥
      apart_u v i k = go (q.y v) refl i
        where
          go : (b : Bool) → q.y v ≡ b → (b || q.c v) ≡ true → ⊥
          go true e j = not_both (fixed q v) (or_right (q.c v) (q.u v) k) (asked.instrument.sets.y_w v e)
          go false e j = not_both (q.u v) k (asked.apart v j)

  whole : IsEqual (add_over q.u n.size n.vertices (λ t. over (joint_at t) (weight_of m q.x q.c s)) s) (probability m q.x q.y q.c s)
  whole = subst (λ k. IsEqual (add_over q.u n.size n.vertices (λ t. over (joint_at t) (weight_of m q.x q.c s)) s) (over k (weight_of m q.x q.c s))) summed
      (add_over_whole q.u n.size Alike n.vertices (weight_of m q.x q.c s) (λ t. over (joint_at t) (weight_of m q.x q.c s)) joint_at s given_some stable start
      (λ t p. equal_refl (over (joint_at t) (weight_of m q.x q.c s)) given_some))

  pub effect_holds : Bounds end (add_over q.u n.size n.vertices (λ t. mul (share n q t) (bound t)) s) (probability m q.x q.y q.c s)
  effect_holds = bounds_equal end (add_over q.u n.size n.vertices (λ t. mul (share n q t) (bound t)) s)
      (add_over q.u n.size n.vertices (λ t. over (joint_at t) (weight_of m q.x q.c s)) s) (probability m q.x q.y q.c s)
      (add_over_bounds end q.u n.size Alike n.vertices
      (λ t. mul (share n q t) (bound t)) (λ t. over (joint_at t) (weight_of m q.x q.c s)) s stable start term)
      whole
