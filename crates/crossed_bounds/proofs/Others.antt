-- What the other outcomes leave, and a stratum's sharper bound.
use Rattle.std.proofs.Common.{ℕ, zero, suc, ◌+◌, ◌-◌, ◌*◌, ◌≡◌, ◌<◌, ◌≤◌, Bool, true, false, cond, eqb, ◌||◌, refl, sym, ap, ap₂, ◌∙◌, subst, inl, inr, arith}
use mathlib.Core.Path.{fun_ext}
use Rattle.std.proofs.lemmas.Bool.{cases_lt, or_left, or_right}
use Rattle.mixed_graph.specs.Vocabulary.{MixedGraph, IsMixedGraph}
use Rattle.fractions.specs.Vocabulary.{Fraction, over}
use Rattle.fractions.proofs.FractionLaws.{equal_refl}
use Rattle.finite_models.specs.Vocabulary.{sum_over, FiniteModel, Fits, IsAssignment, agree, event_weight, intervene, weight_of, total}
use Rattle.finite_models.proofs.Bools.{not_both}
use Rattle.finite_models.proofs.Factors.{marginal}
use Rattle.finite_models.proofs.Following.{follows_of, intervene_alike}
use Rattle.finite_models.proofs.Ranks.{with_rank}
use Rattle.finite_models.proofs.Solutions.{agree_from}
use Rattle.finite_models.proofs.SumLaws.{over-congr, over-add, over-term, set_at-other}
use Rattle.do_rules.specs.Vocabulary.{cut_into}
use Rattle.do_rules.proofs.Altered.{ranked_into, follows_into}
use Rattle.prob_expr.specs.Vocabulary.{AreProportional, Weights, weights_of, add_over}
use Rattle.prob_expr.proofs.Boxes.{assignment_set, IsStable, add_over_whole, sum_over_equal}
use Rattle.hidden_models.proofs.Depends.{weight_depends}
use Rattle.natural_bounds.specs.declared.ends.End.{End}
use Rattle.natural_bounds.specs.declared.ends.End.TheVariants.{AtLeast, AtMost}
use Rattle.natural_bounds.specs.Vocabulary.{nothing, IsAtMost, trivial, tighter, Asked, fixed, stratum, stratum_bound, IsAskedOf}
use Rattle.natural_bounds.specs.Orders.{Bounds}
use Rattle.natural_bounds.proofs.Summed.{sum_over_sizes, positive_left}
use Rattle.natural_bounds.proofs.Natural.{unmoved_weight}
use Rattle.natural_bounds.proofs.Orders.{times-le, cancelled, at_most_same, equal_at_most, bounds_trans, bounds_same, trivial_bottom}
use Rattle.natural_bounds.proofs.Orders.{tighter_one, tighter_first, tighter_second, add_over_bounds, at_most_trans}
use Rattle.natural_bounds.proofs.Strata.{Holds, some, counted_stratum, cell_within}
use Rattle.crossed_bounds.specs.Crossed.{IsTwoValued, levels_bound, paired_bound, others_least, rest_of, others_bound, sharper_bound, AreSharperCrossed, ArePairedCrossed}
use Rattle.crossed_bounds.specs.Crossed.{SharperIsTight, SharperCrossedHaveNoModel, PairedCrossedHaveNoModel}
use Rattle.crossed_bounds.proofs.Sharper.{paired_bottom, paired_is_natural, paired_is_levels, paired_holds, paired_trivial, trivial_holds}

-- ---- bottoms
term_bottom : (n : Weights) (q : Asked) (s c : ℕ → ℕ) → 1 ≤ (cond (agree n.vertices q.y c s) (over 0 1) (paired_bound AtLeast n q c)).bottom
term_bottom n q s c = go (agree n.vertices q.y c s)
  where
    go : (k : Bool) → 1 ≤ (cond k (over 0 1) (paired_bound AtLeast n q c)).bottom
    go true = omega arith
    go false = paired_bottom AtLeast n q c

least_bottom : (n : Weights) (q : Asked) (s : ℕ → ℕ) → 1 ≤ (others_least n q s).bottom
least_bottom n q s =
    (add_over_bounds AtLeast q.y n.size (λ c. Unit {0}) n.vertices (λ c. cond (agree n.vertices q.y c s) (over 0 1) (paired_bound AtLeast n q c))
    (λ c. cond (agree n.vertices q.y c s) (over 0 1) (paired_bound AtLeast n q c)) s (λ c i k lt e kl p. tt) tt
    (λ c p. at_most_same (cond (agree n.vertices q.y c s) (over 0 1) (paired_bound AtLeast n q c)) (term_bottom n q s c))).left_bottom

others_bottom : (n : Weights) (q : Asked) (s : ℕ → ℕ) → 1 ≤ (others_bound n q s).bottom
others_bottom n q s = go (eqb (stratum n q s) 0)
  where
    go : (k : Bool) → 1 ≤ (cond k (trivial AtMost) (rest_of (others_least n q s))).bottom
    go true = trivial_bottom AtMost
    go false = least_bottom n q s

pub sharper_bottom : (end : End) (n : Weights) (q : Asked) (s : ℕ → ℕ) → 1 ≤ (sharper_bound end n q s).bottom
sharper_bottom AtLeast n q s = paired_bottom AtLeast n q s
sharper_bottom AtMost n q s = tighter_one AtMost (paired_bound AtMost n q s) (others_bound n q s) (λ f. 1 ≤ f.bottom) (paired_bottom AtMost n q s)
    (others_bottom n q s)

sharper_is_paired : (end : End) (n : Weights) (q : Asked) (s : ℕ → ℕ) → Bounds end (paired_bound end n q s) (sharper_bound end n q s)
sharper_is_paired AtLeast n q s = bounds_same AtLeast (paired_bound AtLeast n q s) (paired_bottom AtLeast n q s)
sharper_is_paired AtMost n q s = tighter_first AtMost (paired_bound AtMost n q s) (others_bound n q s) (paired_bottom AtMost n q s) (others_bottom n q s)

pub sharper_is_tight : SharperIsTight
sharper_is_tight n q s = (
  λ end. bounds_trans end (stratum_bound end n q s) (paired_bound end n q s) (sharper_bound end n q s) (paired_is_natural end n q s)
      (sharper_is_paired end n q s),
  λ end r t r_in t_in. bounds_trans end (levels_bound end n q r t) (paired_bound end n q s) (sharper_bound end n q s)
      (paired_is_levels end n q s r t r_in t_in) (sharper_is_paired end n q s),
  tighter_second AtMost (paired_bound AtMost n q s) (others_bound n q s) (paired_bottom AtMost n q s) (others_bottom n q s),
)

-- ---- numbers
-- bounds of one number don't cross, where there is weight
crossed_numbers : (lt lb ut ub w x : ℕ) → 1 ≤ w → lt * w ≤ x * lb → x * ub ≤ ut * w → lt * ub ≤ ut * lb
crossed_numbers lt lb ut ub w x pos h k =
    cancelled (lt * ub) (ut * lb) w pos
    (let a = times-le (lt * w) (x * lb) ub h in let b = times-le (x * ub) (ut * w) lb k in
    let one : (lt * ub) * w ≡ (lt * w) * ub = omega arith in
    let two : (x * lb) * ub ≡ (x * ub) * lb = omega arith in
    let three : (ut * w) * lb ≡ (ut * lb) * w = omega arith in
    omega (arith, a, b, one, two, three))

-- two trivial bounds don't cross
apart_trivial : (trivial AtMost).top * (trivial AtLeast).bottom < (trivial AtLeast).top * (trivial AtMost).bottom → ⊥
apart_trivial lt = absurd (omega (arith, lt))

-- t / b <= r / w and r + x <= w give x / w <= (b - t) / b
rest_numbers : (t b r w x : ℕ) → t * w ≤ r * b → r + x ≤ w → x * b ≤ (b - t) * w
rest_numbers t b r w x h k = elim (cases_lt b t) [
  | inl l ↦
      let p = times-le b t w (omega (arith, l)) in
      let q = times-le (r + x) w b k in
      let s : (r + x) * b ≡ r * b + x * b = omega arith in
      let u : w * b ≡ b * w = omega arith in
      let v : x * b ≡ 0 = omega (arith, h, p, q, s, u) in
      subst (λ n. n ≤ (b - t) * w) (sym v) (omega arith)
  | inr ge ↦
      let p = times-le (r + x) w b k in
      let s : (r + x) * b ≡ r * b + x * b = omega arith in
      let u : w * b ≡ b * w = omega arith in
      let apart : b * w ≡ (b - t) * w + t * w = ap (λ n. n * w) (let a : b ≡ (b - t) + t = omega (arith, ge) in a)
      ∙ (let a : ((b - t) + t) * w ≡ (b - t) * w + t * w = omega arith in a) in
      omega (arith, h, p, s, u, apart)
]

or_turned : (a b : Bool) → (a || b) ≡ (b || a)
or_turned true true = refl
or_turned true false = refl
or_turned false true = refl
or_turned false false = refl

module _ (g : MixedGraph) (ok : IsMixedGraph g) (used : ℕ → Bool) (q : Asked) (asked : IsAskedOf g used q) (m : FiniteModel) (fit : Fits g m) (n : Weights)
    (all : ℕ) (match : AreProportional used n all (weights_of m) (total m)) (b : IsTwoValued n q.x) (s : ℕ → ℕ)
    (within : IsAssignment m.vertices m.size s) where
  abbrev here_at : (ℕ → ℕ) → ℕ
  here_at c = weight_of m nothing (fixed q) c

  abbrev done_at : (ℕ → ℕ) → ℕ
  done_at c = weight_of m q.x (λ v. q.y v || fixed q v) c

  -- an outcome: y alone differs from s
  abbrev Outcome : (ℕ → ℕ) → Type 0
  Outcome c = IsAssignment m.vertices m.size c × ((v : ℕ) → q.y v ≡ false → c v ≡ s v)

  y_size : (i : ℕ) → i < m.vertices → q.y i ≡ true → n.size i ≡ m.size i
  y_size i lt e = match.sizes i lt (asked.covered i (or_right (q.x i) (q.y i || (q.z i || fixed q i)) (or_left (q.y i) (q.z i || fixed q i) e)))

  outcomes_in : IsStable m.vertices q.y m.size Outcome
  outcomes_in c i k lt i_y kl p = (
    assignment_set m.vertices m.size c i k kl p.0,
    λ v vy. set_at-other c i k v (λ e. not_both (q.y v) (subst (λ j. q.y j ≡ true) (sym e) i_y) vy) ∙ p.1 v vy,
  )

  outcomes : IsStable n.vertices q.y n.size Outcome
  outcomes c i k lt i_y kl p = let il = subst (λ j. i < j) match.vertices lt in outcomes_in c i k il i_y (subst (λ j. k < j) (y_size i il i_y) kl) p

  start : Outcome s
  start = (within, λ v e. refl)

  y_none : (a : ℕ → Bool) → ((v : ℕ) → q.y v ≡ true → a v ≡ false) → (v : ℕ) → a v ≡ true → q.y v ≡ false
  y_none a h v e = go (q.y v) refl
    where
      go : (k : Bool) → q.y v ≡ k → q.y v ≡ false
      go true i = absurd (not_both (a v) e (h v i))
      go false i = i

  here_same : (c : ℕ → ℕ) → Outcome c → here_at c ≡ here_at s
  here_same c p = weight_depends g m ok (follows_of g m fit) nothing nothing (fixed q) (fixed q) c s (λ v vl. refl) (λ v vl. refl)
      (λ v vl e. absurd (grind (arith, e))) (λ v vl e. p.1 v (y_none (fixed q) asked.instrument.sets.y_w v e))

  unmoved : weight_of m q.x (fixed q) s ≡ here_at s
  unmoved = unmoved_weight g ok q.x q.y q.z (fixed q) asked.instrument m fit s within (fixed q) (λ v i. or_right (q.z v) (fixed q v) i)

  -- over all outcomes the stratum has its weight
  summed : sum_over q.y n.size n.vertices done_at s ≡ here_at s
  summed =
      ap (λ k. sum_over q.y n.size k done_at s) match.vertices
      ∙ sum_over_sizes q.y n.size m.size m.vertices done_at s y_size
      ∙ sum_over_equal q.y m.size Outcome m.vertices m.size done_at (λ c. event_weight (intervene m q.x s) (λ v. fixed q v || q.y v) c) s
      (λ i lt. refl) outcomes_in start
      (λ c p. ap (λ k. event_weight k (λ v. q.y v || fixed q v) c)
      (intervene_alike m q.x c s (λ v e. p.1 v (y_none q.x (λ w i. x_none w i) v e)))
      ∙ ap (λ a. event_weight (intervene m q.x s) a c) (fun_ext (λ v. or_turned (q.y v) (fixed q v))))
      ∙ with_rank g ok (sum_over q.y m.size m.vertices (λ c. event_weight (intervene m q.x s) (λ v. fixed q v || q.y v) c) s)
      (weight_of m q.x (fixed q) s)
      (λ rank ranked. marginal (cut_into g q.x) (intervene m q.x s) rank (ranked_into g q.x rank ranked)
      (follows_into g m q.x s within (follows_of g m fit)) (fixed q) q.y s (λ v i k. not_both (fixed q v) i (asked.instrument.sets.y_w v k)))
      ∙ unmoved
    where
      x_none : (w : ℕ) → q.y w ≡ true → q.x w ≡ false
      x_none w i = go (q.x w) refl
        where
          go : (k : Bool) → q.x w ≡ k → q.x w ≡ false
          go true e = absurd (not_both (q.y w) i (asked.instrument.sets.x_y w e))
          go false e = e

  abbrev others_done : (ℕ → ℕ) → ℕ
  others_done c = cond (agree n.vertices q.y c s) 0 (done_at c)

  others_sum : sum_over q.y n.size n.vertices others_done s + done_at s ≤ here_at s
  others_sum =
      let both = over-add q.y n.size n.vertices others_done (λ c. cond (agree n.vertices q.y c s) (done_at c) 0) s in
      let whole = over-congr q.y n.size n.vertices (λ c. others_done c + cond (agree n.vertices q.y c s) (done_at c) 0) done_at s
      (λ c. parts (agree n.vertices q.y c s) (done_at c)) in
      let term = over-term q.y n.size n.vertices (λ c. cond (agree n.vertices q.y c s) (done_at c) 0) s
      (λ i lt e. let il = subst (λ j. i < j) match.vertices lt in subst (λ k. s i < k) (sym (y_size i il e)) (within i il)) in
      let own : cond (agree n.vertices q.y s s) (done_at s) 0 ≡ done_at s =
      ap (λ k. cond k (done_at s) 0) (agree_from n.vertices q.y s s (λ v vl i. refl)) in
      let all = summed in
      omega (arith, both, whole, term, own, all)
    where
      parts : (k : Bool) (x : ℕ) → cond k 0 x + cond k x 0 ≡ x
      parts true x = omega arith
      parts false x = omega arith

  module _ (weighs : 1 ≤ here_at s) where
    each : (c : ℕ → ℕ) → Outcome c → IsAtMost (cond (agree n.vertices q.y c s) (over 0 1) (paired_bound AtLeast n q c)) (over (others_done c) (here_at s))
    each c p = go (agree n.vertices q.y c s)
      where
        go : (k : Bool) → IsAtMost (cond k (over 0 1) (paired_bound AtLeast n q c)) (over (cond k 0 (done_at c)) (here_at s))
        go true = record { left_bottom = omega arith; right_bottom = weighs; products = omega arith }
        go false = record {
          left_bottom = paired_bottom AtLeast n q c;
          right_bottom = weighs;
          products = subst (λ w. (paired_bound AtLeast n q c).top * w ≤ done_at c * (paired_bound AtLeast n q c).bottom) (here_same c p)
              (paired_holds g ok used q asked m fit n all match b c p.0 AtLeast);
        }

    least_holds : IsAtMost (others_least n q s) (over (sum_over q.y n.size n.vertices others_done s) (here_at s))
    least_holds = at_most_trans (others_least n q s) (add_over q.y n.size n.vertices (λ c. over (others_done c) (here_at s)) s)
        (over (sum_over q.y n.size n.vertices others_done s) (here_at s))
        (add_over_bounds AtLeast q.y n.size Outcome n.vertices (λ c. cond (agree n.vertices q.y c s) (over 0 1) (paired_bound AtLeast n q c))
        (λ c. over (others_done c) (here_at s)) s outcomes start each)
        (equal_at_most (add_over q.y n.size n.vertices (λ c. over (others_done c) (here_at s)) s)
        (over (sum_over q.y n.size n.vertices others_done s) (here_at s))
        (add_over_whole q.y n.size Outcome n.vertices (here_at s) (λ c. over (others_done c) (here_at s)) others_done s weighs outcomes start
        (λ c p. equal_refl (over (others_done c) (here_at s)) weighs)))

    rest_holds : Holds AtMost (rest_of (others_least n q s)) (here_at s) (done_at s)
    rest_holds = rest_numbers (others_least n q s).top (others_least n q s).bottom (sum_over q.y n.size n.vertices others_done s) (here_at s) (done_at s)
        least_holds.products others_sum

  some_here : eqb (stratum n q s) 0 ≡ false → 1 ≤ here_at s
  some_here e = positive_left (here_at s) all (stratum n q s) (total m) (counted_stratum g ok used q asked m fit n all match s within)
      (let d : stratum n q s ≡ 0 → ⊥ = λ z. absurd (grind (arith, z, e)) in omega arith) (some g ok used q asked m fit n all match)

  others_hold : Holds AtMost (others_bound n q s) (here_at s) (done_at s)
  others_hold = go (eqb (stratum n q s) 0) refl
    where
      go : (k : Bool) → eqb (stratum n q s) 0 ≡ k → Holds AtMost (cond k (trivial AtMost) (rest_of (others_least n q s))) (here_at s) (done_at s)
      go true e = trivial_holds g ok used q asked m fit n all match b AtMost s within
      go false e = rest_holds (some_here e)

  pub sharper_holds : (end : End) → Holds end (sharper_bound end n q s) (here_at s) (done_at s)
  sharper_holds AtLeast = paired_holds g ok used q asked m fit n all match b s within AtLeast
  sharper_holds AtMost = tighter_one AtMost (paired_bound AtMost n q s) (others_bound n q s) (λ f. Holds AtMost f (here_at s) (done_at s))
      (paired_holds g ok used q asked m fit n all match b s within AtMost) others_hold

  -- ---- where the stratum has no weight
  others_trivial : here_at s ≡ 0 → others_bound n q s ≡ trivial AtMost
  others_trivial none = go (eqb (stratum n q s) 0) refl
    where
      go : (k : Bool) → eqb (stratum n q s) 0 ≡ k → cond k (trivial AtMost) (rest_of (others_least n q s)) ≡ trivial AtMost
      go true e = refl
      go false e = absurd (let p = some_here e in omega (arith, p, none))

  sharper_trivial : (end : End) → here_at s ≡ 0 → sharper_bound end n q s ≡ trivial end
  sharper_trivial AtLeast none = paired_trivial g ok used q asked m fit n all match b s within AtLeast none
  sharper_trivial AtMost none = ap₂ (λ f h. tighter AtMost f h) (paired_trivial g ok used q asked m fit n all match b s within AtMost none) (others_trivial none)

  -- so bounds that hold, and are trivial where the stratum has no weight, don't cross
  not_crossed : (low high : Fraction) → (here_at s ≡ 0 → low ≡ trivial AtLeast) → (here_at s ≡ 0 → high ≡ trivial AtMost)
      → Holds AtLeast low (here_at s) (done_at s) → Holds AtMost high (here_at s) (done_at s) → high.top * low.bottom < low.top * high.bottom → ⊥
  not_crossed low high low_trivial high_trivial low_holds high_holds crossed = go (here_at s) refl
    where
      go : (k : ℕ) → here_at s ≡ k → ⊥
      go zero e = apart_trivial (subst (λ (f : Fraction). (trivial AtMost).top * f.bottom < f.top * (trivial AtMost).bottom) (low_trivial e)
          (subst (λ (f : Fraction). f.top * low.bottom < low.top * f.bottom) (high_trivial e) crossed))
      go (suc k) e =
          let le = crossed_numbers low.top low.bottom high.top high.bottom (here_at s) (done_at s) (omega (arith, e)) low_holds high_holds in
          absurd (omega (arith, le, crossed))

  pub not_sharper_crossed : AreSharperCrossed n q s → ⊥
  not_sharper_crossed crossed = not_crossed (sharper_bound AtLeast n q s) (sharper_bound AtMost n q s) (sharper_trivial AtLeast) (sharper_trivial AtMost)
      (sharper_holds AtLeast) (sharper_holds AtMost) crossed

  pub not_paired_crossed : ArePairedCrossed n q s → ⊥
  not_paired_crossed crossed = not_crossed (paired_bound AtLeast n q s) (paired_bound AtMost n q s)
      (paired_trivial g ok used q asked m fit n all match b s within AtLeast) (paired_trivial g ok used q asked m fit n all match b s within AtMost)
      (paired_holds g ok used q asked m fit n all match b s within AtLeast) (paired_holds g ok used q asked m fit n all match b s within AtMost) crossed

pub paired_crossed_have_no_model : PairedCrossedHaveNoModel
paired_crossed_have_no_model g ok used q asked n b all s cell crossed m fit match =
    not_paired_crossed g ok used q asked m fit n all match b s (cell_within g used m fit n all match s cell) crossed

pub sharper_crossed_have_no_model : SharperCrossedHaveNoModel
sharper_crossed_have_no_model g ok used q asked n b all s cell crossed m fit match =
    not_sharper_crossed g ok used q asked m fit n all match b s (cell_within g used m fit n all match s cell) crossed
