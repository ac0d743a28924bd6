-- What a stratum's bound says in every model that has the weights.
use Rattle.std.proofs.Common.{ℕ, zero, suc, ◌+◌, ◌-◌, ◌*◌, ◌≡◌, ◌<◌, ◌≤◌, Bool, true, false, cond, eqb, ◌||◌, refl, sym, ap, ◌∙◌, subst, inl, inr, arith}
use Rattle.std.proofs.lemmas.Bool.{or_left, or_right}
use Rattle.mixed_graph.specs.Vocabulary.{MixedGraph, IsMixedGraph}
use Rattle.fractions.specs.Vocabulary.{Fraction}
use Rattle.finite_models.specs.Vocabulary.{FiniteModel, Fits, IsAssignment, weight_of, total}
use Rattle.finite_models.proofs.Bools.{either, not_both}
use Rattle.finite_models.proofs.Following.{follows_of}
use Rattle.prob_expr.specs.Vocabulary.{AreProportional, Weights, weights_of}
use Rattle.hidden_models.proofs.Depends.{weight_depends}
use Rattle.hidden_models.proofs.Totals.{total_positive}
use Rattle.natural_bounds.specs.declared.ends.End.{End}
use Rattle.natural_bounds.specs.declared.ends.End.TheVariants.{AtLeast, AtMost}
use Rattle.natural_bounds.specs.Natural.{nothing}
use Rattle.natural_bounds.specs.Orders.{trivial, IsIn}
use Rattle.natural_bounds.specs.Bounds.{Asked, fixed, joint, treated, level, stratum, said, bound_at, stratum_bound}
use Rattle.natural_bounds.specs.Bounds.{AreCrossed, IsAskedOf, IsCellOf, CrossedHaveNoModel}
use Rattle.natural_bounds.proofs.Natural.{natural_lower, natural_upper, unmoved_weight, wider}
use Rattle.natural_bounds.proofs.Orders.{times-le, positive-times, cancelled, trivial_bottom, tightest_bottom, tightest_is_one}

-- x is at least, or at most, the part f of w
abbrev pub Holds : End → Fraction → (w x : ℕ) → Type 0
Holds AtLeast f w x = f.top * w ≤ x * f.bottom
Holds AtMost f w x = x * f.bottom ≤ f.top * w

lower_numbers : (j w x a J A all t : ℕ) → 1 ≤ t → j * w ≤ x * a → j * all ≡ J * t → a * all ≡ A * t → J * w ≤ x * A
lower_numbers j w x a J A all t p h e f =
    cancelled (J * w) (x * A) t p
    (let k = times-le (j * w) (x * a) all h in
    let left : (j * w) * all ≡ (J * w) * t = (let r : (j * w) * all ≡ (j * all) * w = omega arith in r) ∙ ap (λ n. n * w) e
    ∙ (let r : (J * t) * w ≡ (J * w) * t = omega arith in r) in
    let right : (x * a) * all ≡ (x * A) * t = (let r : (x * a) * all ≡ x * (a * all) = omega arith in r) ∙ ap (λ n. x * n) f
    ∙ (let r : x * (A * t) ≡ (x * A) * t = omega arith in r) in
    omega (arith, k, left, right))

upper_numbers : (j w x a q J A Q all t : ℕ) → 1 ≤ t → x * a + q * w ≤ j * w + a * w → j * all ≡ J * t → a * all ≡ A * t → q * all ≡ Q * t
    → x * A ≤ (J + (A - Q)) * w
upper_numbers j w x a q J A Q all t p h e f d =
    let sum : x * A + Q * w ≤ J * w + A * w = cancelled (x * A + Q * w) (J * w + A * w) t p
    (let k = times-le (x * a + q * w) (j * w + a * w) all h in
    let one : (x * a) * all ≡ (x * A) * t = (let r : (x * a) * all ≡ x * (a * all) = omega arith in r) ∙ ap (λ n. x * n) f
    ∙ (let r : x * (A * t) ≡ (x * A) * t = omega arith in r) in
    let two = scaled q Q d in let three = scaled j J e in let four = scaled a A f in
    let left : (x * a + q * w) * all ≡ (x * a) * all + (q * w) * all = omega arith in
    let right : (j * w + a * w) * all ≡ (j * w) * all + (a * w) * all = omega arith in
    let s : (x * A + Q * w) * t ≡ (x * A) * t + (Q * w) * t = omega arith in
    let u : (J * w + A * w) * t ≡ (J * w) * t + (A * w) * t = omega arith in
    omega (arith, k, one, two, three, four, left, right, s, u)) in
    let k = times-le A ((A - Q) + Q) w (omega arith) in
    let apart : ((A - Q) + Q) * w ≡ (A - Q) * w + Q * w = omega arith in
    let joined : (J + (A - Q)) * w ≡ J * w + (A - Q) * w = omega arith in
    omega (arith, sum, k, apart, joined)
  where
    scaled : (n N : ℕ) → n * all ≡ N * t → (n * w) * all ≡ (N * w) * t
    scaled n N r = (let r : (n * w) * all ≡ (n * all) * w = omega arith in r) ∙ ap (λ k. k * w) r
        ∙ (let r : (N * t) * w ≡ (N * w) * t = omega arith in r)

-- a stratum's share of the condition, and what is said of it
pub term_lower : (N C p r W c X all t : ℕ) → 1 ≤ t → W * all ≡ N * t → c * all ≡ C * t → p * W ≤ X * r → (N * p) * c ≤ X * (C * r)
term_lower N C p r W c X all t pos e f h =
    cancelled ((N * p) * c) (X * (C * r)) t pos
    (let k = times-le (p * W) (X * r) (all * c) h in
    let left : ((N * p) * c) * t ≡ (p * W) * (all * c) = (let r : ((N * p) * c) * t ≡ (N * t) * (p * c) = omega arith in r)
    ∙ ap (λ n. n * (p * c)) (sym e) ∙ (let r : (W * all) * (p * c) ≡ (p * W) * (all * c) = omega arith in r) in
    let right : (X * (C * r)) * t ≡ (X * r) * (all * c) = (let s : (X * (C * r)) * t ≡ (C * t) * (X * r) = omega arith in s)
    ∙ ap (λ n. n * (X * r)) (sym f) ∙ (let s : (c * all) * (X * r) ≡ (X * r) * (all * c) = omega arith in s) in
    omega (arith, k, left, right))

pub term_upper : (N C p r W c X all t : ℕ) → 1 ≤ t → W * all ≡ N * t → c * all ≡ C * t → X * r ≤ p * W → X * (C * r) ≤ (N * p) * c
term_upper N C p r W c X all t pos e f h =
    cancelled (X * (C * r)) ((N * p) * c) t pos
    (let k = times-le (X * r) (p * W) (all * c) h in
    let left : ((N * p) * c) * t ≡ (p * W) * (all * c) = (let r : ((N * p) * c) * t ≡ (N * t) * (p * c) = omega arith in r)
    ∙ ap (λ n. n * (p * c)) (sym e) ∙ (let r : (W * all) * (p * c) ≡ (p * W) * (all * c) = omega arith in r) in
    let right : (X * (C * r)) * t ≡ (X * r) * (all * c) = (let s : (X * (C * r)) * t ≡ (C * t) * (X * r) = omega arith in s)
    ∙ ap (λ n. n * (X * r)) (sym f) ∙ (let s : (c * all) * (X * r) ≡ (X * r) * (all * c) = omega arith in s) in
    omega (arith, k, left, right))

-- bounds of one number don't cross, where there is weight
crossed_numbers : (lt lb ut ub w x : ℕ) → 1 ≤ w → lt * w ≤ x * lb → x * ub ≤ ut * w → lt * ub ≤ ut * lb
crossed_numbers lt lb ut ub w x pos h k =
    cancelled (lt * ub) (ut * lb) w pos
    (let a = times-le (lt * w) (x * lb) ub h in let b = times-le (x * ub) (ut * w) lb k in
    let one : (lt * ub) * w ≡ (lt * w) * ub = omega arith in
    let two : (x * lb) * ub ≡ (x * ub) * lb = omega arith in
    let three : (ut * w) * lb ≡ (ut * lb) * w = omega arith in
    omega (arith, a, b, one, two, three))

-- ---- bottoms
said_bottom : (end : End) (n : Weights) (q : Asked) (s : ℕ → ℕ) → 1 ≤ level n q s → 1 ≤ (said end n q s).bottom
said_bottom AtLeast n q s h = h
said_bottom AtMost n q s h = h

pub bound_bottom : (end : End) (n : Weights) (q : Asked) (s : ℕ → ℕ) → 1 ≤ (bound_at end n q s).bottom
bound_bottom end n q s = go (eqb (level n q s) 0) refl
  where
    go : (c : Bool) → eqb (level n q s) 0 ≡ c → 1 ≤ (cond c (trivial end) (said end n q s)).bottom
    go true e = trivial_bottom end
    go false e = said_bottom end n q s (let d : level n q s ≡ 0 → ⊥ = λ z. absurd (grind (arith, z, e)) in omega arith)

pub stratum_bottom : (end : End) (n : Weights) (q : Asked) (s : ℕ → ℕ) → 1 ≤ (stratum_bound end n q s).bottom
stratum_bottom end n q s = tightest_bottom end q.z n.size n.vertices (bound_at end n q) s (λ t. bound_bottom end n q t)

-- ---- in a model
module _ (g : MixedGraph) (ok : IsMixedGraph g) (used : ℕ → Bool) (q : Asked) (asked : IsAskedOf g used q) (m : FiniteModel) (fit : Fits g m) (n : Weights)
    (all : ℕ) (match : AreProportional used n all (weights_of m) (total m)) where
  pub some : 1 ≤ total m
  some = total_positive g m fit

  -- W(w) and W_x(y, w)
  abbrev pub here : (ℕ → ℕ) → ℕ
  here s = weight_of m nothing (fixed q) s

  abbrev pub done : (ℕ → ℕ) → ℕ
  done s = weight_of m q.x (λ v. q.y v || fixed q v) s

  in_fixed : (v : ℕ) → fixed q v ≡ true → (q.x v || (q.y v || (q.z v || fixed q v))) ≡ true
  in_fixed v i = or_right (q.x v) (q.y v || (q.z v || fixed q v)) (or_right (q.y v) (q.z v || fixed q v) (or_right (q.z v) (fixed q v) i))

  in_level : (v : ℕ) → (q.z v || fixed q v) ≡ true → (q.x v || (q.y v || (q.z v || fixed q v))) ≡ true
  in_level v i = or_right (q.x v) (q.y v || (q.z v || fixed q v)) (or_right (q.y v) (q.z v || fixed q v) i)

  in_treated : (v : ℕ) → (q.x v || (q.z v || fixed q v)) ≡ true → (q.x v || (q.y v || (q.z v || fixed q v))) ≡ true
  in_treated v i = either (q.x v) (q.z v || fixed q v) ((q.x v || (q.y v || (q.z v || fixed q v))) ≡ true) i
      (λ k. or_left (q.x v) (q.y v || (q.z v || fixed q v)) k) (in_level v)

  pub counted : (a : ℕ → Bool) → ((v : ℕ) → a v ≡ true → (q.x v || (q.y v || (q.z v || fixed q v))) ≡ true) → (s : ℕ → ℕ)
      → IsAssignment m.vertices m.size s → weight_of m nothing a s * all ≡ n.weight nothing a s * total m
  counted a inside s within = match.weights a (λ v i. asked.covered v (inside v i)) s within

  pub counted_stratum : (s : ℕ → ℕ) → IsAssignment m.vertices m.size s → here s * all ≡ stratum n q s * total m
  counted_stratum s within = counted (fixed q) in_fixed s within

  counted_level : (s : ℕ → ℕ) → IsAssignment m.vertices m.size s → weight_of m nothing (λ v. q.z v || fixed q v) s * all ≡ level n q s * total m
  counted_level s within = counted (λ v. q.z v || fixed q v) in_level s within

  -- what is said of a level holds
  said_holds : (end : End) (s : ℕ → ℕ) → IsAssignment m.vertices m.size s → Holds end (said end n q s) (here s) (done s)
  said_holds AtLeast s within =
      lower_numbers (weight_of m nothing (λ v. q.x v || (q.y v || (q.z v || fixed q v))) s) (here s) (done s)
      (weight_of m nothing (λ v. q.z v || fixed q v) s) (joint n q s) (level n q s) all (total m) some
      (natural_lower g ok q.x q.y q.z (fixed q) asked.instrument m fit s within)
      (counted (λ v. q.x v || (q.y v || (q.z v || fixed q v))) (λ v i. i) s within) (counted_level s within)
  said_holds AtMost s within =
      upper_numbers (weight_of m nothing (λ v. q.x v || (q.y v || (q.z v || fixed q v))) s) (here s) (done s)
      (weight_of m nothing (λ v. q.z v || fixed q v) s) (weight_of m nothing (λ v. q.x v || (q.z v || fixed q v)) s)
      (joint n q s) (level n q s) (treated n q s) all (total m) some
      (natural_upper g ok q.x q.y q.z (fixed q) asked.instrument m fit s within)
      (counted (λ v. q.x v || (q.y v || (q.z v || fixed q v))) (λ v i. i) s within) (counted_level s within)
      (counted (λ v. q.x v || (q.z v || fixed q v)) in_treated s within)

  -- the trivial bounds hold
  trivial_holds : (end : End) (s : ℕ → ℕ) → IsAssignment m.vertices m.size s → Holds end (trivial end) (here s) (done s)
  trivial_holds AtLeast s within = omega arith
  trivial_holds AtMost s within =
      let a = wider m q.x (λ v. q.y v || fixed q v) (fixed q) s (λ v i. or_right (q.y v) (fixed q v) i) in
      let e = unmoved_weight g ok q.x q.y q.z (fixed q) asked.instrument m fit s within (fixed q) (λ v i. or_right (q.z v) (fixed q v) i) in
      omega (arith, a, e)

  bound_holds : (end : End) (s : ℕ → ℕ) → IsAssignment m.vertices m.size s → Holds end (bound_at end n q s) (here s) (done s)
  bound_holds end s within = go (eqb (level n q s) 0)
    where
      go : (c : Bool) → Holds end (cond c (trivial end) (said end n q s)) (here s) (done s)
      go true = trivial_holds end s within
      go false = said_holds end s within

  -- another level of the instruments
  module _ (t r : ℕ → ℕ) (within : IsAssignment m.vertices m.size t) (is_in : IsIn q.z n.size n.vertices t r) where
    in_z : (v : ℕ) → q.z v ≡ true → (q.x v || (q.y v || (q.z v || fixed q v))) ≡ true
    in_z v i = in_level v (or_left (q.z v) (fixed q v) i)

    pub level_within : IsAssignment m.vertices m.size r
    level_within v vl = go (q.z v) refl
      where
        go : (c : Bool) → q.z v ≡ c → r v < m.size v
        go true e = subst (λ k. r v < k) (match.sizes v vl (asked.covered v (in_z v e)))
            (is_in.inside v (subst (λ k. v < k) (sym match.vertices) vl) e)
        go false e = subst (λ k. k < m.size v) (sym (is_in.outside v (λ lt i. not_both (q.z v) i e))) (within v vl)

    alike : (a : ℕ → Bool) → ((v : ℕ) → a v ≡ true → q.z v ≡ false) → (v : ℕ) → a v ≡ true → r v ≡ t v
    alike a none v i = is_in.outside v (λ lt z. not_both (q.z v) z (none v i))

    fixed_none : (v : ℕ) → fixed q v ≡ true → q.z v ≡ false
    fixed_none v i = go (q.z v) refl
      where
        go : (c : Bool) → q.z v ≡ c → q.z v ≡ false
        go true e = absurd (not_both (fixed q v) i (asked.instrument.sets.z_w v e))
        go false e = e

    y_none : (v : ℕ) → (q.y v || fixed q v) ≡ true → q.z v ≡ false
    y_none v i = either (q.y v) (fixed q v) (q.z v ≡ false) i (asked.instrument.sets.y_z v) (fixed_none v)

    pub same_here : here r ≡ here t
    same_here = weight_depends g m ok (follows_of g m fit) nothing nothing (fixed q) (fixed q) r t (λ v vl. refl) (λ v vl. refl)
        (λ v vl e. absurd (grind (arith, e))) (λ v vl e. alike (fixed q) fixed_none v e)

    pub same_done : done r ≡ done t
    same_done = weight_depends g m ok (follows_of g m fit) q.x q.x (λ v. q.y v || fixed q v) (λ v. q.y v || fixed q v) r t (λ v vl. refl) (λ v vl. refl)
        (λ v vl e. alike q.x (asked.instrument.sets.x_z) v e) (λ v vl e. alike (λ v. q.y v || fixed q v) y_none v e)

  -- a stratum's bound holds
  pub stratum_holds : (end : End) (t : ℕ → ℕ) → IsAssignment m.vertices m.size t → Holds end (stratum_bound end n q t) (here t) (done t)
  stratum_holds end t within = elim (tightest_is_one end q.z n.size n.vertices (bound_at end n q) t) [
    | inl e ↦ subst (λ f. Holds end f (here t) (done t)) (sym e) (trivial_holds end t within)
    | inr h ↦ subst (λ f. Holds end f (here t) (done t)) (sym h.2)
        (subst (λ w. Holds end (bound_at end n q h.0) w (done t)) (same_here t h.0 within h.1)
        (subst (λ x. Holds end (bound_at end n q h.0) (here h.0) x) (same_done t h.0 within h.1)
        (bound_holds end h.0 (level_within t h.0 within h.1))))
  ]

  -- where a stratum has no weight its bounds are the trivial ones
  no_level : (t r : ℕ → ℕ) → IsAssignment m.vertices m.size t → IsIn q.z n.size n.vertices t r → here t ≡ 0 → level n q r ≡ 0
  no_level t r within is_in none =
      let a = counted_level r (level_within t r within is_in) in
      let w = wider m nothing (λ v. q.z v || fixed q v) (fixed q) r (λ v i. or_right (q.z v) (fixed q v) i) in
      let e : weight_of m nothing (λ v. q.z v || fixed q v) r ≡ 0 = (let s = same_here t r within is_in in omega (arith, w, s, none)) in
      go (level n q r) refl (ap (λ k. k * all) (sym e) ∙ a)
    where
      go : (k : ℕ) → level n q r ≡ k → 0 * all ≡ level n q r * total m → level n q r ≡ 0
      go zero f h = f
      go (suc k) f h = absurd (let p = positive-times (level n q r) (total m) (omega (arith, f)) some in omega (arith, p, h))

  trivial_bound : (end : End) (t : ℕ → ℕ) → IsAssignment m.vertices m.size t → here t ≡ 0 → stratum_bound end n q t ≡ trivial end
  trivial_bound end t within none = elim (tightest_is_one end q.z n.size n.vertices (bound_at end n q) t) [
    | inl e ↦ e
    | inr h ↦ h.2 ∙ ap (λ k. cond (eqb k 0) (trivial end) (said end n q h.0)) (no_level t h.0 within h.1 none)
  ]

  -- so bounds don't cross
  pub not_crossed : (t : ℕ → ℕ) → IsAssignment m.vertices m.size t → AreCrossed n q t → ⊥
  not_crossed t within crossed = go (here t) refl
    where
      go : (k : ℕ) → here t ≡ k → ⊥
      go zero e =
          let lower = trivial_bound AtLeast t within e in let upper = trivial_bound AtMost t within e in
          let lt : (trivial AtMost).top * (trivial AtLeast).bottom < (trivial AtLeast).top * (trivial AtMost).bottom =
          subst (λ f. (trivial AtMost).top * f.bottom < f.top * (trivial AtMost).bottom) lower
          (subst (λ f. f.top * (stratum_bound AtLeast n q t).bottom < (stratum_bound AtLeast n q t).top * f.bottom) upper crossed) in
          absurd (omega (arith, lt))
      go (suc k) e =
          let le = crossed_numbers (stratum_bound AtLeast n q t).top (stratum_bound AtLeast n q t).bottom (stratum_bound AtMost n q t).top
          (stratum_bound AtMost n q t).bottom (here t) (done t) (omega (arith, e)) (stratum_holds AtLeast t within) (stratum_holds AtMost t within) in
          absurd (omega (arith, le, crossed))

-- a cell is an assignment of each model that has the weights
pub cell_within : (g : MixedGraph) (used : ℕ → Bool) (m : FiniteModel) → Fits g m → (n : Weights) (all : ℕ)
    → AreProportional used n all (weights_of m) (total m) → (s : ℕ → ℕ) → IsCellOf used n s → IsAssignment m.vertices m.size s
cell_within g used m fit n all match s cell v vl = go (used v) refl
  where
    go : (c : Bool) → used v ≡ c → s v < m.size v
    go true e = subst (λ k. s v < k) (match.sizes v vl e) (cell.inside v (subst (λ k. v < k) (sym match.vertices) vl) e)
    go false e = subst (λ k. k < m.size v) (sym (cell.outside v e)) (fit.positive_size v vl)

pub crossed_have_no_model : CrossedHaveNoModel
crossed_have_no_model g ok used q asked n all s cell crossed m fit match =
    not_crossed g ok used q asked m fit n all match s (cell_within g used m fit n all match s cell) crossed
