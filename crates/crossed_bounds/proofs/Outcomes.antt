-- Two levels of the instrument bound the effect, summed over the outcomes under the other value of the treatment.
use Rattle.std.proofs.Common.{ℕ, zero, suc, ◌+◌, ◌*◌, ◌≡◌, ◌<◌, ◌≤◌, Bool, true, false, cond, not, ◌&&◌, ◌||◌, refl, sym, ap, ap₂, ◌∙◌, subst, arith}
use Rattle.std.proofs.Math.Dec.{leb}
use Rattle.std.proofs.lemmas.Bool.{and_from}
use Rattle.mixed_graph.specs.Vocabulary.{MixedGraph, IsMixedGraph, IsDescendant}
use Rattle.m_separation.specs.Vocabulary.{IsSeparated}
use Rattle.do_rules.specs.Vocabulary.{cut_into, AreFourSets}
use Rattle.finite_models.specs.Vocabulary.{sum_below, sum_over, set_at, FiniteModel, IsAssignment, IsWorld, solution, agree, world_weight, intervene}
use Rattle.finite_models.proofs.Bools.{and_first, and_second, not_both}
use Rattle.finite_models.proofs.Following.{Follows}
use Rattle.do_rules.proofs.Altered.{follows_into}
use Rattle.finite_models.proofs.Indicators.{number, cond-number, matches, agree-matches, over-matches}
use Rattle.finite_models.proofs.Solutions.{IsRanked, solution_within, agree_from}
use Rattle.finite_models.proofs.SumLaws.{along, over-congr, over-congr_within, over-swap, over-scale, over-add, set_at-other}
use Rattle.prob_expr.proofs.Boxes.{assignment_set, IsStable}
use Rattle.natural_bounds.specs.declared.ends.End.TheVariants.{AtLeast, AtMost}
use Rattle.natural_bounds.specs.Vocabulary.{nothing}
use Rattle.natural_bounds.proofs.Orders.{times-le}
use Rattle.crossed_bounds.specs.Crossed.{chosen}
use Rattle.crossed_bounds.proofs.Pairs.{weight_where}
use Rattle.crossed_bounds.proofs.Levels.{where_le, where_either, where_both, shows, first, has_level, in_stratum, with_second}
use Rattle.crossed_bounds.proofs.Levels.{pair_independent, second_independent}

-- ---- sums in order
sum_below_le : (k : ℕ) (f h : ℕ → ℕ) → ((i : ℕ) → i < k → f i ≤ h i) → sum_below k f ≤ sum_below k h
sum_below_le zero f h le = omega arith
sum_below_le (suc k) f h le = omega (arith, sum_below_le k f h (λ i lt. le i (omega arith)), le k (omega arith))

lower : (n : ℕ) (u : ℕ → Bool) (s : ℕ → ℕ) (P : (ℕ → ℕ) → Type 0) → IsStable (suc n) u s P → IsStable n u s P
lower n u s P k c i x lt = k c i x (omega arith)

pub sum_over_le : (u : ℕ → Bool) (s : ℕ → ℕ) (P : (ℕ → ℕ) → Type 0) (n : ℕ) (f h : (ℕ → ℕ) → ℕ) (b : ℕ → ℕ) → IsStable n u s P → P b
    → ((c : ℕ → ℕ) → P c → f c ≤ h c) → sum_over u s n f b ≤ sum_over u s n h b
sum_over_le u s P zero f h b k p le = le b p
sum_over_le u s P (suc n) f h b k p le = go (u n) refl (λ c pc. sum_over_le u s P n f h c (lower n u s P k) pc le)
  where
    go : (v : Bool) → u n ≡ v → ((c : ℕ → ℕ) → P c → sum_over u s n f c ≤ sum_over u s n h c)
        → along v (s n) n (sum_over u s n f) b ≤ along v (s n) n (sum_over u s n h) b
    go true e ih = sum_below_le (s n) (λ x. sum_over u s n f (set_at b n x)) (λ x. sum_over u s n h (set_at b n x))
        (λ x lt. ih (set_at b n x) (k b n x (omega arith) e lt p))
    go false e ih = ih b p

-- ---- numbers
-- k * f = h * a and k <= v + o give h * (a * b) <= f * (v * b + o * b)
one_level : (h a b f k v o : ℕ) → k * f ≡ h * a → k ≤ v + o → h * (a * b) ≤ f * (v * b + o * b)
one_level h a b f k v o e le =
    let p = times-le k (v + o) (f * b) le in
    let left : h * (a * b) ≡ k * (f * b) = (let r : h * (a * b) ≡ (h * a) * b = omega arith in r) ∙ ap (λ n. n * b) (sym e)
    ∙ (let r : (k * f) * b ≡ k * (f * b) = omega arith in r) in
    let right : (v + o) * (f * b) ≡ f * (v * b + o * b) = omega arith in
    omega (arith, p, left, right)

-- v <= k and k * f = h * a give f * (v * b) <= h * (a * b)
one_more : (h a b f k v : ℕ) → k * f ≡ h * a → v ≤ k → f * (v * b) ≤ h * (a * b)
one_more h a b f k v e le =
    let p = times-le v k (f * b) le in
    let left : h * (a * b) ≡ k * (f * b) = (let r : h * (a * b) ≡ (h * a) * b = omega arith in r) ∙ ap (λ n. n * b) (sym e)
    ∙ (let r : (k * f) * b ≡ k * (f * b) = omega arith in r) in
    let right : v * (f * b) ≡ f * (v * b) = omega arith in
    omega (arith, p, left, right)

upper_numbers : (h a b f k l v w o q : ℕ) → k * f ≡ h * a → l * f ≡ h * b → k ≤ v + o → l ≤ w + q
    → h * (a * b) ≤ f * ((v * b + w * a) + chosen AtMost (o * b) (q * a))
upper_numbers h a b f k l v w o q e d le le' = go (leb (o * b) (q * a))
  where
    go : (c : Bool) → h * (a * b) ≤ f * ((v * b + w * a) + cond c (o * b) (q * a))
    go true =
        let p = one_level h a b f k v o e le in
        let r : f * ((v * b + w * a) + o * b) ≡ f * (v * b + o * b) + f * (w * a) = omega arith in
        omega (arith, p, r)
    go false =
        let p = one_level h b a f l w q d le' in
        let t : h * (b * a) ≡ h * (a * b) = omega arith in
        let r : f * ((v * b + w * a) + q * a) ≡ f * (w * a + q * a) + f * (v * b) = omega arith in
        omega (arith, p, r, t)

lower_numbers : (h t a b f k l i j v w o q : ℕ) → k * f ≡ h * a → l * f ≡ h * b → i * f ≡ t * a → j * f ≡ t * b
    → v ≤ k → w ≤ l → v + o ≤ i → w + q ≤ j
    → f * ((v * b + w * a) + chosen AtLeast (o * b) (q * a)) ≤ (h + t) * (a * b)
lower_numbers h t a b f k l i j v w o q e d p r vk wl vi wj = go (leb (o * b) (q * a))
  where
    split : (h + t) * (a * b) ≡ h * (a * b) + t * (a * b)
    split = omega arith

    go : (c : Bool) → f * ((v * b + w * a) + cond c (q * a) (o * b)) ≤ (h + t) * (a * b)
    go true =
        let one = one_more t b a f j (w + q) r wj in
        let two = one_more h a b f k v e vk in
        let s : t * (b * a) ≡ t * (a * b) = omega arith in
        let u : f * ((v * b + w * a) + q * a) ≡ f * (v * b) + f * ((w + q) * a) = omega arith in
        omega (arith, one, two, s, u, split)
    go false =
        let one = one_more t a b f i (v + o) p vi in
        let two = one_more h b a f l w d wl in
        let s : h * (b * a) ≡ h * (a * b) = omega arith in
        let u : f * ((v * b + w * a) + o * b) ≡ f * ((v + o) * b) + f * (w * a) = omega arith in
        omega (arith, one, two, s, u, split)

-- ---- tests
either_world : (a b l k : Bool) (n : ℕ) → cond ((b && l) && k) n 0 ≤ cond ((a && (b && l)) && k) n 0 + cond ((not a && l) && k) n 0
either_world true b l k n = omega arith
either_world false true l k n = omega arith
either_world false false l k n = omega arith

both_world : (a b l k : Bool) (n : ℕ) → cond ((a && (b && l)) && k) n 0 + cond ((not a && l) && k) n 0 ≤ cond (l && k) n 0
both_world true true l k n = omega arith
both_world true false l k n = omega arith
both_world false b l k n = omega arith

module _ (g : MixedGraph) (m : FiniteModel) (rank : ℕ → ℕ) (ok : IsMixedGraph g) (ranked : IsRanked g rank) (follows : Follows g m)
    (x y z w : ℕ → Bool) (sets : AreFourSets g.vertices x y z w) (unmoved : (v : ℕ) → (z v || w v) ≡ true → IsDescendant g x v → ⊥)
    (separated : IsSeparated (cut_into g x) y z (λ v. x v || w v))
    (s o : ℕ → ℕ) (s_in : IsAssignment m.vertices m.size s) (o_in : IsAssignment m.vertices m.size o)
    (same : (v : ℕ) → x v ≡ false → o v ≡ s v)
    (differ : (u : ℕ → ℕ) → agree m.vertices x u s ≡ true → agree m.vertices x u o ≡ true → ⊥)
    (two : (u : ℕ → ℕ) → IsAssignment m.vertices m.size u → agree m.vertices x u s ≡ false → agree m.vertices x u o ≡ true) where
  abbrev show : (ℕ → ℕ) → Bool
  show = shows g m rank ok ranked follows x y z w sets unmoved separated s o s_in o_in same differ two

  abbrev one : (ℕ → ℕ) → Bool
  one = first g m rank ok ranked follows x y z w sets unmoved separated s o s_in o_in same differ two

  abbrev here : (ℕ → ℕ) → Bool
  here = in_stratum g m rank ok ranked follows x y z w sets unmoved separated s o s_in o_in same differ two

  abbrev at : (r u : ℕ → ℕ) → Bool
  at = has_level g m rank ok ranked follows x y z w sets unmoved separated s o s_in o_in same differ two

  abbrev along_with : ((ℕ → ℕ) → Bool) → (ℕ → ℕ) → ℕ
  along_with = with_second g m rank ok ranked follows x y z w sets unmoved separated s o s_in o_in same differ two

  -- an outcome: y alone differs from o
  abbrev Outcome : (ℕ → ℕ) → Type 0
  Outcome c = IsAssignment m.vertices m.size c × ((v : ℕ) → y v ≡ false → c v ≡ o v)

  outcomes : IsStable m.vertices y m.size Outcome
  outcomes c i k lt i_y kl p = (
    assignment_set m.vertices m.size c i k kl p.0,
    λ v vy. set_at-other c i k v (λ e. not_both (y v) (subst (λ j. y j ≡ true) (sym e) i_y) vy) ∙ p.1 v vy,
  )

  start : Outcome o
  start = (o_in, λ v e. refl)

  -- summed over the outcomes a test has its weight
  marginal : (d : (ℕ → ℕ) → Bool) → sum_over y m.size m.vertices (along_with d) o ≡ weight_where m d
  marginal d =
      over-swap y (λ j. true) m.size m.values m.vertices m.causes
      (λ c u. cond (d u && agree m.vertices y (solution (intervene m x o) u) c) (world_weight m u) 0) o (λ j. 0)
      ∙ over-congr_within (λ j. true) m.values m.causes
      (λ u. sum_over y m.size m.vertices (λ c. cond (d u && agree m.vertices y (solution (intervene m x o) u) c) (world_weight m u) 0) o)
      (λ u. cond (d u) (world_weight m u) 0) (λ j. 0)
      (λ u inside same. in_world u (λ j jl. inside j jl refl) (d u))
    where
      none : (n : ℕ) (t c : ℕ → ℕ) → agree n nothing t c ≡ true
      none n t c = agree_from n nothing t c (λ v vl e. absurd (grind (arith, e)))

      in_world : (u : ℕ → ℕ) → IsWorld m u → (b : Bool)
          → sum_over y m.size m.vertices (λ c. cond (b && agree m.vertices y (solution (intervene m x o) u) c) (world_weight m u) 0) o
          ≡ cond b (world_weight m u) 0
      in_world u world false = over-scale y m.size m.vertices 0 (λ c. 0) o ∙ omega arith
      in_world u world true =
          over-congr y m.size m.vertices (λ c. cond (agree m.vertices y (solution (intervene m x o) u) c) (world_weight m u) 0)
          (λ c. world_weight m u * matches m.vertices y (solution (intervene m x o) u) c) o
          (λ c. cond-number (agree m.vertices y (solution (intervene m x o) u) c) (world_weight m u)
          ∙ ap (λ r. world_weight m u * r) (agree-matches m.vertices y (solution (intervene m x o) u) c))
          ∙ over-scale y m.size m.vertices (world_weight m u) (matches m.vertices y (solution (intervene m x o) u)) o
          ∙ ap (λ r. world_weight m u * r) (over-matches y nothing m.size (solution (intervene m x o) u) m.vertices o
          (solution_within (cut_into g x) (intervene m x o) (follows_into g m x o o_in follows) u world) (λ v e f. absurd (grind (arith, e)))
          ∙ sym (agree-matches m.vertices nothing (solution (intervene m x o) u) o) ∙ ap number (none m.vertices (solution (intervene m x o) u) o))
          ∙ omega arith

  module _ (r : ℕ → ℕ) (r_in : IsAssignment m.vertices m.size r) (r_same : (v : ℕ) → z v ≡ false → r v ≡ s v) where
    -- a world with the pair of outcomes shows one of them
    split : (c : ℕ → ℕ) → along_with (λ u. one u && at r u) c ≤ along_with (λ u. show u && (one u && at r u)) c + along_with (λ u. not (show u) && at r u) c
    split c = where_either m (λ u. (one u && at r u) && agree m.vertices y (solution (intervene m x o) u) c)
        (λ u. (show u && (one u && at r u)) && agree m.vertices y (solution (intervene m x o) u) c)
        (λ u. (not (show u) && at r u) && agree m.vertices y (solution (intervene m x o) u) c)
        (λ u. either_world (show u) (one u) (at r u) (agree m.vertices y (solution (intervene m x o) u) c) (world_weight m u))

    narrow : (c : ℕ → ℕ) → along_with (λ u. show u && (one u && at r u)) c ≤ along_with (λ u. one u && at r u) c
    narrow c = where_le m (λ u. (show u && (one u && at r u)) && agree m.vertices y (solution (intervene m x o) u) c)
        (λ u. (one u && at r u) && agree m.vertices y (solution (intervene m x o) u) c)
        (λ u h. and_from (one u && at r u) (agree m.vertices y (solution (intervene m x o) u) c)
        (and_second (show u) (one u && at r u) (and_first (show u && (one u && at r u)) (agree m.vertices y (solution (intervene m x o) u) c) h))
        (and_second (show u && (one u && at r u)) (agree m.vertices y (solution (intervene m x o) u) c) h))

    together : (c : ℕ → ℕ) → along_with (λ u. show u && (one u && at r u)) c + along_with (λ u. not (show u) && at r u) c ≤ along_with (at r) c
    together c = where_both m (λ u. (show u && (one u && at r u)) && agree m.vertices y (solution (intervene m x o) u) c)
        (λ u. (not (show u) && at r u) && agree m.vertices y (solution (intervene m x o) u) c)
        (λ u. at r u && agree m.vertices y (solution (intervene m x o) u) c)
        (λ u. both_world (show u) (one u) (at r u) (agree m.vertices y (solution (intervene m x o) u) c) (world_weight m u))

    pairs : (c : ℕ → ℕ) → Outcome c → along_with (λ u. one u && at r u) c * weight_where m here
        ≡ along_with (λ u. one u && here u) c * weight_where m (at r)
    pairs c p = pair_independent g m rank ok ranked follows x y z w sets unmoved separated s o s_in o_in same differ two r r_in r_same c p.0 p.1

    seconds : (c : ℕ → ℕ) → Outcome c → along_with (at r) c * weight_where m here ≡ along_with here c * weight_where m (at r)
    seconds c p = second_independent g m rank ok ranked follows x y z w sets unmoved separated s o s_in o_in same differ two r r_in r_same c p.0 p.1

  -- ---- two levels
  module _ (r : ℕ → ℕ) (r_in : IsAssignment m.vertices m.size r) (r_same : (v : ℕ) → z v ≡ false → r v ≡ s v)
      (t : ℕ → ℕ) (t_in : IsAssignment m.vertices m.size t) (t_same : (v : ℕ) → z v ≡ false → t v ≡ s v) where
    abbrev shown : (ℕ → ℕ) → ℕ
    shown c = along_with (λ u. show u && (one u && at r u)) c * weight_where m (at t)
        + along_with (λ u. show u && (one u && at t u)) c * weight_where m (at r)

    scaled : (d : (ℕ → ℕ) → Bool) (k : ℕ) → sum_over y m.size m.vertices (λ c. along_with d c * k) o ≡ weight_where m d * k
    scaled d k = over-congr y m.size m.vertices (λ c. along_with d c * k) (λ c. k * along_with d c) o (λ c. omega arith)
        ∙ over-scale y m.size m.vertices k (along_with d) o ∙ ap (λ i. k * i) (marginal d) ∙ omega arith

    shown_sum : sum_over y m.size m.vertices shown o ≡ weight_where m (λ u. show u && (one u && at r u)) * weight_where m (at t)
        + weight_where m (λ u. show u && (one u && at t u)) * weight_where m (at r)
    shown_sum = over-add y m.size m.vertices (λ c. along_with (λ u. show u && (one u && at r u)) c * weight_where m (at t))
        (λ c. along_with (λ u. show u && (one u && at t u)) c * weight_where m (at r)) o
        ∙ ap₂ (λ i j. i + j) (scaled (λ u. show u && (one u && at r u)) (weight_where m (at t)))
        (scaled (λ u. show u && (one u && at t u)) (weight_where m (at r)))

    pub upper_levels : weight_where m (λ u. one u && here u) * (weight_where m (at r) * weight_where m (at t)) ≤ weight_where m here
        * ((weight_where m (λ u. show u && (one u && at r u)) * weight_where m (at t) + weight_where m (λ u. show u && (one u && at t u)) * weight_where m (at r))
        + sum_over y m.size m.vertices (λ c. chosen AtMost (along_with (λ u. not (show u) && at r u) c * weight_where m (at t))
        (along_with (λ u. not (show u) && at t u) c * weight_where m (at r))) o)
    upper_levels =
        let le = sum_over_le y m.size Outcome m.vertices (λ c. along_with (λ u. one u && here u) c * (weight_where m (at r) * weight_where m (at t)))
        (λ c. weight_where m here * (shown c + smallest c)) o outcomes start
        (λ c p. upper_numbers (along_with (λ u. one u && here u) c) (weight_where m (at r)) (weight_where m (at t)) (weight_where m here)
        (along_with (λ u. one u && at r u) c) (along_with (λ u. one u && at t u) c)
        (along_with (λ u. show u && (one u && at r u)) c) (along_with (λ u. show u && (one u && at t u)) c)
        (along_with (λ u. not (show u) && at r u) c) (along_with (λ u. not (show u) && at t u) c)
        (pairs r r_in r_same c p) (pairs t t_in t_same c p) (split r r_in r_same c) (split t t_in t_same c)) in
        let left = scaled (λ u. one u && here u) (weight_where m (at r) * weight_where m (at t)) in
        let right = over-scale y m.size m.vertices (weight_where m here) (λ c. shown c + smallest c) o
        ∙ ap (λ i. weight_where m here * i) (over-add y m.size m.vertices shown smallest o ∙ ap (λ i. i + sum_over y m.size m.vertices smallest o) shown_sum) in
        rw (sym left, sym right) le
      where
        smallest : (ℕ → ℕ) → ℕ
        smallest c = chosen AtMost (along_with (λ u. not (show u) && at r u) c * weight_where m (at t))
            (along_with (λ u. not (show u) && at t u) c * weight_where m (at r))

    pub lower_levels : weight_where m here
        * ((weight_where m (λ u. show u && (one u && at r u)) * weight_where m (at t) + weight_where m (λ u. show u && (one u && at t u)) * weight_where m (at r))
        + sum_over y m.size m.vertices (λ c. chosen AtLeast (along_with (λ u. not (show u) && at r u) c * weight_where m (at t))
        (along_with (λ u. not (show u) && at t u) c * weight_where m (at r))) o)
        ≤ (weight_where m (λ u. one u && here u) + weight_where m here) * (weight_where m (at r) * weight_where m (at t))
    lower_levels =
        let le = sum_over_le y m.size Outcome m.vertices (λ c. weight_where m here * (shown c + largest c))
        (λ c. (along_with (λ u. one u && here u) c + along_with here c) * (weight_where m (at r) * weight_where m (at t))) o outcomes start
        (λ c p. lower_numbers (along_with (λ u. one u && here u) c) (along_with here c) (weight_where m (at r)) (weight_where m (at t)) (weight_where m here)
        (along_with (λ u. one u && at r u) c) (along_with (λ u. one u && at t u) c) (along_with (at r) c) (along_with (at t) c)
        (along_with (λ u. show u && (one u && at r u)) c) (along_with (λ u. show u && (one u && at t u)) c)
        (along_with (λ u. not (show u) && at r u) c) (along_with (λ u. not (show u) && at t u) c)
        (pairs r r_in r_same c p) (pairs t t_in t_same c p) (seconds r r_in r_same c p) (seconds t t_in t_same c p)
        (narrow r r_in r_same c) (narrow t t_in t_same c) (together r r_in r_same c) (together t t_in t_same c)) in
        let left = over-scale y m.size m.vertices (weight_where m here) (λ c. shown c + largest c) o
        ∙ ap (λ i. weight_where m here * i) (over-add y m.size m.vertices shown largest o ∙ ap (λ i. i + sum_over y m.size m.vertices largest o) shown_sum) in
        let right : sum_over y m.size m.vertices
        (λ c. (along_with (λ u. one u && here u) c + along_with here c) * (weight_where m (at r) * weight_where m (at t))) o
        ≡ (weight_where m (λ u. one u && here u) + weight_where m here) * (weight_where m (at r) * weight_where m (at t)) =
        over-congr y m.size m.vertices (λ c. (along_with (λ u. one u && here u) c + along_with here c) * (weight_where m (at r) * weight_where m (at t)))
        (λ c. (weight_where m (at r) * weight_where m (at t)) * (along_with (λ u. one u && here u) c + along_with here c)) o (λ c. omega arith)
        ∙ over-scale y m.size m.vertices (weight_where m (at r) * weight_where m (at t)) (λ c. along_with (λ u. one u && here u) c + along_with here c) o
        ∙ ap (λ i. (weight_where m (at r) * weight_where m (at t)) * i) (over-add y m.size m.vertices (along_with (λ u. one u && here u)) (along_with here) o
        ∙ ap₂ (λ i j. i + j) (marginal (λ u. one u && here u)) (marginal here)) ∙ omega arith in
        rw (sym left, sym right) le
      where
        largest : (ℕ → ℕ) → ℕ
        largest c = chosen AtLeast (along_with (λ u. not (show u) && at r u) c * weight_where m (at t))
            (along_with (λ u. not (show u) && at t u) c * weight_where m (at r))
