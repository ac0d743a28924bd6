-- Each model that fits has positive ones as near as one likes.
use Rattle.std.proofs.Common.{ℕ, zero, suc, ◌+◌, ◌-◌, ◌*◌, ◌≡◌, ◌<◌, ◌≤◌, Bool, true, false, cond, eqb, ltb, refl, ap, ◌∙◌, subst, arith, lt-ltb}
use Rattle.std.proofs.Common.{le-ltb, ltb-true, eqb-true, ne_eqb}
use Rattle.mixed_graph.specs.Vocabulary.{MixedGraph, IsMixedGraph}
use Rattle.finite_models.specs.Vocabulary.{sum_below, product_below, sum_over, FiniteModel, Fits, IsAssignment, world_weight, sum_worlds, agree, solution, rounds, event_weight, intervene}
use Rattle.finite_models.proofs.SumLaws.{over-base, over-term, over-add, over-scale, over-sizes}
use Rattle.finite_models.proofs.Indicators.{number, all_below_each}
use Rattle.finite_models.proofs.Positive.{over-mono}
use Rattle.finite_models.proofs.Solutions.{agree_from}
use Rattle.walk_models.specs.Noisy.{noisy, IsNear}
use Rattle.walk_models.specs.Laws.{EachIsNearPositive}
use Rattle.walk_models.proofs.Near.{noisy_fits, noisy_two, split, agree_same}
use Rattle.walk_models.proofs.Rare.{quiet, noise_weight, scale_of, scale-some, over-quiet, noise-quiet, noise-less, count-least, count-most}

pub product_pos : (n : ℕ) (f : ℕ → ℕ) → ((i : ℕ) → i < n → 1 ≤ f i) → 1 ≤ product_below n f
product_pos zero f h = omega arith
product_pos (suc n) f h = at (product_below n f) (f n) (product_pos n f (λ i lt. h i (omega arith))) (h n (omega arith))
  where
    at : (p q : ℕ) → 1 ≤ p → 1 ≤ q → 1 ≤ p * q
    at p q a b = grind arith

-- the first number from the top with a weight
pick : (n : ℕ) (f : ℕ → ℕ) → ℕ
pick zero f = 0
pick (suc n) f = cond (eqb (f n) 0) (pick n f) n

picked : (n : ℕ) (f : ℕ → ℕ) → 1 ≤ sum_below n f → (pick n f < n) × (1 ≤ f (pick n f))
unfolding pick
picked zero f le = absurd (omega arith)
picked (suc n) f le = go (eqb (f n) 0) refl (picked n f)
  where
    go : (q : Bool) → eqb (f n) 0 ≡ q → (1 ≤ sum_below n f → (pick n f < n) × (1 ≤ f (pick n f)))
        → (cond q (pick n f) n < suc n) × (1 ≤ f (cond q (pick n f) n))
    go true e ih = let z = eqb-true (f n) 0 e in let r = ih (omega (arith, le, z)) in (omega (arith, r.0), r.1)
    go false e ih = (omega arith, grind (arith, e))

-- the weight of the worlds that pass the test
abbrev pub weight_where : FiniteModel → ((ℕ → ℕ) → Bool) → ℕ
weight_where m e = sum_worlds m (λ u. cond (e u) (world_weight m u) 0)

module _ (g : MixedGraph) (ok : IsMixedGraph g) (m : FiniteModel) (fit : Fits g m) where
  abbrev pub extra_of : ℕ
  extra_of = sum_over (λ j. true) (noisy 1 m).values (m.causes + m.vertices) (world_weight m) (λ j. 0)

  module _ (k : ℕ) (some : 1 ≤ k) where
    abbrev is_quiet : (ℕ → ℕ) → Bool
    is_quiet u = quiet m.causes m.vertices u

    calm : (u : ℕ → ℕ) → is_quiet u ≡ true → (v : ℕ) → v < m.vertices → u (m.causes + v) ≡ 0
    calm u e v lt = eqb-true (u (m.causes + v)) 0 (all_below_each m.vertices (λ v. eqb (u (m.causes + v)) 0) e v lt)

    values_old : (i : ℕ) → i < m.causes → (noisy k m).values i ≡ m.values i
    values_old i lt = rw (lt-ltb i m.causes lt) refl

    values_new : (v : ℕ) → v < m.vertices → (noisy k m).values (m.causes + v) ≡ suc (m.size v)
    values_new v lt = rw (le-ltb (m.causes + v) m.causes (omega arith), (let e : (m.causes + v) - m.causes ≡ v = omega arith in e)) (omega arith)

    -- a test of worlds with noise, and one without, which are the same where no noise is
    module _ (e f : (ℕ → ℕ) → Bool) (same : (u : ℕ → ℕ) → ((v : ℕ) → v < m.vertices → u (m.causes + v) ≡ 0) → e u ≡ f u) where
      abbrev counted : (ℕ → ℕ) → ℕ
      counted u = cond (f u) (world_weight m u) 0

      abbrev counted_noisy : (ℕ → ℕ) → ℕ
      counted_noisy u = cond (e u) (world_weight (noisy k m) u) 0

      sum : ((ℕ → ℕ) → ℕ) → ℕ
      sum F = sum_over (λ j. true) (noisy k m).values (m.causes + m.vertices) F (λ j. 0)

      collapsed : sum (λ u. counted u * number (is_quiet u)) ≡ weight_where m f
      unfolding sum
      collapsed = over-quiet (noisy k m).values m.size m.causes m.vertices (m.causes + m.vertices) counted refl values_new
          ∙ over-sizes (noisy k m).values m.values m.causes counted (λ j. 0) values_old

      at_least : (u : ℕ → ℕ) → scale_of k m.vertices * (counted u * number (is_quiet u)) ≤ counted_noisy u
      at_least u = rw (split g m fit k some u) (count-least (world_weight m u) (noise_weight k m.vertices (λ v. u (m.causes + v))) (scale_of k m.vertices)
          (is_quiet u) (e u) (f u) (λ q. noise-quiet k m.vertices (λ v. u (m.causes + v)) q) (λ q. same u (calm u q)))

      at_most : (u : ℕ → ℕ) → k * counted_noisy u ≤ scale_of k m.vertices * (k * (counted u * number (is_quiet u)) + world_weight m u)
      at_most u = rw (split g m fit k some u) (count-most (world_weight m u) (noise_weight k m.vertices (λ v. u (m.causes + v))) k (scale_of k m.vertices)
          (is_quiet u) (e u) (f u) (λ q. noise-quiet k m.vertices (λ v. u (m.causes + v)) q)
          (λ q. noise-less k m.vertices (λ v. u (m.causes + v)) some q) (λ q. same u (calm u q)))

      pub least : scale_of k m.vertices * weight_where m f ≤ weight_where (noisy k m) e
      unfolding sum
      least = subst (λ t. t ≤ weight_where (noisy k m) e)
          (over-scale (λ j. true) (noisy k m).values (m.causes + m.vertices) (scale_of k m.vertices) (λ u. counted u * number (is_quiet u)) (λ j. 0)
          ∙ ap (λ t. scale_of k m.vertices * t) collapsed)
          (over-mono (λ j. true) (noisy k m).values (m.causes + m.vertices) (λ u. scale_of k m.vertices * (counted u * number (is_quiet u))) counted_noisy
          (λ j. 0) at_least)

      pub most : k * weight_where (noisy k m) e ≤ scale_of k m.vertices * (k * weight_where m f + extra_of)
      unfolding sum
      most = subst (λ t. k * weight_where (noisy k m) e ≤ t) summed
          (subst (λ t. t ≤ sum (λ u. scale_of k m.vertices * (k * (counted u * number (is_quiet u)) + world_weight m u)))
          (over-scale (λ j. true) (noisy k m).values (m.causes + m.vertices) k counted_noisy (λ j. 0))
          (over-mono (λ j. true) (noisy k m).values (m.causes + m.vertices) (λ u. k * counted_noisy u)
          (λ u. scale_of k m.vertices * (k * (counted u * number (is_quiet u)) + world_weight m u)) (λ j. 0) at_most))
        where
          summed : sum (λ u. scale_of k m.vertices * (k * (counted u * number
              (is_quiet u)) + world_weight m u)) ≡ scale_of k m.vertices * (k * weight_where m f + extra_of)
          summed =
              over-scale (λ j. true) (noisy k m).values (m.causes + m.vertices) (scale_of k m.vertices)
              (λ u. k * (counted u * number (is_quiet u)) + world_weight m u) (λ j. 0)
              ∙ ap (λ t. scale_of k m.vertices * t)
              (over-add (λ j. true) (noisy k m).values (m.causes + m.vertices) (λ u. k * (counted u * number (is_quiet u))) (world_weight m) (λ j. 0)
              ∙ ap (λ t. t + extra_of) (over-scale (λ j. true) (noisy k m).values (m.causes + m.vertices) k (λ u. counted u * number (is_quiet u)) (λ j. 0)
              ∙ ap (λ t. k * t) collapsed))

    -- each assignment is the solution of a world with a weight
    module _ (s : ℕ → ℕ) (within : IsAssignment m.vertices m.size s) where
      abbrev world : ℕ → ℕ
      world j = cond (ltb j m.causes) (pick (m.values j) (m.weight j)) (cond (ltb j (m.causes + m.vertices)) (suc (s (j - m.causes))) 0)

      at_new : (v : ℕ) → v < m.vertices → world (m.causes + v) ≡ suc (s v)
      at_new v lt =
          rw (
            le-ltb (m.causes + v) m.causes (omega arith),
            lt-ltb (m.causes + v) (m.causes + m.vertices) (omega (arith, lt)),
            (let e : (m.causes + v) - m.causes ≡ v = omega arith in e),
          ) refl

      solved : (i v : ℕ) → v < m.vertices → rounds (noisy k m) (suc i) world v ≡ s v
      solved i v lt = ap (λ t. cond (eqb t 0) (m.mechanism v (rounds (noisy k m) i world) world) (t - 1)) (at_new v lt)
          ∙ step (m.mechanism v (rounds (noisy k m) i world) world)
        where
          step : (a : ℕ) → cond (eqb (suc (s v)) 0) a (suc (s v) - 1) ≡ s v
          step a = rw (ne_eqb (suc (s v)) 0 (omega arith)) (omega arith)

      in_range : (j : ℕ) → j < m.causes + m.vertices → true ≡ true → world j < (noisy k m).values j
      in_range j lt e = go (ltb j m.causes) refl
        where
          go : (q : Bool) → ltb j m.causes ≡ q → cond q (pick (m.values j) (m.weight j)) (cond (ltb j (m.causes + m.vertices))
              (suc (s (j - m.causes))) 0) < cond q (m.values j) (m.size (j - m.causes) + 1)
          go true f = (picked (m.values j) (m.weight j) (fit.positive_weight j (ltb-true j m.causes f))).0
          go false f = rw (lt-ltb j (m.causes + m.vertices) lt)
              (let w = within (j - m.causes) (let ge : m.causes ≤ j = (let under = λ (l : j < m.causes). lt-ltb j m.causes l in grind (arith, under, f)) in
              omega (arith, lt)) in omega (arith, w))

      weighs : 1 ≤ world_weight (noisy k m) world
      weighs = product_pos (m.causes + m.vertices) (λ j. (noisy k m).weight j (world j)) (λ j lt. go j lt (ltb j m.causes) refl)
        where
          go : (j : ℕ) → j < m.causes + m.vertices → (q : Bool) → ltb j m.causes ≡ q
              → 1 ≤ cond q (m.weight j (cond q (pick (m.values j) (m.weight j)) (cond (ltb j (m.causes + m.vertices)) (suc (s (j - m.causes))) 0)))
              (cond (eqb (cond q (pick (m.values j) (m.weight j)) (cond (ltb j (m.causes + m.vertices)) (suc (s (j - m.causes))) 0)) 0) k 1)
          go j lt true f = (picked (m.values j) (m.weight j) (fit.positive_weight j (ltb-true j m.causes f))).1
          go j lt false f = rw (lt-ltb j (m.causes + m.vertices) lt, ne_eqb (suc (s (j - m.causes))) 0 (omega arith)) (omega arith)

      beyond : (j : ℕ) → (j < m.causes + m.vertices → true ≡ true → ⊥) → world j ≡ 0
      beyond j out = go (ltb j m.causes) (ltb j (m.causes + m.vertices)) refl refl
        where
          go : (q r : Bool) → ltb j m.causes ≡ q → ltb j (m.causes + m.vertices) ≡ r
              → cond q (pick (m.values j) (m.weight j)) (cond r (suc (s (j - m.causes))) 0) ≡ 0
          go true r e f = absurd (out (let l = ltb-true j m.causes e in omega (arith, l)) refl)
          go false true e f = absurd (out (ltb-true j (m.causes + m.vertices) f) refl)
          go false false e f = refl

      counts : 1 ≤ cond (agree m.vertices (λ v. true) (solution (noisy k m) world) s) (world_weight (noisy k m) world) 0
      counts = rw (agree_from m.vertices (λ v. true) (solution (noisy k m) world) s (λ v lt e. at_end m.vertices v lt refl)) weighs
        where
          at_end : (i v : ℕ) → v < m.vertices → i ≡ m.vertices → rounds (noisy k m) i world v ≡ s v
          at_end zero v lt e = absurd (omega (arith, lt, e))
          at_end (suc i) v lt e = solved i v lt

      pub has_weight : 1 ≤ event_weight (noisy k m) (λ v. true) s
      has_weight = omega (
        arith,
        counts,
        over-term (λ j. true) (noisy k m).values (m.causes + m.vertices)
            (λ u. cond (agree m.vertices (λ v. true) (solution (noisy k m) u) s) (world_weight (noisy k m) u) 0) world in_range,
        over-base (λ j. true) (noisy k m).values (m.causes + m.vertices)
            (λ u. cond (agree m.vertices (λ v. true) (solution (noisy k m) u) s) (world_weight (noisy k m) u) 0) world (λ j. 0) beyond,
      )

    abbrev without : (b a : ℕ → Bool) → (ℕ → ℕ) → (ℕ → ℕ) → Bool
    without b a s u = agree m.vertices a (solution (intervene m b s) u) s

    abbrev in_noise : (b a : ℕ → Bool) → (ℕ → ℕ) → (ℕ → ℕ) → Bool
    in_noise b a s u = agree m.vertices a (solution (intervene (noisy k m) b s) u) s

    pub near : IsNear g m k extra_of (noisy k m)
    near = record {
      fits = noisy_fits g m fit k some;
      positive = λ s within. has_weight s within;
      two = noisy_two k m;
      vertices = refl;
      size = λ v. refl;
      scale = scale_of k m.vertices;
      some = scale-some k m.vertices some;
      least = λ b a s within. least (in_noise b a s) (without b a s) (λ u quiet. agree_same g m fit k some ok u quiet b a s);
      most = λ b a s within. most (in_noise b a s) (without b a s) (λ u quiet. agree_same g m fit k some ok u quiet b a s);
    }

pub each_is_near : EachIsNearPositive
each_is_near = λ g ok m fit. (extra_of g ok m fit, λ k some. (noisy k m, near g ok m fit k some))
