-- The two models differ on the event, where noise is rare enough.
use Rattle.std.proofs.Common.{ℕ, zero, suc, ◌+◌, ◌*◌, ◌^◌, ◌≡◌, ◌<◌, ◌≤◌, Bool, true, false, cond, eqb, ltb, ◌&&◌, ◌||◌, refl, sym, ap, ◌∙◌, subst, arith}
use Rattle.std.proofs.Common.{lt-ltb, eqb-true}
use Rattle.std.proofs.Math.Nat.{eq_of_mul-eq-mul_left}
use Rattle.mixed_graph.specs.Vocabulary.{MixedGraph, IsMixedGraph}
use Rattle.fractions.specs.Vocabulary.{IsEqual}
use Rattle.finite_models.specs.Vocabulary.{FiniteModel, IsAssignment, world_weight, event_weight, sum_worlds, total, sum_over, product_below, all_below}
use Rattle.finite_models.proofs.Positive.{over-mono}
use Rattle.finite_models.proofs.Ranks.{with_rank}
use Rattle.finite_models.proofs.SumLaws.{over-scale, over-term}
use Rattle.finite_models.proofs.Weights.{weight_of-none}
use Rattle.prob_expr.proofs.Allowed.{events_under}
use Rattle.treated_models.specs.Vocabulary.{is_both, weight_of_both, effect_among}
use Rattle.treated_paths.proofs.Agreeing.{paths_agree}
use Rattle.treated_paths.proofs.Event.{IsReadPath, at, seen, observed, at_within, seen_within, first_shows, noise_needed}
use Rattle.treated_paths.proofs.Fits.{path_fits}
use Rattle.treated_paths.proofs.Models.{weight_in, path_model}
use Rattle.treated_paths.proofs.Positive.{product_some, weight_some}

-- products of numbers that are no larger; where one of them is smaller by a factor, so is the product
product_le : (n : ℕ) (f h : ℕ → ℕ) → ((j : ℕ) → f j ≤ h j) → product_below n f ≤ product_below n h
product_le zero f h le = omega arith
product_le (suc n) f h le = at (product_below n f) (product_below n h) (f n) (h n) (product_le n f h le) (le n)
  where
    at : (a b c d : ℕ) → a ≤ b → c ≤ d → a * c ≤ b * d
    at a b c d p q = grind (arith, p, q)

product_less : (n many : ℕ) (f h : ℕ → ℕ) (i : ℕ) → i < n → ((j : ℕ) → f j ≤ h j) → many * f i ≤ h i → many * product_below n f ≤ product_below n h
product_less zero many f h i lt le less = absurd (omega arith)
product_less (suc n) many f h i lt le less = go (eqb i n) refl (λ l. product_less n many f h i l le less)
  where
    last : (a b c d : ℕ) → a ≤ b → many * c ≤ d → many * (a * c) ≤ b * d
    last a b c d p q = let e : many * (a * c) ≡ a * (many * c) = omega arith in rw e (grown a b (many * c) d p q)
      where
        grown : (a b c d : ℕ) → a ≤ b → c ≤ d → a * c ≤ b * d
        grown a b c d p q = grind (arith, p, q)

    early : (a b c d : ℕ) → many * a ≤ b → c ≤ d → many * (a * c) ≤ b * d
    early a b c d p q = let e : many * (a * c) ≡ (many * a) * c = omega arith in rw e (grown (many * a) b c d p q)
      where
        grown : (a b c d : ℕ) → a ≤ b → c ≤ d → a * c ≤ b * d
        grown a b c d p q = grind (arith, p, q)

    go : (b : Bool) → eqb i n ≡ b → (i < n → many * product_below n f ≤ product_below n h) → many * (product_below n f * f n) ≤ product_below n h * h n
    go true e ih = let same : i ≡ n = eqb-true i n e in
        last (product_below n f) (product_below n h) (f n) (h n) (product_le n f h le) (subst (λ j. many * f j ≤ h j) same less)
    go false e ih =
        early (product_below n f) (product_below n h) (f n) (h n) (ih (let d : i ≡ n → ⊥ = λ s. absurd (grind (arith, s, e)) in omega (arith, lt))) (le n)

-- a test that fails somewhere below n
fails_at : (n : ℕ) (t : ℕ → Bool) → all_below n t ≡ false → (i : ℕ) × (i < n) × (t i ≡ false)
fails_at zero t e = absurd (grind (arith, e))
fails_at (suc n) t e = go (all_below n t) (t n) refl refl e (fails_at n t)
  where
    go : (a b : Bool) → all_below n t ≡ a → t n ≡ b → (a && b) ≡ false → (all_below n t ≡ false → (i : ℕ) × (i < n) × (t i ≡ false))
        → (i : ℕ) × (i < suc n) × (t i ≡ false)
    go true true p q h ih = absurd (grind (arith, h))
    go true false p q h ih = (n, omega arith, q)
    go false b p q h ih = let r = ih p in (r.0, (let l = r.1 in omega (arith, l)), r.2)

-- a number that is at least a scale isn't at most that scale, shared out
too_large : (a scale count : ℕ) → scale ≤ a → 1 ≤ scale → suc count * a ≤ scale * count → ⊥
too_large a scale count ge some le =
    let grown : scale * count ≤ a * count = grind (arith, ge) in
    let e : suc count * a ≡ a + a * count = omega arith in
    omega (arith, le, grown, e, ge, some)

module _ (g : MixedGraph) (ok : IsMixedGraph g) (x y z : ℕ → Bool) (k : ℕ) (w : ℕ → ℕ) (p : IsReadPath g x y z k w) where
  -- how many worlds there are
  abbrev pub count : ℕ
  count = sum_over (λ j. true) (path_model g x k w true 1).values (g.vertices + suc k) (λ u. 1) (λ j. 0)

  abbrev pub many : ℕ
  many = suc count

  pub some : 1 ≤ many
  some = omega arith

  abbrev m : (first : Bool) → FiniteModel
  m first = path_model g x k w first many

  abbrev o : ℕ → Bool
  o v = x v || z v

  abbrev pub at_point : ℕ → ℕ
  at_point = at g ok x y z k w p many some

  abbrev pub seen_point : ℕ → ℕ
  seen_point = observed g ok x y z k w p many some

  abbrev shows : (first : Bool) → (ℕ → ℕ) → Bool
  shows first u = is_both (m first) x y o at_point seen_point u

  abbrev counted : (first : Bool) → (ℕ → ℕ) → ℕ
  counted first u = cond (shows first u) (world_weight (m first) u) 0

  -- the weight of a world without noise
  abbrev scale : ℕ
  scale = product_below (g.vertices + suc k) (λ j. weight_in g x k w many j 0)

  scale_some : 1 ≤ scale
  scale_some = product_some (g.vertices + suc k) (λ j. weight_in g x k w many j 0) (λ j lt. weight_some g x k w true many some j 0)

  weight_le : (j i : ℕ) → weight_in g x k w many j i ≤ weight_in g x k w many j 0
  weight_le j i = go (ltb j g.vertices) (eqb i 0)
    where
      go : (b c : Bool) → cond (b && c) many 1 ≤ cond (b && true) many 1
      go true true = omega arith
      go true false = some
      go false c = omega arith

  in_box : (j : ℕ) → j < g.vertices + suc k → true ≡ true → 0 < (m true).values j
  in_box j lt e = go (ltb j g.vertices)
    where
      go : (b : Bool) → 0 < cond b (2 ^ suc (suc k) + 1) 2
      go true = omega arith
      go false = omega arith

  -- the event has in the first model the weight of a world without noise
  first_high : scale ≤ weight_of_both (m true) x y o at_point seen_point
  first_high =
      subst (λ t. t ≤ weight_of_both (m true) x y o at_point seen_point)
      (ap (λ b. cond b (world_weight (m true) (λ j. 0)) 0) (first_shows g ok x y z k w p many some))
      (over-term (λ j. true) (m true).values (g.vertices + suc k) (counted true) (λ j. 0) in_box)

  -- in the second each world that shows it has noise
  rare : (rank : Unit {0}) → (u : ℕ → ℕ) → (shows false u ≡ true → all_below g.vertices (λ v. eqb (u v) 0) ≡ false) → many * counted false u ≤ scale * 1
  rare _ u noise = go (shows false u) noise
    where
      go : (b : Bool) → (b ≡ true → all_below g.vertices (λ v. eqb (u v) 0) ≡ false) → many * cond b (world_weight (m false) u) 0 ≤ scale * 1
      go false h = omega arith
      go true h =
          let f = fails_at g.vertices (λ v. eqb (u v) 0) (h refl) in
          let le = product_less (g.vertices + suc k) many (λ j. weight_in g x k w many j (u j)) (λ j. weight_in g x k w many j 0) f.0
          (let l = f.1 in omega (arith, l)) (λ j. weight_le j (u j)) (less f.0 f.1 f.2) in
          omega (arith, le)
        where
          less : (i : ℕ) → i < g.vertices → eqb (u i) 0 ≡ false → many * weight_in g x k w many i (u i) ≤ weight_in g x k w many i 0
          less i lt e = rw (lt-ltb i g.vertices lt, e) (omega arith)

  second_low : ((u : ℕ → ℕ) → shows false u ≡ true → all_below g.vertices (λ v. eqb (u v) 0) ≡ false)
      → many * weight_of_both (m false) x y o at_point seen_point ≤ scale * count
  second_low noise =
      subst (λ t. t ≤ scale * count) (over-scale (λ j. true) (m false).values (g.vertices + suc k) many (counted false) (λ j. 0))
      (subst (λ t. sum_worlds (m false) (λ u. many * counted false u) ≤ t)
      (over-scale (λ j. true) (m false).values (g.vertices + suc k) scale (λ u. 1) (λ j. 0))
      (over-mono (λ j. true) (m false).values (g.vertices + suc k) (λ u. many * counted false u) (λ u. scale * 1) (λ j. 0) (λ u. rare tt u (noise u))))

  weights_differ : weight_of_both (m true) x y o at_point seen_point ≡ weight_of_both (m false) x y o at_point seen_point → ⊥
  weights_differ e = absurd (let clash : 0 ≡ 1 = with_rank g ok 0 1 (λ rank ranked. absurd (too_large
      (weight_of_both (m true) x y o at_point seen_point) scale count first_high scale_some
      (subst (λ t. many * t ≤ scale * count) (sym e) (second_low (noise_needed g ok x y z k w p many some rank ranked))))) in omega (arith, clash))

  total_some : 1 ≤ total (m true)
  total_some = let le = over-term (λ j. true) (m true).values (g.vertices + suc k) (world_weight (m true)) (λ j. 0) in_box in omega (arith, le, scale_some)

  condition_same : event_weight (m true) o seen_point * total (m true) ≡ event_weight (m false) o seen_point * total (m true)
  condition_same = ap (λ t. t * total (m true)) (sym (weight_of-none (m true) (λ v. false) o seen_point (λ v. refl)))
      ∙ events_under g ok (m true) (m false) (path_fits g ok x k w p.path true many some) (path_fits g ok x k w p.path false many some) (λ v. false)
      (paths_agree g ok x k w p.path many some) o seen_point point_within
      ∙ ap (λ t. t * total (m true)) (weight_of-none (m false) (λ v. false) o seen_point (λ v. refl))
    where
      point_within : IsAssignment g.vertices (λ v. 2 ^ suc (suc k)) seen_point
      point_within v lt = go (x v)
        where
          go : (b : Bool) → cond b (seen g ok x y z k w p many some v) (at_point v) < 2 ^ suc (suc k)
          go true = seen_within g ok x y z k w p many some v lt
          go false = at_within g ok x y z k w p many some v lt

  pub effects_differ : IsEqual (effect_among (m true) x y o at_point seen_point) (effect_among (m false) x y o at_point seen_point) → ⊥
  effects_differ equal = weights_differ
      (eq_of_mul-eq-mul_left (event_weight (m true) o seen_point) equal.left_bottom (weight_of_both (m true) x y o at_point seen_point)
      (weight_of_both (m false) x y o at_point seen_point)
      (turned (event_weight (m true) o seen_point) (event_weight (m false) o seen_point) (weight_of_both (m true) x y o at_point seen_point)
      (weight_of_both (m false) x y o at_point seen_point) equal.products same))
    where
      turn : (a b : ℕ) → a * b ≡ b * a
      turn a b = omega arith

      same : event_weight (m true) o seen_point ≡ event_weight (m false) o seen_point
      same = eq_of_mul-eq-mul_left (total (m true)) total_some (event_weight (m true) o seen_point)
          (event_weight (m false) o seen_point)
          (turn (total (m true)) (event_weight (m true) o seen_point) ∙ condition_same ∙ turn (event_weight (m false) o seen_point) (total (m true)))

      turned : (a b c d : ℕ) → c * b ≡ d * a → a ≡ b → a * c ≡ a * d
      turned a b c d h e = turn a c ∙ ap (λ t. c * t) e ∙ h ∙ turn d a
