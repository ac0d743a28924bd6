-- Where a causal path from x to y has an inner vertex in z, one stratum exceeds the effect.
use Rattle.std.proofs.Common.{ℕ, zero, suc, ◌+◌, ◌-◌, ◌≡◌, ◌<◌, ◌≤◌, inl, inr, Bool, true, false, cond, eqb, ltb, not, ◌&&◌, ◌||◌, ◌==◌, refl, sym}
use Rattle.std.proofs.Common.{ap, ap₂, ◌∙◌, subst, IsTrue, arith, lt-ltb, ltb-true, eqb-true, ne_eqb}
use Rattle.std.proofs.lemmas.Bool.{or_left, or_right, cases_lt}
use Rattle.mixed_graph.specs.Vocabulary.{has, MixedGraph, IsMixedGraph}
use Rattle.mixed_graph.proofs.Masks.{has-zero}
use Rattle.m_separation.specs.declared.marks.Mark.{Mark}
use Rattle.m_separation.specs.declared.marks.Mark.TheVariants.{Out, Into, Both}
use Rattle.m_separation.specs.Vocabulary.{heads_first, heads_second}
use Rattle.finite_models.specs.Vocabulary.{FiniteModel, IsAssignment, IsWorld, solution, intervene, agree, weight_of, world_weight, sum_worlds, differ}
use Rattle.finite_models.proofs.Bools.{not_both, same_truth}
use Rattle.finite_models.proofs.Following.{follows_of, follows_intervene}
use Rattle.finite_models.proofs.Positive.{over-mono}
use Rattle.finite_models.proofs.SumLaws.{eqb-refl, over-congr_within, over-base, over-term}
use Rattle.finite_models.proofs.Solutions.{solution_within, agree_gives, agree_from}
use Rattle.walk_models.specs.Visits.{Walk, IsWalkIn}
use Rattle.walk_models.specs.WalkModels.{is_both, bit_of, coin, has_coin, sent_on, sent_back, new_bit, walk_model}
use Rattle.walk_models.specs.Laws.{MiddlesExceed, IsBelowIn, event}
use Rattle.walk_models.proofs.Solved.{sizes, light, weighs, heavy, heads, heads_world, heads_beyond, solves_under, only_under, bit_under}
use Rattle.walk_models.proofs.Lifted.{below_is_positive}
use Rattle.walk_models.proofs.Told.{agree_less, below_from}
use Rattle.walk_models.proofs.WalkFits.{walk_fits, walk_two}
use Rattle.walk_models.proofs.Worlds.{mask_none}

-- the walk with a coin of its own at visit k + 1
abbrev with_coin : Walk → ℕ → Walk
with_coin p k = record p { free = λ i. i == suc k }

module _ (g : MixedGraph) (ok : IsMixedGraph g) (x y z : ℕ → Bool) (q : Walk) (k : ℕ) (walk : IsWalkIn g q) (begins : IsTrue (x (q.at 0)))
    (ends : IsTrue (y (q.at q.steps))) (forwards : (i : ℕ) → i < q.steps → q.mark i ≡ Out)
    (apart : (i : ℕ) → 0 < i → i ≤ q.steps → x (q.at i) ≡ false) (first_out : z (q.at 0) ≡ false) (inside : suc k < q.steps) (middle : IsTrue
    (z (q.at (suc k)))) (earlier : (i : ℕ) → 0 < i → i ≤ k → z (q.at i) ≡ false) where
  abbrev p : Walk
  p = with_coin q k

  walk_p : IsWalkIn g p
  walk_p = record { vertex = walk.vertex; joined = walk.joined }

  abbrev many : ℕ
  many = suc (sum_worlds (walk_model g.vertices p (suc k) 1) (λ u. 1))

  abbrev m : FiniteModel
  m = walk_model g.vertices p (suc k) many

  some : 1 ≤ many
  some = omega arith

  abbrev nobody : ℕ → Bool
  nobody v = false

  abbrev at : (ℕ → ℕ) → ℕ → ℕ
  at u = solution (intervene m nobody (λ v. 0)) u

  nowhere : IsAssignment g.vertices m.size (λ v. 0)
  nowhere v lt = omega arith

  -- what a visit gets
  gets_first : (t u : ℕ → ℕ) → new_bit p t u 0 ≡ coin u 0
  gets_first t u = go (ltb 0 p.steps) (p.mark 0) (bit_of p t 1) (coin u 0) (forwards 0 (omega (arith, inside)))
    where
      go : (r : Bool) (a : Mark) (e c : Bool) → a ≡ Out
          → differ false (differ (r && sent_back a e c) ((not (r && heads_first a) && (not false || (0 == suc k))) && c)) ≡ c
      go true Out e c h = refl
      go false Out e c h = refl
      go r Into e c h = absurd (cc)
      go r Both e c h = absurd (cc)

  gets_next : (t u : ℕ → ℕ) (i : ℕ) → suc i ≤ p.steps → new_bit p t u (suc i) ≡ differ (bit_of p t i) ((suc i == suc k) && coin u (suc i))
  gets_next t u i le =
      ap (λ a. differ (sent_on a (bit_of p t i) (coin u i))
      (differ (ltb (suc i) p.steps && sent_back (p.mark (suc i)) (bit_of p t (suc (suc i))) (coin u (suc i)))
      ((not (ltb (suc i) p.steps && heads_first (p.mark (suc i))) && (not (heads_second a) || (suc i == suc k))) && coin u (suc i)))) (forwards i le)
      ∙ go (ltb (suc i) p.steps) (p.mark (suc i)) (bit_of p t i) (bit_of p t (suc (suc i))) (coin u (suc i)) (suc i == suc k)
      (λ l. forwards (suc i) (ltb-true (suc i) p.steps l))
    where
      go : (r : Bool) (a : Mark) (b e c f : Bool) → (r ≡ true → a ≡ Out)
          → differ b (differ (r && sent_back a e c) ((not (r && heads_first a) && (not true || f)) && c)) ≡ differ b (f && c)
      go true Out b e c f h = refl
      go true Into b e c f h = let w = h refl in absurd (cc)
      go true Both b e c f h = let w = h refl in absurd (cc)
      go false a b e c f h = refl

  -- the bits from a first bit a on
  module _ (t u : ℕ → ℕ) (a : Bool) (start : bit_of p t 0 ≡ a) (is_new : (i : ℕ) → suc i ≤ p.steps → bit_of p t (suc i) ≡ new_bit p t u (suc i)) where
    unmoved : (b c : Bool) → differ b (false && c) ≡ b
    unmoved true c = refl
    unmoved false c = refl

    low_bit : (i : ℕ) → i ≤ k → i ≤ p.steps → bit_of p t i ≡ a
    low_bit zero le in_range = start
    low_bit (suc i) le in_range = is_new i in_range ∙ gets_next t u i in_range
        ∙ ap (λ f. differ (bit_of p t i) (f && coin u (suc i))) (ne_eqb (suc i) (suc k) (omega (arith, le))) ∙ unmoved (bit_of p t i) (coin u (suc i))
        ∙ low_bit i (omega (arith, le)) (omega (arith, in_range))

    high_bit : (d i : ℕ) → i ≡ suc k + d → i ≤ p.steps → bit_of p t i ≡ differ a (coin u (suc k))
    high_bit zero i e in_range = ap (bit_of p t) (let f : i ≡ suc k = omega (arith, e) in f) ∙ is_new k (omega (arith, inside))
        ∙ gets_next t u k (omega (arith, inside))
        ∙ ap₂ (λ b f. differ b (f && coin u (suc k))) (low_bit k (omega arith) (omega (arith, inside))) (eqb-refl (suc k))
    high_bit (suc d) zero e in_range = absurd (omega (arith, e))
    high_bit (suc d) (suc i) e in_range = is_new i in_range ∙ gets_next t u i in_range
        ∙ ap (λ f. differ (bit_of p t i) (f && coin u (suc i))) (ne_eqb (suc i) (suc k) (omega (arith, e))) ∙ unmoved (bit_of p t i) (coin u (suc i))
        ∙ high_bit d i (omega (arith, e)) (omega (arith, in_range))

  start_is : (u : ℕ → ℕ) → bit_of p (at u) 0 ≡ coin u 0
  start_is u = bit_under g ok p walk_p (suc k) many some nobody (λ v. 0) nowhere u 0 (omega arith) refl ∙ gets_first (at u) u

  new_is : (u : ℕ → ℕ) (i : ℕ) → suc i ≤ p.steps → bit_of p (at u) (suc i) ≡ new_bit p (at u) u (suc i)
  new_is u i le = bit_under g ok p walk_p (suc k) many some nobody (λ v. 0) nowhere u (suc i) le refl

  -- z is 0 where both coins are one
  zero_on : (u : ℕ → ℕ) → differ (coin u 0) (coin u (suc k)) ≡ false → (v : ℕ) → v < g.vertices → z v ≡ true → at u v ≡ 0
  zero_on u even v lt e = solves_under g ok p walk_p (suc k) many some nobody (λ v. 0) nowhere u v lt
      ∙ mask_none (λ i. eqb v (p.at i) && new_bit p (at u) u i) (suc p.steps) (λ i il. here i (omega (arith, il)) (eqb v (p.at i)) refl)
    where
      out : (i : ℕ) → i ≤ k → z (p.at i) ≡ false
      out zero le = first_out
      out (suc i) le = earlier (suc i) (omega arith) le

      here : (i : ℕ) → i ≤ p.steps → (r : Bool) → eqb v (p.at i) ≡ r → (r && new_bit p (at u) u i) ≡ false
      here i il false f = refl
      here i il true f = elim (cases_lt k i) [
        | inl gt ↦ sym (bit_under g ok p walk_p (suc k) many some nobody (λ v. 0) nowhere u i il refl)
            ∙ high_bit (at u) u (coin u 0) (start_is u) (new_is u) (i - suc k) i (omega (arith, gt)) il
            ∙ even
        | inr ge ↦ absurd (not_both (z (p.at i)) (ap z (sym (eqb-true v (p.at i) f)) ∙ e) (out i ge))
      ]

  -- ---- the coins
  own_first : has_coin p 0 ≡ true
  own_first = go (ltb 0 p.steps) (p.mark 0) (forwards 0 (omega (arith, inside)))
    where
      go : (r : Bool) (a : Mark) → a ≡ Out → ((r && is_both a) || (not (r && heads_first a) && (not false || (0 == suc k)))) ≡ true
      go true Out h = refl
      go false Out h = refl
      go r Into h = absurd (cc)
      go r Both h = absurd (cc)

  own_next : (j : ℕ) → suc j ≤ p.steps → has_coin p (suc j) ≡ (suc j == suc k)
  own_next j le =
      ap (λ a. (ltb (suc j) p.steps && is_both (p.mark (suc j))) ||
      (not (ltb (suc j) p.steps && heads_first (p.mark (suc j))) && (not (heads_second a) || (suc j == suc k)))) (forwards j le)
      ∙ go (ltb (suc j) p.steps) (p.mark (suc j)) (suc j == suc k) (λ l. forwards (suc j) (ltb-true (suc j) p.steps l))
    where
      go : (r : Bool) (a : Mark) (f : Bool) → (r ≡ true → a ≡ Out) → ((r && is_both a) || (not (r && heads_first a) && (not true || f))) ≡ f
      go true Out f h = refl
      go true Into f h = let w = h refl in absurd (cc)
      go true Both f h = let w = h refl in absurd (cc)
      go false a f h = refl

  abbrev ones : ℕ → ℕ
  ones = heads p

  ones_first : coin ones 0 ≡ true
  ones_first = rw (lt-ltb 0 (suc p.steps) (omega arith), own_first) refl

  ones_middle : coin ones (suc k) ≡ true
  ones_middle = rw (lt-ltb (suc k) (suc p.steps) (omega (arith, inside)), own_next k (omega (arith, inside)), eqb-refl (suc k)) refl

  abbrev s : ℕ → ℕ
  s = at ones

  fits_in : IsAssignment g.vertices m.size s
  fits_in = solution_within g (intervene m nobody (λ v. 0))
      (follows_intervene g m nobody (λ v. 0) nowhere (follows_of g m (walk_fits g ok p walk_p (suc k) many some))) ones (heads_world g.vertices p (suc k) many)

  zero_in_s : (v : ℕ) → v < g.vertices → z v ≡ true → s v ≡ 0
  zero_in_s = zero_on ones (ap₂ differ ones_first ones_middle)

  first_in_s : bit_of p s 0 ≡ true
  first_in_s = start_is ones ∙ ones_first

  last_in_s : bit_of p s p.steps ≡ false
  last_in_s = high_bit s ones true first_in_s (new_is ones) (p.steps - suc k) p.steps (omega (arith, inside)) (omega arith) ∙ ap (differ true) ones_middle

  few : weight_of m x y s < many
  few = let le : weight_of m x y s ≤ sum_worlds (walk_model g.vertices p (suc k) 1) (λ u. 1) =
      over-mono (λ j. true) m.values m.causes (λ u. cond (agree g.vertices y (solution (intervene m x s) u) s) (world_weight m u) 0) (λ u. 1) (λ j. 0)
      (λ u. go u (agree g.vertices y (solution (intervene m x s) u) s) refl) in omega (arith, le)
    where
      held : (u : ℕ → ℕ) → bit_of p (solution (intervene m x s) u) 0 ≡ true
      held u = ap (λ r. has r 0) (solves_under g ok p walk_p (suc k) many some x s fits_in u (p.at 0) (walk.vertex 0 (omega arith))
          ∙ ap (λ c. cond c (s (p.at 0)) (m.mechanism (p.at 0) (solution (intervene m x s) u) u)) begins) ∙ first_in_s

      other : (a : Bool) → differ true a ≡ false → a ≡ true
      other true e = refl
      other false e = sym e

      go : (u : ℕ → ℕ) (r : Bool) → agree g.vertices y (solution (intervene m x s) u) s ≡ r → cond r (world_weight m u) 0 ≤ 1
      go u false e = omega arith
      go u true e =
          rw (light g.vertices p (suc k) many u (other (coin u (suc k)) (sym (high_bit (solution (intervene m x s) u) u true (held u)
          (λ i le. bit_under g ok p walk_p (suc k) many some x s fits_in u (suc i) le (apart (suc i) (omega arith) le)) (p.steps - suc k) p.steps
          (omega (arith, inside)) (omega arith))
          ∙ ap (λ r. has r p.steps) (agree_gives g.vertices y (solution (intervene m x s) u) s e (p.at p.steps) (walk.vertex p.steps (omega arith)) ends)
          ∙ last_in_s))) (omega arith)

  heavy_z : many ≤ weight_of m nobody z s
  heavy_z = omega (
    arith,
    over-term (λ j. true) m.values m.causes (λ u. cond (agree g.vertices z (at u) s) (world_weight m u) 0) (λ j. 0)
        (λ j lt e. sizes g.vertices p (suc k) many j),
    (let h : many ≤ cond (agree g.vertices z (at (λ j. 0)) s) (world_weight m (λ j. 0)) 0 =
        rw (agree_from g.vertices z (at (λ j. 0)) s (λ v lt i. zero_on (λ j. 0) refl v lt i ∙ sym (zero_in_s v lt i)))
        (heavy g.vertices p (suc k) many some (omega (arith, inside))) in h),
  )

  module _ (u : ℕ → ℕ) (world : IsWorld m u) (e : agree g.vertices (λ v. x v || z v) (at u) s ≡ true) where
    coin_first : coin u 0 ≡ true
    coin_first = sym (start_is u) ∙ ap (λ r. has r 0) (agree_gives g.vertices (λ v. x v || z v) (at u) s e (p.at 0) (walk.vertex 0 (omega arith))
        (or_left (x (p.at 0)) (z (p.at 0)) begins)) ∙ first_in_s

    coin_middle : coin u (suc k) ≡ true
    coin_middle = other (coin u (suc k)) (sym (high_bit (at u) u true (start_is u ∙ coin_first) (new_is u) 0 (suc k) (omega arith) (omega (arith, inside)))
        ∙ ap (λ r. has r (suc k)) (agree_gives g.vertices (λ v. x v || z v) (at u) s e (p.at (suc k)) (walk.vertex (suc k) (omega (arith, inside)))
        (or_right (x (p.at (suc k))) (z (p.at (suc k))) middle)
        ∙ zero_in_s (p.at (suc k)) (walk.vertex (suc k) (omega (arith, inside))) middle) ∙ has-zero (suc k))
      where
        other : (a : Bool) → differ true a ≡ false → a ≡ true
        other true e = refl
        other false e = sym e

    all_ones : (j : ℕ) → j < suc p.steps → u j ≡ ones j
    all_ones j lt = rw (lt-ltb j (suc p.steps) lt) (go j lt (has_coin p j) refl (world j lt))
      where
        one_at : (j : ℕ) → j < suc p.steps → has_coin p j ≡ true → coin u j ≡ true
        one_at zero lt f = coin_first
        one_at (suc j) lt f = subst (λ i. coin u i ≡ true) (sym (eqb-true (suc j) (suc k) (sym (own_next j (omega (arith, lt))) ∙ f))) coin_middle

        go : (j : ℕ) → j < suc p.steps → (r : Bool) → has_coin p j ≡ r → u j < cond r 2 1 → u j ≡ cond r 1 0
        go j lt true f under_two = eqb-true (u j) 1 (one_at j lt f)
        go j lt false f under_one = omega (arith, under_one)

    is_s : (v : ℕ) → v < g.vertices → at u v ≡ s v
    is_s = only_under g ok p walk_p (suc k) many some nobody (λ v. 0) nowhere u s
        (λ v lt. solves_under g ok p walk_p (suc k) many some nobody (λ v. 0) nowhere ones v lt
        ∙ (walk_fits g ok p walk_p (suc k) many some).reads v lt s s ones u (λ r a. refl) (λ j jl c. sym (all_ones j jl)))

  sure_z : weight_of m nobody (λ v. x v || z v) s ≡ weight_of m nobody (λ v. x v || (y v || z v)) s
  sure_z = over-congr_within (λ j. true) m.values m.causes
      (λ u. cond (agree g.vertices (λ v. x v || z v) (at u) s) (world_weight m u) 0)
      (λ u. cond (agree g.vertices (λ v. x v || (y v || z v)) (at u) s) (world_weight m u) 0) (λ j. 0)
      (λ u world out. ap (λ r. cond r (world_weight m u) 0)
      (same_truth (agree g.vertices (λ v. x v || z v) (at u) s) (agree g.vertices (λ v. x v || (y v || z v)) (at u) s)
      (λ e. agree_from g.vertices (λ v. x v || (y v || z v)) (at u) s (λ v lt i. is_s u (λ j jl. world j jl refl) e v lt))
      (λ e. agree_less g.vertices (λ v. x v || z v) (λ v. x v || (y v || z v)) (at u) s (λ v i. weaker (x v) (y v) (z v) i) e)))
    where
      weaker : (a b d : Bool) → (a || d) ≡ true → (a || (b || d)) ≡ true
      weaker true b d e = refl
      weaker false true d e = refl
      weaker false false d e = e

  some_one : 1 ≤ weight_of m nobody (λ v. x v || (y v || z v)) s
  some_one = omega (
    arith,
    over-base (λ j. true) m.values m.causes (λ u. cond (agree g.vertices (λ v. x v || (y v || z v)) (at u) s) (world_weight m u) 0) ones (λ j. 0)
        (λ j out. heads_beyond p j (let n = λ (l : j < suc p.steps). out l refl in grind (arith, n))),
    over-term (λ j. true) m.values m.causes (λ u. cond (agree g.vertices (λ v. x v || (y v || z v)) (at u) s) (world_weight m u) 0) ones
        (λ j lt e. heads_world g.vertices p (suc k) many j lt),
    (let h : 1 ≤ cond (agree g.vertices (λ v. x v || (y v || z v)) (at ones) s) (world_weight m ones) 0 =
        rw (agree_from g.vertices (λ v. x v || (y v || z v)) (at ones) s (λ v lt i. refl))
        (weighs g.vertices p (suc k) many some ones) in h),
  )

  exceeds : IsBelowIn m s (event x y) (event nobody (λ u. x u || z u)) (event nobody (λ u. x u || (y u || z u))) (event nobody z)
  exceeds = record {
    within = fits_in;
    below = below_from (weight_of m x y s) (weight_of m nobody (λ u. x u || z u) s) (weight_of m nobody (λ u. x u || (y u || z u)) s) (weight_of m nobody z s)
        (omega (arith, few, heavy_z)) sure_z some_one;
  }

pub middles_exceed : MiddlesExceed
middles_exceed = λ g ok x y z p k walk plain begins ends forwards apart first_out inside middle earlier.
    below_is_positive g ok (m g ok x y z p k walk begins ends forwards apart first_out inside middle earlier)
    (walk_fits g ok (with_coin p k) (walk_p g ok x y z p k walk begins ends forwards apart first_out inside middle earlier) (suc k)
    (many g ok x y z p k walk begins ends forwards apart first_out inside middle earlier)
    (some g ok x y z p k walk begins ends forwards apart first_out inside middle earlier))
    (walk_two g.vertices (with_coin p k) (suc k) (many g ok x y z p k walk begins ends forwards apart first_out inside middle earlier))
    (s g ok x y z p k walk begins ends forwards apart first_out inside middle earlier) (event x y) (event (λ u. false) (λ u. x u || z u))
    (event (λ u. false) (λ u. x u || (y u || z u))) (event (λ u. false) z)
    (exceeds g ok x y z p k walk begins ends forwards apart first_out inside middle earlier)
