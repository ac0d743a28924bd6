-- Where a walk from x ends apart from x, one stratum exceeds the effect.
use Rattle.std.proofs.Common.{ℕ, zero, suc, ◌+◌, ◌-◌, ◌≡◌, ◌≢◌, ◌<◌, ◌≤◌, Bool, true, false, cond, eqb, ltb, not, ◌&&◌, ◌||◌, refl, sym, ap, ◌∙◌}
use Rattle.std.proofs.Common.{IsTrue, arith, lt-ltb, le-ltb, ltb-true, eqb-true}
use Rattle.std.proofs.lemmas.Bool.{or_left, or_right}
use Rattle.mixed_graph.specs.Vocabulary.{has, MixedGraph, IsMixedGraph}
use Rattle.mixed_graph.proofs.Masks.{has-zero}
use Rattle.m_separation.specs.declared.marks.Mark.{Mark}
use Rattle.m_separation.specs.declared.marks.Mark.TheVariants.{Out, Into, Both}
use Rattle.m_separation.specs.Vocabulary.{heads_first, heads_second}
use Rattle.finite_models.specs.Vocabulary.{FiniteModel, IsAssignment, IsWorld, solution, intervene, agree, weight_of, world_weight, sum_worlds, differ}
use Rattle.finite_models.proofs.Bools.{same_truth}
use Rattle.finite_models.proofs.Positive.{over-mono}
use Rattle.finite_models.proofs.SumLaws.{over-congr_within, over-base, over-term}
use Rattle.finite_models.proofs.Solutions.{agree_gives, agree_from}
use Rattle.walk_models.specs.Visits.{Walk, IsWalkIn, IsPlain, IsStrict, head_before, is_collider}
use Rattle.walk_models.specs.WalkModels.{is_both, bit_of, coin, has_coin, sent_on, sent_back, new_bit, walk_model}
use Rattle.walk_models.specs.Laws.{IsBelowIn, IsBelowSomewhere, event}
use Rattle.walk_models.proofs.Along.{coins}
use Rattle.walk_models.proofs.Lifted.{below_is_positive}
use Rattle.walk_models.proofs.Told.{agree_less, below_from}
use Rattle.walk_models.proofs.Solved.{sizes, light, weighs, heavy, heads, heads_world, heads_beyond, bit_under}
use Rattle.walk_models.proofs.WalkFits.{walk_fits, low_value, walk_two}
use Rattle.walk_models.proofs.Worlds.{solved, only_one, bit_is, silent, tossed, tossed_bit, tossed_solves, tossed_blank}

module _ (g : MixedGraph) (ok : IsMixedGraph g) (p : Walk) (walk : IsWalkIn g p) (plain : IsPlain p) (x y z : ℕ → Bool) (strict : IsStrict p z)
    (begins : IsTrue (x (p.at 0))) (ends : IsTrue (y (p.at p.steps)))
    (c : ℕ) (inside : c < p.steps) (turn : p.mark c ≢ Out) (forwards : (i : ℕ) → c < i → i < p.steps → p.mark i ≡ Out) (apart : (i : ℕ) → c < i → i ≤ p.steps
    → x (p.at i) ≡ false) where
  -- the coin that feeds the end of the walk
  abbrev last : ℕ
  last = cond (is_both (p.mark c)) c (suc c)

  abbrev many : ℕ
  many = suc (sum_worlds (walk_model g.vertices p last 1) (λ u. 1))

  abbrev m : FiniteModel
  m = walk_model g.vertices p last many

  some : 1 ≤ many
  some = omega arith

  abbrev nobody : ℕ → Bool
  nobody v = false

  abbrev s : ℕ → ℕ
  s = tossed p

  abbrev at : (ℕ → ℕ) → ℕ → ℕ
  at u = solved g ok p walk plain last many some nobody u

  fits_in : IsAssignment g.vertices m.size s
  fits_in v lt = low_value g ok p walk last many some (λ i. eqb v (p.at i) && not (is_collider p i)) (suc p.steps)

  last_low : last < suc p.steps
  last_low = go (is_both (p.mark c))
    where
      go : (q : Bool) → cond q c (suc c) < suc p.steps
      go true = omega (arith, inside)
      go false = omega (arith, inside)

  -- ---- under do(x) the end of the walk shows that coin
  module _ (u : ℕ → ℕ) where
    abbrev under : ℕ → ℕ
    under = solution (intervene m x s) u

    bit_x : (i : ℕ) → i ≤ p.steps → x (p.at i) ≡ false → bit_of p under i ≡ new_bit p under u i
    bit_x = bit_under g ok p walk last many some x s fits_in u

    -- the visit after the turn has the coin, and each one after it
    first_fed : bit_of p under (suc c) ≡ coin u last
    first_fed = bit_x (suc c) inside (apart (suc c) (omega arith) inside)
        ∙ go (p.mark c) (ltb (suc c) p.steps) (p.mark (suc c)) (bit_of p under c) (bit_of p under (suc (suc c))) (p.free (suc c)) (plain (suc c)) refl
        (λ l. forwards (suc c) (omega arith) (ltb-true (suc c) p.steps l))
      where
        go : (k : Mark) (q : Bool) (t : Mark) (a e f : Bool) → f ≡ false → p.mark c ≡ k → (q ≡ true → t ≡ Out)
            → differ (sent_on k a (coin u c)) (differ (q && sent_back t e (coin u (suc c)))
            ((not (q && heads_first t) && (not (heads_second k) || f)) && coin u (suc c))) ≡ coin u (cond (is_both k) c (suc c))
        go Out q t a e f n i h = absurd (turn i)
        go Into true Out a e f n i h = refl
        go Into true Into a e f n i h = let r = h refl in absurd (cc)
        go Into true Both a e f n i h = let r = h refl in absurd (cc)
        go Into false t a e f n i h = refl
        go Both true Out a e false n i h = same (coin u c)
          where
            same : (b : Bool) → differ b (differ false false) ≡ b
            same true = refl
            same false = refl
        go Both true Into a e f n i h = let r = h refl in absurd (cc)
        go Both true Both a e f n i h = let r = h refl in absurd (cc)
        go Both false t a e false n i h = same (coin u c)
          where
            same : (b : Bool) → differ b (differ false false) ≡ b
            same true = refl
            same false = refl
        go k q t a e true n i h = absurd (grind (arith, n))

    fed : (d i : ℕ) → i ≡ suc c + d → i ≤ p.steps → bit_of p under i ≡ coin u last
    fed zero i e le = ap (bit_of p under) (let q : i ≡ suc c = omega (arith, e) in q) ∙ first_fed
    fed (suc d) zero e le = absurd (omega (arith, e))
    fed (suc d) (suc i) e le = bit_x (suc i) le (apart (suc i) (omega (arith, e)) le)
        ∙ ap (λ k. differ (sent_on k (bit_of p under i) (coin u i))
        (differ (ltb (suc i) p.steps && sent_back (p.mark (suc i)) (bit_of p under (suc (suc i))) (coin u (suc i)))
        ((not (ltb (suc i) p.steps && heads_first (p.mark (suc i))) && (not (heads_second k) || p.free (suc i))) && coin u (suc i))))
        (forwards i (omega (arith, e)) le)
        ∙ go (ltb (suc i) p.steps) (p.mark (suc i)) (bit_of p under i) (bit_of p under (suc (suc i))) (p.free (suc i)) (plain (suc i))
        (λ l. forwards (suc i) (omega (arith, e)) (ltb-true (suc i) p.steps l))
        ∙ fed d i (omega (arith, e)) (omega (arith, le))
      where
        same : (b : Bool) → differ b (differ false false) ≡ b
        same true = refl
        same false = refl

        go : (q : Bool) (t : Mark) (a e f : Bool) → f ≡ false → (q ≡ true → t ≡ Out)
            → differ a (differ (q && sent_back t e (coin u (suc i))) ((not (q && heads_first t) && (not true || f)) && coin u (suc i))) ≡ a
        go true Out a e false n h = same a
        go true Into a e f n h = let r = h refl in absurd (cc)
        go true Both a e f n h = let r = h refl in absurd (cc)
        go false t a e false n h = same a
        go q t a e true n h = absurd (grind (arith, n))

  end_one : has (s (p.at p.steps)) p.steps ≡ true
  end_one = tossed_bit p p.steps (omega arith)
      ∙ go (head_before p p.steps) (ltb p.steps p.steps) (le-ltb p.steps p.steps (omega arith))
    where
      go : (h q : Bool) → q ≡ false → not (h && (q && heads_first (p.mark p.steps))) ≡ true
      go true false e = refl
      go false q e = refl
      go h true e = absurd (grind (arith, e))

  few : weight_of m x y s < many
  few = let le : weight_of m x y s ≤ sum_worlds (walk_model g.vertices p last 1) (λ u. 1) =
      over-mono (λ j. true) m.values m.causes (λ u. cond (agree g.vertices y (under u) s) (world_weight m u) 0) (λ u. 1) (λ j. 0)
      (λ u. go u (agree g.vertices y (under u) s) refl) in omega (arith, le)
    where
      go : (u : ℕ → ℕ) (q : Bool) → agree g.vertices y (under u) s ≡ q → cond q (world_weight m u) 0 ≤ 1
      go u false e = omega arith
      go u true e =
          rw (light g.vertices p last many u (sym (fed u (p.steps - suc c) p.steps (omega (arith, inside)) (omega arith))
          ∙ ap (λ r. has r p.steps) (agree_gives g.vertices y (under u) s e (p.at p.steps) (walk.vertex p.steps (omega arith)) ends) ∙ end_one)) (omega arith)

  -- ---- observed: z is 0 in s
  zero_in_s : (v : ℕ) → z v ≡ true → s v ≡ 0
  zero_in_s = tossed_blank p z strict

  zeros : (v : ℕ) → v < g.vertices → at (λ j. 0) v ≡ 0
  zeros = silent g ok p walk plain last many some nobody (λ j. 0) (λ j le. refl)

  heavy_z : many ≤ weight_of m nobody z s
  heavy_z = omega (
    arith,
    over-term (λ j. true) m.values m.causes (λ u. cond (agree g.vertices z (at u) s) (world_weight m u) 0) (λ j. 0) (λ j lt e. sizes g.vertices p last many j),
    (let h : many ≤ cond (agree g.vertices z (at (λ j. 0)) s) (world_weight m (λ j. 0)) 0 =
        rw (agree_from g.vertices z (at (λ j. 0)) s (λ v lt i. zeros v lt ∙ sym (zero_in_s v i))) (heavy g.vertices p last many some last_low) in h),
  )

  module _ (u : ℕ → ℕ) (world : IsWorld m u) (e : agree g.vertices (λ v. x v || z v) (at u) s ≡ true) where
    new_at : (i : ℕ) → i ≤ p.steps → bit_of p (at u) i ≡ new_bit p (at u) u i
    new_at i le = bit_is g ok p walk plain last many some nobody u i le refl

    blank : (i : ℕ) → i ≤ p.steps → is_collider p i ≡ true → bit_of p (at u) i ≡ false
    blank i le f =
        ap (λ r. has r i) (agree_gives g.vertices (λ v. x v || z v) (at u) s e (p.at i) (walk.vertex i le)
        (or_right (x (p.at i)) (z (p.at i)) (strict i le ∙ f)) ∙ zero_in_s (p.at i) (strict i le ∙ f)) ∙ has-zero i

    start_one : bit_of p (at u) 0 ≡ true
    start_one = ap (λ r. has r 0) (agree_gives g.vertices (λ v. x v || z v) (at u) s e (p.at 0) (walk.vertex 0 (omega arith))
        (or_left (x (p.at 0)) (z (p.at 0)) begins))
        ∙ tossed_bit p 0 (omega arith)

    -- so it is the world of ones
    all_ones : (j : ℕ) → j < suc p.steps → u j ≡ heads p j
    all_ones j lt = rw (lt-ltb j (suc p.steps) lt) (go (has_coin p j) refl (world j lt))
      where
        go : (q : Bool) → has_coin p j ≡ q → u j < cond q 2 1 → u j ≡ cond q 1 0
        go true f under_two =
            eqb-true (u j) 1 (coins p (at u) u plain (λ i il. new_at i (omega (arith, il))) (λ i il. blank i (omega (arith, il)))
            (new_at p.steps (omega arith)) j (omega (arith, lt)) f ∙ start_one)
        go false f under_one = omega (arith, under_one)

    is_s : (v : ℕ) → v < g.vertices → at u v ≡ s v
    is_s = only_one g ok p walk plain last many some nobody u s
        (λ v lt. tossed_solves g ok p walk plain last many some nobody (λ i le. refl) v lt
        ∙ (walk_fits g ok p walk last many some).reads v lt s s (heads p) u (λ q a. refl) (λ j jl k. sym (all_ones j jl)))

  sure_z : weight_of m nobody (λ v. x v || z v) s ≡ weight_of m nobody (λ v. x v || (y v || z v)) s
  sure_z = over-congr_within (λ j. true) m.values m.causes
      (λ u. cond (agree g.vertices (λ v. x v || z v) (at u) s) (world_weight m u) 0)
      (λ u. cond (agree g.vertices (λ v. x v || (y v || z v)) (at u) s) (world_weight m u) 0) (λ j. 0)
      (λ u world out. ap (λ q. cond q (world_weight m u) 0)
      (same_truth (agree g.vertices (λ v. x v || z v) (at u) s) (agree g.vertices (λ v. x v || (y v || z v)) (at u) s)
      (λ e. agree_from g.vertices (λ v. x v || (y v || z v)) (at u) s (λ v lt i. is_s u (λ j jl. world j jl refl) e v lt))
      (λ e. agree_less g.vertices (λ v. x v || z v) (λ v. x v || (y v || z v)) (at u) s (λ v i. weaker (x v) (y v) (z v) i) e)))
    where
      weaker : (a b d : Bool) → (a || d) ≡ true → (a || (b || d)) ≡ true
      weaker true b d e = refl
      weaker false true d e = refl
      weaker false false d e = e

  some_one : 1 ≤ weight_of m nobody (λ v. x v || (y v || z v)) s
  some_one = omega (
    arith,
    over-base (λ j. true) m.values m.causes (λ u. cond (agree g.vertices (λ v. x v || (y v || z v)) (at u) s) (world_weight m u) 0)
        (heads p) (λ j. 0)
        (λ j out. heads_beyond p j (let n = λ (l : j < suc p.steps). out l refl in grind (arith, n))),
    over-term (λ j. true) m.values m.causes (λ u. cond (agree g.vertices (λ v. x v || (y v || z v)) (at u) s) (world_weight m u) 0)
        (heads p)
        (λ j lt e. heads_world g.vertices p last many j lt),
    (let h : 1 ≤ cond (agree g.vertices (λ v. x v || (y v || z v)) (at (heads p)) s)
        (world_weight m (heads p)) 0 =
        rw (agree_from g.vertices (λ v. x v || (y v || z v)) (at (heads p)) s
        (λ v lt i. only_one g ok p walk plain last many some nobody (heads p) s
        (tossed_solves g ok p walk plain last many some nobody (λ i le. refl)) v lt))
        (weighs g.vertices p last many some (heads p)) in h),
  )

  exceeds : IsBelowIn m s (event x y) (event nobody (λ u. x u || z u)) (event nobody (λ u. x u || (y u || z u))) (event nobody z)
  exceeds = record {
    within = fits_in;
    below = below_from (weight_of m x y s) (weight_of m nobody (λ u. x u || z u) s) (weight_of m nobody (λ u. x u || (y u || z u)) s) (weight_of m nobody z s)
        (omega (arith, few, heavy_z)) sure_z some_one;
  }

  pub late_visits_exceed : IsBelowSomewhere g (event x y) (event nobody (λ u. x u || z u)) (event nobody (λ u. x u || (y u || z u))) (event nobody z)
  late_visits_exceed = below_is_positive g ok m (walk_fits g ok p walk last many some) (walk_two g.vertices p last many) s (event x y)
      (event nobody (λ u. x u || z u)) (event nobody (λ u. x u || (y u || z u))) (event nobody z) exceeds
