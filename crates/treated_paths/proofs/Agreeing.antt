-- The two models agree on what is observed: the last coin is the treatment's own bit, and with the other coins flipped where it is 1 each vertex gets in the
-- second model what it gets in the first.
use Rattle.std.proofs.Common.{ℕ, zero, suc, ◌+◌, ◌-◌, ◌*◌, ◌^◌, ◌≡◌, ◌<◌, ◌≤◌, Bool, true, false, cond, eqb, ltb, not, ◌&&◌, refl, sym, ap, ap₂, ◌∙◌}
use Rattle.std.proofs.Common.{arith, lt-ltb, le-ltb, ltb-true, ltb-false, eqb-true}
use Rattle.mixed_graph.specs.Vocabulary.{has, MixedGraph, IsMixedGraph}
use Rattle.finite_models.specs.Vocabulary.{AgreeObserved, FiniteModel, event_weight, world_weight, total, differ, product_below}
use Rattle.finite_models.proofs.Factors.{checks, weight_by_checks}
use Rattle.finite_models.proofs.Following.{follows_of}
use Rattle.finite_models.proofs.Indicators.{number}
use Rattle.finite_models.proofs.Ranks.{with_rank}
use Rattle.finite_models.proofs.SumLaws.{over-congr_within, product_below-congr, eqb-refl}
use Rattle.counter_models.proofs.Counter.{product_zero}
use Rattle.counter_models.proofs.Counting.{flip, over-flip}
use Rattle.counter_models.proofs.ParityLaws.{differ-self}
use Rattle.treated_paths.proofs.Bits.{mask_same, mask_has}
use Rattle.treated_paths.proofs.Fits.{IsPath, cond_same, unequal, path_fits}
use Rattle.treated_paths.proofs.Models.{coin, coin_in, before, own, carried, calm_bit, new_bit, weight_in, path_model}

-- a coin that is flipped where b holds has the other bit there
flipped_bit : (b : Bool) (a : ℕ) → a < 2 → eqb (cond b (1 - a) a) 1 ≡ differ (eqb a 1) b
flipped_bit true zero lt = refl
flipped_bit true (suc zero) lt = refl
flipped_bit false zero lt = refl
flipped_bit false (suc zero) lt = refl
flipped_bit b (suc (suc a)) lt = absurd (omega (arith, lt))

-- what is flipped twice is as before
twice : (a c b : Bool) → differ (differ a b) (differ c b) ≡ differ a c
twice true true true = refl
twice true true false = refl
twice true false true = refl
twice true false false = refl
twice false true true = refl
twice false true false = refl
twice false false true = refl
twice false false false = refl

and_none : (a : Bool) → (a && false) ≡ false
and_none true = refl
and_none false = refl

module _ (g : MixedGraph) (ok : IsMixedGraph g) (x : ℕ → Bool) (k : ℕ) (w : ℕ → ℕ) (path : IsPath g k w) (many : ℕ) (some : 1 ≤ many) where
  abbrev m₁ : FiniteModel
  m₁ = path_model g x k w true many

  abbrev m₂ : FiniteModel
  m₂ = path_model g x k w false many

  module _ (s : ℕ → ℕ) where
    -- the treatment's own bit
    abbrev bit : Bool
    bit = has (s (w (suc k))) (suc k)

    -- the coins but the last, where that bit is 1
    abbrev flips : ℕ → Bool
    flips j = (not (ltb j g.vertices) && ltb j (g.vertices + k)) && bit

    abbrev turned : (ℕ → ℕ) → ℕ → ℕ
    turned = flip flips

    noise_kept : (u : ℕ → ℕ) (v : ℕ) → v < g.vertices → turned u v ≡ u v
    noise_kept u v lt = rw (lt-ltb v g.vertices lt) refl

    last_kept : (u : ℕ → ℕ) → coin g x k w (turned u) k ≡ coin g x k w u k
    last_kept u = rw (le-ltb (g.vertices + k) g.vertices (omega arith), le-ltb (g.vertices + k) (g.vertices + k) (omega arith)) refl

    module _ (u : ℕ → ℕ) (box : (j : ℕ) → j < g.vertices + suc k → u j < m₁.values j) where
      coin_low : (i : ℕ) → i < suc k → u (g.vertices + i) < 2
      coin_low i lt = let h = box (g.vertices + i) (omega (arith, lt)) in rw (le-ltb (g.vertices + i) g.vertices (omega arith)) at h

      coin_turned : (i : ℕ) → i < k → coin g x k w (turned u) i ≡ differ (coin g x k w u i) bit
      coin_turned i lt =
          rw (le-ltb (g.vertices + i) g.vertices (omega arith), lt-ltb (g.vertices + i) (g.vertices + k) (omega (arith, lt)))
          (flipped_bit bit (u (g.vertices + i)) (coin_low i (omega (arith, lt))))

      module _ (last : coin g x k w u k ≡ bit) where
        coin_same : (i : ℕ) → i < suc k → coin_in g x k w false (turned u) i ≡ differ (coin_in g x k w true u i) bit
        coin_same i lt = go (ltb i k) refl
          where
            go : (b : Bool) → ltb i k ≡ b → (b && coin g x k w (turned u) i) ≡ differ (coin g x k w u i) bit
            go true e = coin_turned i (ltb-true i k e)
            go false e =
                let same : i ≡ k = (let ge = ltb-false i k e in omega (arith, lt, ge)) in
                sym (ap (λ c. differ (coin g x k w u c) bit) same ∙ ap (λ c. differ c bit) last ∙ differ-self bit)

        before_same : (i : ℕ) → i < suc k → before g x k w false s (turned u) i ≡ differ (before g x k w true s u i) bit
        before_same zero lt = sym (differ-self bit)
        before_same (suc i) lt = coin_same i (omega (arith, lt))

        own_same : (i : ℕ) → i < suc k → own g x k w false s (turned u) i ≡ own g x k w true s u i
        own_same i lt = ap₂ differ (before_same i lt) (coin_same i lt) ∙ twice (before g x k w true s u i) (coin_in g x k w true u i) bit

      -- where a vertex has equal own bits in both, it has one value
      value_same : (v : ℕ) → v < g.vertices → ((i : ℕ) → i < suc k → v ≡ w i → own g x k w false s (turned u) i ≡ own g x k w true s u i)
          → m₂.mechanism v s (turned u) ≡ m₁.mechanism v s u
      value_same v lt same = mask_same (new_bit g x k w false s (turned u) v) (new_bit g x k w true s u v) (suc (suc k)) at
        where
          calm : (i : ℕ) → i < suc (suc k) → calm_bit g x k w false s (turned u) v i ≡ calm_bit g x k w true s u v i
          calm i il =
              cond_same (eqb i (suc k)) false false (cond (eqb v (w i)) (own g x k w false s (turned u) i) (carried g x k w s v i))
              (cond (eqb v (w i)) (own g x k w true s u i) (carried g x k w s v i)) (λ e. refl)
              (λ ne. cond_same (eqb v (w i)) (own g x k w false s (turned u) i) (own g x k w true s u i) (carried g x k w s v i) (carried g x k w s v i)
              (λ e. same i (let d = unequal i (suc k) ne in omega (arith, il)) (eqb-true v (w i) e)) (λ e. refl))

          at : (i : ℕ) → i < suc (suc k) → new_bit g x k w false s (turned u) v i ≡ new_bit g x k w true s u v i
          at i il = cond_same (eqb v (w (suc k)) && eqb i (suc k)) (coin g x k w (turned u) k) (coin g x k w u k)
              (cond (eqb (turned u v) 0) (calm_bit g x k w false s (turned u) v i) (has (turned u v - 1) i))
              (cond (eqb (u v) 0) (calm_bit g x k w true s u v i) (has (u v - 1) i))
              (λ e. last_kept u)
              (λ e. ap (λ a. cond (eqb a 0) (calm_bit g x k w false s (turned u) v i) (has (a - 1) i)) (noise_kept u v lt)
              ∙ ap (λ b. cond (eqb (u v) 0) b (has (u v - 1) i)) (calm i il))

      end_low : w (suc k) < g.vertices
      end_low = ok.tail_below (w (suc k)) (w 0) path.child

      end_same : m₂.mechanism (w (suc k)) s (turned u) ≡ m₁.mechanism (w (suc k)) s u
      end_same = value_same (w (suc k)) end_low (λ i il e. absurd (path.off i il (sym e)))

      -- where the treatment has its value, the last coin is its own bit
      last_read : s (w (suc k)) ≡ m₁.mechanism (w (suc k)) s u → coin g x k w u k ≡ bit
      last_read e = sym (ap (λ a. has a (suc k)) e ∙ mask_has (new_bit g x k w true s u (w (suc k))) (suc (suc k)) (suc k) (omega arith)
          ∙ rw (eqb-refl (w (suc k)), eqb-refl (suc k)) refl)

      checks_same : checks m₁ (λ v. true) s u ≡ checks m₂ (λ v. true) s (turned u)
      checks_same = go (eqb (s (w (suc k))) (m₁.mechanism (w (suc k)) s u)) refl
        where
          first : ℕ → ℕ
          first v = number (eqb (s v) (m₁.mechanism v s u))

          second : ℕ → ℕ
          second v = number (eqb (s v) (m₂.mechanism v s (turned u)))

          go : (b : Bool) → eqb (s (w (suc k))) (m₁.mechanism (w (suc k)) s u) ≡ b → product_below g.vertices first ≡ product_below g.vertices second
          go true e =
              let last = last_read (eqb-true (s (w (suc k))) (m₁.mechanism (w (suc k)) s u) e) in
              product_below-congr g.vertices first second
              (λ v lt. ap (λ r. number (eqb (s v) r)) (sym (value_same v lt (λ i il q. own_same last i il))))
          go false e =
              product_zero g.vertices first (w (suc k)) end_low (ap number e)
              ∙ sym (product_zero g.vertices second (w (suc k)) end_low (ap number (ap (eqb (s (w (suc k)))) end_same ∙ e)))

      weights_same : world_weight m₁ u ≡ world_weight m₂ (turned u)
      weights_same = product_below-congr (g.vertices + suc k) (λ j. weight_in g x k w many j (u j)) (λ j. weight_in g x k w many j (turned u j))
          (λ j lt. go j (ltb j g.vertices) refl)
        where
          go : (j : ℕ) (b : Bool) → ltb j g.vertices ≡ b → cond (b && eqb (u j) 0) many 1 ≡ cond (b && eqb (turned u j) 0) many 1
          go j true e = ap (λ a. cond (eqb a 0) many 1) (sym (noise_kept u j (ltb-true j g.vertices e)))
          go j false e = refl

    flip_coins : (j : ℕ) → flips j ≡ true → (j < g.vertices + suc k) × (true ≡ true) × (m₂.values j ≡ 2)
    flip_coins j e = go (ltb j g.vertices) (ltb j (g.vertices + k)) refl refl e
      where
        go : (b c : Bool) → ltb j g.vertices ≡ b → ltb j (g.vertices + k) ≡ c → ((not b && c) && bit) ≡ true
            → (j < g.vertices + suc k) × (true ≡ true) × (cond b (2 ^ suc (suc k) + 1) 2 ≡ 2)
        go true c p q h = absurd (grind (arith, h))
        go false true p q h = (let l = ltb-true j (g.vertices + k) q in omega (arith, l), refl, refl)
        go false false p q h = absurd (grind (arith, h))

    weight_same : event_weight m₁ (λ v. true) s ≡ event_weight m₂ (λ v. true) s
    weight_same = with_rank g ok (event_weight m₁ (λ v. true) s) (event_weight m₂ (λ v. true) s)
        (λ rank ranked.
        weight_by_checks g m₁ rank ranked (follows_of g m₁ (path_fits g ok x k w path true many some)) (λ v. true) s (λ p v a i. refl)
        ∙ over-congr_within (λ j. true) m₁.values (g.vertices + suc k) (λ u. world_weight m₁ u * checks m₁ (λ v. true) s u)
        (λ u. world_weight m₂ (turned u) * checks m₂ (λ v. true) s (turned u)) (λ j. 0)
        (λ u inside base. let box = λ (j : ℕ) (lt : j < g.vertices + suc k). inside j lt refl in
        ap₂ (λ a b. a * b) (weights_same u box) (checks_same u box))
        ∙ over-flip (λ j. true) m₂.values (g.vertices + suc k) (λ u. world_weight m₂ u * checks m₂ (λ v. true) s u) flips (λ j. 0) flip_coins
        ∙ sym (weight_by_checks g m₂ rank ranked (follows_of g m₂ (path_fits g ok x k w path false many some)) (λ v. true) s (λ p v a i. refl)))

  pub paths_agree : AgreeObserved m₁ m₂
  paths_agree = record {
    vertices = refl;
    sizes = λ v lt. refl;
    weights = λ s within. ap (λ r. r * total m₂) (weight_same s);
  }
