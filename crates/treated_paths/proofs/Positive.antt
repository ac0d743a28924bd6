-- The two models are positive: noise shows each assignment.
use Rattle.std.proofs.Common.{ℕ, zero, suc, ◌+◌, ◌-◌, ◌*◌, ◌^◌, ◌≡◌, ◌<◌, ◌≤◌, Bool, true, false, cond, eqb, ltb, ◌&&◌, refl, sym, ap, ap₂, ◌∙◌, arith}
use Rattle.std.proofs.Common.{lt-ltb, le-ltb, ltb-true, eqb-true, ne_eqb}
use Rattle.mixed_graph.specs.Vocabulary.{has, MixedGraph}
use Rattle.finite_models.specs.Vocabulary.{product_below, FiniteModel, IsAssignment, IsPositiveModel, agree, rounds, solution, world_weight, event_weight}
use Rattle.finite_models.proofs.Bools.{and_first, and_second}
use Rattle.finite_models.proofs.Solutions.{agree_from}
use Rattle.finite_models.proofs.SumLaws.{over-base, over-term, eqb-refl}
use Rattle.treated_paths.proofs.Bits.{mask_same, mask_own}
use Rattle.treated_paths.proofs.Models.{coin, calm_bit, new_bit, weight_in, path_model}

-- a product of positive numbers is positive
pub product_some : (n : ℕ) (f : ℕ → ℕ) → ((i : ℕ) → i < n → 1 ≤ f i) → 1 ≤ product_below n f
product_some zero f h = omega arith
product_some (suc n) f h = at (product_below n f) (f n) (product_some n f (λ i lt. h i (omega arith))) (h n (omega arith))
  where
    at : (p q : ℕ) → 1 ≤ p → 1 ≤ q → 1 ≤ p * q
    at p q a b = grind arith

module _ (g : MixedGraph) (x : ℕ → Bool) (k : ℕ) (w : ℕ → ℕ) (first : Bool) (many : ℕ) (some : 1 ≤ many) where
  abbrev m : FiniteModel
  m = path_model g x k w first many

  pub weight_some : (j i : ℕ) → 1 ≤ weight_in g x k w many j i
  weight_some j i = go (ltb j g.vertices && eqb i 0)
    where
      go : (b : Bool) → 1 ≤ cond b many 1
      go true = some
      go false = omega arith

  module _ (s : ℕ → ℕ) (within : IsAssignment g.vertices (λ v. 2 ^ suc (suc k)) s) where
    -- the noises that show s, and the last coin as the treatment's own bit
    abbrev world : ℕ → ℕ
    world j = cond (ltb j g.vertices) (suc (s j)) (cond (eqb j (g.vertices + k) && has (s (w (suc k))) (suc k)) 1 0)

    at_noise : (v : ℕ) → v < g.vertices → world v ≡ suc (s v)
    at_noise v lt = rw (lt-ltb v g.vertices lt) refl

    at_coin : coin g x k w world k ≡ has (s (w (suc k))) (suc k)
    at_coin = rw (le-ltb (g.vertices + k) g.vertices (omega arith), eqb-refl (g.vertices + k)) (back (has (s (w (suc k))) (suc k)))
      where
        back : (b : Bool) → eqb (cond b 1 0) 1 ≡ b
        back true = refl
        back false = refl

    bit_shown : (t : ℕ → ℕ) (v : ℕ) → v < g.vertices → (i : ℕ) → new_bit g x k w first t world v i ≡ has (s v) i
    bit_shown t v lt i = go (eqb v (w (suc k)) && eqb i (suc k)) refl
      where
        noise : cond (eqb (world v) 0) (calm_bit g x k w first t world v i) (has (world v - 1) i) ≡ has (s v) i
        noise = ap (λ a. cond (eqb a 0) (calm_bit g x k w first t world v i) (has (a - 1) i)) (at_noise v lt)
            ∙ rw (ne_eqb (suc (s v)) 0 (omega arith)) (ap (λ a. has a i) (let e : suc (s v) - 1 ≡ s v = omega arith in e))

        go : (b : Bool) → (eqb v (w (suc k)) && eqb i (suc k)) ≡ b
            → cond b (coin g x k w world k) (cond (eqb (world v) 0) (calm_bit g x k w first t world v i) (has (world v - 1) i)) ≡ has (s v) i
        go true e =
            at_coin ∙ ap₂ (λ p q. has (s p) q) (sym (eqb-true v (w (suc k)) (and_first (eqb v (w (suc k))) (eqb i (suc k)) e)))
            (sym (eqb-true i (suc k) (and_second (eqb v (w (suc k))) (eqb i (suc k)) e)))
        go false e = noise

    shown : (i v : ℕ) → v < g.vertices → rounds m (suc i) world v ≡ s v
    shown i v lt = mask_same (new_bit g x k w first (rounds m i world) world v) (has (s v)) (suc (suc k)) (λ b bl. bit_shown (rounds m i world) v lt b)
        ∙ mask_own (s v) (suc (suc k)) (within v lt)

    in_range : (j : ℕ) → j < g.vertices + suc k → true ≡ true → world j < m.values j
    in_range j lt e = go (ltb j g.vertices) refl
      where
        two : (b : Bool) → cond b 1 0 < 2
        two true = omega arith
        two false = omega arith

        go : (b : Bool) → ltb j g.vertices ≡ b → cond b (suc (s j)) (cond (eqb j (g.vertices + k) && has (s (w (suc k))) (suc k)) 1 0)
            < cond b (2 ^ suc (suc k) + 1) 2
        go true f = let h = within j (ltb-true j g.vertices f) in omega (arith, h)
        go false f = two (eqb j (g.vertices + k) && has (s (w (suc k))) (suc k))

    beyond : (j : ℕ) → (j < g.vertices + suc k → true ≡ true → ⊥) → world j ≡ 0
    beyond j out = go (ltb j g.vertices) (eqb j (g.vertices + k)) refl refl
      where
        go : (b c : Bool) → ltb j g.vertices ≡ b → eqb j (g.vertices + k) ≡ c → cond b (suc (s j)) (cond (c && has (s (w (suc k))) (suc k)) 1 0) ≡ 0
        go true c e f = absurd (out (let l = ltb-true j g.vertices e in omega (arith, l)) refl)
        go false true e f = absurd (out (let q = eqb-true j (g.vertices + k) f in omega (arith, q)) refl)
        go false false e f = refl

    counted : (ℕ → ℕ) → ℕ
    counted u = cond (agree g.vertices (λ v. true) (solution m u) s) (world_weight m u) 0

    counts : 1 ≤ counted world
    unfolding counted
    counts = rw (agree_from g.vertices (λ v. true) (solution m world) s (λ v lt e. at_end g.vertices v lt refl))
        (product_some (g.vertices + suc k) (λ j. weight_in g x k w many j (world j)) (λ j lt. weight_some j (world j)))
      where
        at_end : (i v : ℕ) → v < g.vertices → i ≡ g.vertices → rounds m i world v ≡ s v
        at_end zero v lt e = absurd (omega (arith, lt, e))
        at_end (suc i) v lt e = shown i v lt

    pub has_weight : 1 ≤ event_weight m (λ v. true) s
    unfolding counted
    has_weight = omega (
      arith,
      counts,
      over-term (λ j. true) m.values (g.vertices + suc k) counted world in_range,
      over-base (λ j. true) m.values (g.vertices + suc k) counted world (λ j. 0) beyond,
    )

  pub path_positive : IsPositiveModel m
  path_positive s within = has_weight s within
