-- The two models fit the graph.
use Rattle.std.proofs.Common.{ℕ, zero, suc, ◌+◌, ◌-◌, ◌^◌, ◌≡◌, ◌≢◌, ◌<◌, ◌≤◌, ◌⊎◌, inl, inr, Bool, true, false, cond, eqb, ltb, not, ◌&&◌, ◌||◌}
use Rattle.std.proofs.Common.{refl, sym, ap, ap₂, ◌∙◌, IsTrue, arith, le-ltb, lt-ltb, ltb-true, ltb-false, eqb-true}
use Rattle.std.proofs.lemmas.Bool.{or_cases}
use Rattle.std.proofs.lemmas.Nat.{pow_pos}
use mathlib.Core.Path.{fun_ext}
use Rattle.mixed_graph.specs.Vocabulary.{has, MixedGraph, IsMixedGraph}
use Rattle.finite_models.specs.Vocabulary.{sum_below, FiniteModel, Fits, differ}
use Rattle.finite_models.proofs.Bools.{and_first}
use Rattle.finite_models.proofs.Factors.{any_below}
use Rattle.finite_models.proofs.SumLaws.{eqb-refl}
use Rattle.finite_models.proofs.Totals.{sum_below-positive}
use Rattle.treated_paths.proofs.Bits.{mask_same, mask_low}
use Rattle.treated_paths.proofs.Models.{coin, before, own, carried, calm_bit, new_bit, path_model}

-- equal choices of equal things
pub cond_same : (b : Bool) (p p' q q' : Bool) → (b ≡ true → p ≡ p') → (b ≡ false → q ≡ q') → cond b p q ≡ cond b p' q'
cond_same true p p' q q' h k = h refl
cond_same false p p' q q' h k = k refl

-- numbers that are told apart differ
pub unequal : (i j : ℕ) → eqb i j ≡ false → i ≡ j → ⊥
unequal i j ne q = grind (arith, q, ne)

-- a path of bidirected edges, the last of which leads from visit k to the treatment; the treatment is a parent of the first visit
pub record IsPath (g : MixedGraph) (k : ℕ) (w : ℕ → ℕ) : Type 0 where
  pub edge : (i : ℕ) → i < suc k → g.both (w i) (w (suc i)) ≡ true
  pub off : (i : ℕ) → i < suc k → w i ≡ w (suc k) → ⊥
  pub child : g.arrow (w (suc k)) (w 0) ≡ true

module _ (g : MixedGraph) (ok : IsMixedGraph g) (x : ℕ → Bool) (k : ℕ) (w : ℕ → ℕ) (path : IsPath g k w) (first : Bool) (many : ℕ) (some : 1 ≤ many) where
  abbrev m : FiniteModel
  m = path_model g x k w first many

  behind : (i : ℕ) → ltb (g.vertices + i) g.vertices ≡ false
  behind i = le-ltb (g.vertices + i) g.vertices (omega arith)

  offset : (i : ℕ) → (g.vertices + i) - g.vertices ≡ i
  offset i = omega arith

  -- ---- who is served
  noise_serves : (v : ℕ) → v < g.vertices → m.serves v v ≡ true
  noise_serves v lt = rw (lt-ltb v g.vertices lt, eqb-refl v) refl

  near_serves : (i : ℕ) → m.serves (g.vertices + i) (w i) ≡ true
  near_serves i = rw (behind i, offset i, eqb-refl (w i)) refl

  far_serves : (i : ℕ) → m.serves (g.vertices + i) (w (suc i)) ≡ true
  far_serves i = rw (behind i, offset i, eqb-refl (w (suc i))) (right (eqb (w (suc i)) (w i)))
    where
      right : (b : Bool) → (b || true) ≡ true
      right true = refl
      right false = refl

  -- a vertex that cause j serves is that of the noise, or an end of the edge
  Served : (j v : ℕ) → Type 0
  Served j v = ((v ≡ j) × (j < g.vertices)) ⊎ ((g.vertices ≤ j) × (j - g.vertices < suc k) × ((v ≡ w (j - g.vertices)) ⊎ (v ≡ w (suc (j - g.vertices)))))

  served : (j v : ℕ) → j < g.vertices + suc k → m.serves j v ≡ true → Served j v
  unfolding Served
  served j v lt = go (ltb j g.vertices) refl
    where
      ends : (i : ℕ) → (eqb v (w i) ≡ true) ⊎ (eqb v (w (suc i)) ≡ true) → (v ≡ w i) ⊎ (v ≡ w (suc i))
      ends i (inl e) = inl (eqb-true v (w i) e)
      ends i (inr e) = inr (eqb-true v (w (suc i)) e)

      go : (b : Bool) → ltb j g.vertices ≡ b → cond b (eqb v j) (eqb v (w (j - g.vertices)) || eqb v (w (suc (j - g.vertices)))) ≡ true
          → ((v ≡ j) × (j < g.vertices)) ⊎ ((g.vertices ≤ j) × (j - g.vertices < suc k) × ((v ≡ w (j - g.vertices)) ⊎ (v ≡ w (suc (j - g.vertices)))))
      go true e s = inl (eqb-true v j s, ltb-true j g.vertices e)
      go false e s = let ge = ltb-false j g.vertices e in
          inr (ge, omega (arith, lt, ge), ends (j - g.vertices) (or_cases (eqb v (w (j - g.vertices))) (eqb v (w (suc (j - g.vertices)))) s))

  near_low : (i : ℕ) → i < suc k → w i < g.vertices
  near_low i lt = ok.both_below (w i) (w (suc i)) (path.edge i lt)

  far_low : (i : ℕ) → i < suc k → w (suc i) < g.vertices
  far_low i lt = ok.both_below (w (suc i)) (w i) (ok.symmetric (w i) (w (suc i)) (path.edge i lt))

  child_low : (j v : ℕ) → j < g.vertices + suc k → m.serves j v ≡ true → v < g.vertices
  unfolding Served
  child_low j v lt e = go (served j v lt e)
    where
      at : j - g.vertices < suc k → (v ≡ w (j - g.vertices)) ⊎ (v ≡ w (suc (j - g.vertices))) → v < g.vertices
      at l (inl p) = rw p (near_low (j - g.vertices) l)
      at l (inr p) = rw p (far_low (j - g.vertices) l)

      go : Served j v → v < g.vertices
      go (inl a) = rw a.0 a.1
      go (inr b) = at b.1 b.2

  together : (j u v : ℕ) → j < g.vertices + suc k → m.serves j u ≡ true → m.serves j v ≡ true → u ≢ v → IsTrue (g.both u v)
  unfolding Served
  together j u v lt e f ne = go (served j u lt e) (served j v lt f)
    where
      at : (i : ℕ) → i < suc k → (u ≡ w i) ⊎ (u ≡ w (suc i)) → (v ≡ w i) ⊎ (v ≡ w (suc i)) → IsTrue (g.both u v)
      at i l (inl p) (inl q) = absurd (ne (p ∙ sym q))
      at i l (inl p) (inr q) = rw (p, q) (path.edge i l)
      at i l (inr p) (inl q) = rw (p, q) (ok.symmetric (w i) (w (suc i)) (path.edge i l))
      at i l (inr p) (inr q) = absurd (ne (p ∙ sym q))

      go : Served j u → Served j v → IsTrue (g.both u v)
      go (inl a) (inl b) = absurd (ne (a.0 ∙ sym b.0))
      go (inl a) (inr b) = absurd (omega (arith, a.1, b.0))
      go (inr a) (inl b) = absurd (omega (arith, b.1, a.0))
      go (inr a) (inr b) = at (j - g.vertices) a.1 a.2 b.2

  some_child : (j : ℕ) → (v : ℕ) × IsTrue (m.serves j v)
  some_child j = go (ltb j g.vertices)
    where
      go : (b : Bool) → (v : ℕ) × IsTrue (cond b (eqb v j) (eqb v (w (j - g.vertices)) || eqb v (w (suc (j - g.vertices)))))
      go true = (j, eqb-refl j)
      go false = (w (j - g.vertices), rw (eqb-refl (w (j - g.vertices))) refl)

  weights : (j : ℕ) → 1 ≤ sum_below (m.values j) (m.weight j)
  weights j = go (ltb j g.vertices)
    where
      go : (b : Bool) → 1 ≤ sum_below (cond b (2 ^ suc (suc k) + 1) 2) (λ i. cond (b && eqb i 0) many 1)
      go true = sum_below-positive (2 ^ suc (suc k) + 1) (λ i. cond (true && eqb i 0) many 1) 0 (omega arith) some
      go false = sum_below-positive 2 (λ i. cond (false && eqb i 0) many 1) 0 (omega arith) (omega arith)

  -- ---- what is read
  module _ (v : ℕ) (lt : v < g.vertices) (s t u r : ℕ → ℕ) (parents : (p : ℕ) → IsTrue (g.arrow p v) → s p ≡ t p)
      (causes : (j : ℕ) → j < g.vertices + suc k → IsTrue (m.serves j v) → u j ≡ r j) where
    near_same : (i : ℕ) → i < suc k → v ≡ w i → u (g.vertices + i) ≡ r (g.vertices + i)
    near_same i il e = causes (g.vertices + i) (omega (arith, il)) (ap (m.serves (g.vertices + i)) e ∙ near_serves i)

    far_same : (i : ℕ) → i < suc k → v ≡ w (suc i) → u (g.vertices + i) ≡ r (g.vertices + i)
    far_same i il e = causes (g.vertices + i) (omega (arith, il)) (ap (m.serves (g.vertices + i)) e ∙ far_serves i)

    noise_same : u v ≡ r v
    noise_same = causes v (omega (arith, lt)) (noise_serves v lt)

    before_same : (i : ℕ) → i < suc k → v ≡ w i → before g x k w first s u i ≡ before g x k w first t r i
    before_same zero il e = ap (λ a. first && has a (suc k)) (parents (w (suc k)) (ap (g.arrow (w (suc k))) e ∙ path.child))
    before_same (suc i) il e = ap (λ a. (first || ltb i k) && eqb a 1) (far_same i (omega (arith, il)) e)

    own_same : (i : ℕ) → i < suc k → v ≡ w i → own g x k w first s u i ≡ own g x k w first t r i
    own_same i il e = ap₂ differ (before_same i il e) (ap (λ a. (first || ltb i k) && eqb a 1) (near_same i il e))

    carried_same : (i : ℕ) → carried g x k w s v i ≡ carried g x k w t v i
    carried_same i = ap (any_below g.vertices) (fun_ext (λ q. at q (g.arrow q v) refl))
      where
        at : (q : ℕ) (b : Bool) → g.arrow q v ≡ b → ((b && not (x q)) && has (s q) i) ≡ ((b && not (x q)) && has (t q) i)
        at q true e = ap (λ a. not (x q) && has a i) (parents q e)
        at q false e = refl

    calm_same : (i : ℕ) → i < suc (suc k) → calm_bit g x k w first s u v i ≡ calm_bit g x k w first t r v i
    calm_same i il =
        cond_same (eqb i (suc k)) false false (cond (eqb v (w i)) (own g x k w first s u i) (carried g x k w s v i))
        (cond (eqb v (w i)) (own g x k w first t r i) (carried g x k w t v i)) (λ e. refl)
        (λ ne. cond_same (eqb v (w i)) (own g x k w first s u i) (own g x k w first t r i) (carried g x k w s v i) (carried g x k w t v i)
        (λ e. own_same i (below ne) (eqb-true v (w i) e)) (λ e. carried_same i))
      where
        below : eqb i (suc k) ≡ false → i < suc k
        below ne = let d = unequal i (suc k) ne in omega (arith, il)

    noisy_same : (i : ℕ) → i < suc (suc k) → cond (eqb (u v) 0) (calm_bit g x k w first s u v i) (has (u v - 1) i)
        ≡ cond (eqb (r v) 0) (calm_bit g x k w first t r v i) (has (r v - 1) i)
    noisy_same i il = ap (λ a. cond (eqb a 0) (calm_bit g x k w first s u v i) (has (a - 1) i)) noise_same
        ∙ ap (λ b. cond (eqb (r v) 0) b (has (r v - 1) i)) (calm_same i il)

    bit_same : (i : ℕ) → i < suc (suc k) → new_bit g x k w first s u v i ≡ new_bit g x k w first t r v i
    bit_same i il = cond_same (eqb v (w (suc k)) && eqb i (suc k)) (coin g x k w u k) (coin g x k w r k)
        (cond (eqb (u v) 0) (calm_bit g x k w first s u v i) (has (u v - 1) i)) (cond (eqb (r v) 0) (calm_bit g x k w first t r v i) (has (r v - 1) i))
        (λ e. ap (λ a. eqb a 1) (far_same k (omega arith) (eqb-true v (w (suc k)) (and_first (eqb v (w (suc k))) (eqb i (suc k)) e))))
        (λ e. noisy_same i il)

  pub path_fits : Fits g (path_model g x k w first many)
  path_fits = record {
    vertices = refl;
    positive_size = λ v lt. pow_pos (suc (suc k));
    positive_weight = λ j lt. weights j;
    some_child = λ j lt. some_child j;
    child_below = child_low;
    joined = together;
    reads = λ v lt s t u r parents causes.
        mask_same (new_bit g x k w first s u v) (new_bit g x k w first t r v) (suc (suc k)) (bit_same v lt s t u r parents causes);
    below = λ v lt s u hs hu. mask_low (new_bit g x k w first s u v) (suc (suc k));
  }
