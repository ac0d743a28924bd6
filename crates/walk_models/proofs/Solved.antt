-- The weights of a walk's model, its world of ones, and what its visits get under an intervention.
use Rattle.std.proofs.Common.{ℕ, zero, suc, ◌≡◌, ◌<◌, ◌≤◌, inl, inr, Bool, true, false, cond, eqb, ltb, ◌&&◌, ◌==◌, ◌*◌, nat_lt, refl, ap, ◌∙◌, subst}
use Rattle.std.proofs.Common.{arith, lt-ltb, le-ltb, eqb-true}
use Rattle.std.proofs.lemmas.Bool.{cases_eq}
use Rattle.mixed_graph.specs.Vocabulary.{has, MixedGraph, IsMixedGraph}
use Rattle.finite_models.specs.Vocabulary.{product_below, FiniteModel, IsAssignment, IsSolution, IsWorld, intervene, solution, world_weight, mask_of}
use Rattle.finite_models.proofs.Following.{follows_of, follows_intervene}
use Rattle.finite_models.proofs.Packed.{has-mask}
use Rattle.finite_models.proofs.Ranks.{with_rank}
use Rattle.finite_models.proofs.Solutions.{solution_is, unique}
use Rattle.finite_models.proofs.SumLaws.{eqb-refl, product_below-congr}
use Rattle.walk_models.specs.Visits.{Walk, IsWalkIn}
use Rattle.walk_models.specs.WalkModels.{bit_of, coin, has_coin, new_bit, walk_model}
use Rattle.walk_models.proofs.Lifted.{times}
use Rattle.walk_models.proofs.Nearness.{product_pos}
use Rattle.walk_models.proofs.WalkFits.{walk_fits}

-- a product of factors of at least 1 is at least each of them
product_at : (n : ℕ) (f : ℕ → ℕ) (i : ℕ) → i < n → ((j : ℕ) → j < n → 1 ≤ f j) → f i ≤ product_below n f
product_at zero f i lt h = absurd (omega (arith, lt))
product_at (suc n) f i lt h = elim (cases_eq i n) [
  | inl e ↦ rw e (up (product_below n f) (f n) (product_pos n f (λ j jl. h j (omega (arith, jl)))))
  | inr d ↦ keep (f i) (product_below n f) (f n) (product_at n f i (omega (arith, lt, d)) (λ j jl. h j (omega (arith, jl)))) (h n (omega arith))
]
  where
    up : (a b : ℕ) → 1 ≤ a → b ≤ a * b
    up a b le = omega (arith, times 1 a b b le (omega arith))

    keep : (c a b : ℕ) → c ≤ a → 1 ≤ b → c ≤ a * b
    keep c a b le le' = omega (arith, times c a 1 b le le')

product_ones : (n : ℕ) → product_below n (λ j. 1) ≡ 1
product_ones zero = refl
product_ones (suc n) = omega (arith, product_ones n)

-- ---- weights
module _ (n : ℕ) (p : Walk) (last many : ℕ) where
  abbrev m : FiniteModel
  m = walk_model n p last many

  pub sizes : (j : ℕ) → 0 < m.values j
  sizes j = go (has_coin p j)
    where
      go : (c : Bool) → 0 < cond c 2 1
      go true = omega arith
      go false = omega arith

  -- where a certain coin is 1, a world weighs 1
  pub light : (u : ℕ → ℕ) → coin u last ≡ true → world_weight m u ≡ 1
  light u e = product_below-congr (suc p.steps) (λ j. m.weight j (u j)) (λ j. 1) (λ j lt. go j (eqb j last) refl) ∙ product_ones (suc p.steps)
    where
      not_zero : (t : ℕ) → eqb t 1 ≡ true → eqb t 0 ≡ false
      not_zero t f = grind (arith, f)

      go : (j : ℕ) (q : Bool) → eqb j last ≡ q → cond (q && eqb (u j) 0) many 1 ≡ 1
      go j true f = ap (λ r. cond r many 1) (ap (λ k. eqb (u k) 0) (eqb-true j last f) ∙ not_zero (u last) e)
      go j false f = refl

  module _ (some : 1 ≤ many) where
    factor : (u : ℕ → ℕ) (j : ℕ) → 1 ≤ m.weight j (u j)
    factor u j = go (eqb j last && eqb (u j) 0)
      where
        go : (q : Bool) → 1 ≤ cond q many 1
        go true = some
        go false = omega arith

    pub weighs : (u : ℕ → ℕ) → 1 ≤ world_weight m u
    weighs u = product_pos (suc p.steps) (λ j. m.weight j (u j)) (λ j lt. factor u j)

    -- the world of zeros weighs as much as that coin's 0
    pub heavy : last < suc p.steps → many ≤ world_weight m (λ j. 0)
    heavy low = subst (λ t. t ≤ world_weight m (λ j. 0)) (rw (eqb-refl last) refl)
        (product_at (suc p.steps) (λ j. m.weight j 0) last low (λ j lt. factor (λ j. 0) j))

-- ---- the world in which each coin is 1
abbrev pub heads : Walk → ℕ → ℕ
heads p j = cond (ltb j (suc p.steps)) (cond (has_coin p j) 1 0) 0

pub heads_world : (n : ℕ) (p : Walk) (last many : ℕ) → IsWorld (walk_model n p last many) (heads p)
heads_world n p last many j lt = rw (lt-ltb j (suc p.steps) lt) (go (has_coin p j))
  where
    go : (c : Bool) → cond c 1 0 < cond c 2 1
    go true = omega arith
    go false = omega arith

pub heads_beyond : (p : Walk) (j : ℕ) → suc p.steps ≤ j → heads p j ≡ 0
heads_beyond p j le = rw (le-ltb j (suc p.steps) le) refl

pub heads_coin : (p : Walk) (i : ℕ) → i ≤ p.steps → coin (heads p) i ≡ has_coin p i
heads_coin p i le = rw (lt-ltb i (suc p.steps) (omega (arith, le))) (go (has_coin p i))
  where
    go : (c : Bool) → (cond c 1 0 == 1) ≡ c
    go true = refl
    go false = refl

-- ---- under an intervention on b at s
pub below_same : (n i : ℕ) → i < n → nat_lt i n ≡ true
below_same n i lt = grind (arith, lt)

pub and_true : (a b : Bool) → b ≡ true → (a && b) ≡ a
and_true true b e = e
and_true false b e = refl

module _ (g : MixedGraph) (ok : IsMixedGraph g) (p : Walk) (walk : IsWalkIn g p) (last many : ℕ) (some : 1 ≤ many) (b : ℕ → Bool) (s : ℕ → ℕ)
    (within : IsAssignment g.vertices (walk_model g.vertices p last many).size s) where
  abbrev under : (ℕ → ℕ) → ℕ → ℕ
  under u = solution (intervene (walk_model g.vertices p last many) b s) u

  pub solves_under : (u : ℕ → ℕ) → IsSolution (intervene (walk_model g.vertices p last many) b s) u (under u)
  solves_under u v lt = with_rank g ok (under u v) ((intervene (walk_model g.vertices p last many) b s).mechanism v (under u) u)
      (λ rank ranked. solution_is g (intervene (walk_model g.vertices p last many) b s) rank ranked
      (follows_intervene g (walk_model g.vertices p last many) b s within
      (follows_of g (walk_model g.vertices p last many) (walk_fits g ok p walk last many some))) u v lt)

  pub only_under : (u t : ℕ → ℕ) → IsSolution (intervene (walk_model g.vertices p last many) b s) u t → (v : ℕ) → v < g.vertices → under u v ≡ t v
  only_under u t h v lt = with_rank g ok (under u v) (t v)
      (λ rank ranked. unique g (intervene (walk_model g.vertices p last many) b s) rank ranked
      (follows_intervene g (walk_model g.vertices p last many) b s within
      (follows_of g (walk_model g.vertices p last many) (walk_fits g ok p walk last many some)))
      u (under u) t (solves_under u) h v lt)

  -- a visit outside b gets its bit
  pub bit_under : (u : ℕ → ℕ) (i : ℕ) → i ≤ p.steps → b (p.at i) ≡ false → bit_of p (under u) i ≡ new_bit p (under u) u i
  bit_under u i le out =
      ap (λ x. has x i) (solves_under u (p.at i) (walk.vertex i le)
      ∙ ap (λ c. cond c (s (p.at i)) (mask_of (λ j. eqb (p.at i) (p.at j) && new_bit p (under u) u j) (suc p.steps))) out)
      ∙ has-mask (λ j. eqb (p.at i) (p.at j) && new_bit p (under u) u j) (suc p.steps) i
      ∙ and_true (eqb (p.at i) (p.at i) && new_bit p (under u) u i) (nat_lt i (suc p.steps)) (below_same (suc p.steps) i (omega (arith, le)))
      ∙ ap (λ c. c && new_bit p (under u) u i) (eqb-refl (p.at i))
