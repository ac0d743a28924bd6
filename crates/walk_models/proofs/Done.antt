-- Where the last edge of a walk comes out of z, doing z tells more than nothing.
use Rattle.std.proofs.Common.{ℕ, zero, suc, ◌≡◌, ◌<◌, ◌≤◌, ◌⊎◌, inl, inr, Bool, true, false, cond, eqb, ◌||◌, refl, sym, ap, ◌∙◌, subst, arith}
use Rattle.std.proofs.lemmas.Bool.{or_right, cases_lt}
use Rattle.mixed_graph.specs.Vocabulary.{has, MixedGraph, IsMixedGraph}
use Rattle.mixed_graph.proofs.Masks.{has-zero}
use Rattle.m_separation.specs.declared.marks.Mark.TheVariants.{Into}
use Rattle.finite_models.specs.Vocabulary.{FiniteModel, IsWorld, agree, weight_of, world_weight}
use Rattle.finite_models.proofs.Bools.{not_both, same_truth}
use Rattle.finite_models.proofs.SumLaws.{over-congr_within}
use Rattle.finite_models.proofs.Solutions.{agree_gives, agree_from}
use Rattle.walk_models.specs.Visits.{Walk, is_collider}
use Rattle.walk_models.specs.WalkModels.{bit_of, has_coin, coin, new_bit, walk_model}
use Rattle.walk_models.specs.Laws.{DoneEndsTell, IsWalkTo, IsFirstIn, IsBelowIn, event}
use Rattle.walk_models.proofs.Lifted.{below_is_positive}
use Rattle.walk_models.proofs.Along.{edge_bit, one_bit, coins_before}
use Rattle.walk_models.proofs.WalkFits.{walk_fits, walk_two}
use Rattle.walk_models.proofs.Worlds.{within, solved, solves, bit_is, silent, silent_where, new_none}
use Rattle.walk_models.proofs.Told.{agree_less, one_at_least, below_from, unsure}
use Rattle.walk_models.proofs.Solved.{sizes, weighs}

pub neither : (p q : Bool) → p ≡ false → q ≡ false → (p || q) ≡ false
neither false q e f = f
neither true q e f = absurd (grind (arith, e))

module _ (g : MixedGraph) (ok : IsMixedGraph g) (p : Walk) (b w y z : ℕ → Bool) (h : IsWalkTo g p b w y z) (first : IsFirstIn p z) (k : ℕ)
    (len : p.steps ≡ suc k) where
  abbrev m : FiniteModel
  m = walk_model g.vertices p 0 1

  abbrev done : ℕ → Bool
  done v = b v || z v

  one : 1 ≤ 1
  one = omega arith

  abbrev at : (ℕ → ℕ) → ℕ → ℕ
  at u = solved g ok p h.walk h.plain 0 1 one done u

  undone : (i : ℕ) → i < p.steps → done (p.at i) ≡ false
  undone i lt = neither (b (p.at i)) (z (p.at i)) (h.outside i (omega (arith, lt))) (first i lt)

  last_done : done (p.at p.steps) ≡ true
  last_done = or_right (b (p.at p.steps)) (z (p.at p.steps)) h.ends

  -- the last visit is done, and so 0
  last_zero : (u : ℕ → ℕ) → bit_of p (at u) p.steps ≡ false
  last_zero u =
      ap (λ x. has x p.steps) (solves g ok p h.walk h.plain 0 1 one done u (p.at p.steps) (h.walk.vertex p.steps (omega arith))
      ∙ ap (λ c. cond c 0 (m.mechanism (p.at p.steps) (at u) u)) last_done) ∙ has-zero p.steps

  module _ (u : ℕ → ℕ) (e : agree g.vertices w (at u) (λ v. 0) ≡ true) where
    is_new : (i : ℕ) → i < p.steps → bit_of p (at u) i ≡ new_bit p (at u) u i
    is_new i lt = bit_is g ok p h.walk h.plain 0 1 one done u i (omega (arith, lt)) (undone i lt)

    blank : (i : ℕ) → i < p.steps → is_collider p i ≡ true → bit_of p (at u) i ≡ false
    blank i lt c =
        ap (λ x. has x i) (agree_gives g.vertices w (at u) (λ v. 0) e (p.at i) (h.walk.vertex i (omega (arith, lt))) (h.strict i (omega (arith, lt)) ∙ c))
        ∙ has-zero i

    -- all is 0, where the last edge comes out of z
    none_at : p.mark k ≡ Into → IsWorld m u → (v : ℕ) → v < g.vertices → at u v ≡ 0
    none_at mark world = silent_where g ok p h.walk h.plain 0 1 one done u
        (λ i le out. new_none g ok p h.walk h.plain 0 1 one done u i
        (λ j jl. zero_coin j (go i le out (cases_lt i p.steps) j jl) (has_coin p j) refl
        (world j (let q = go i le out (cases_lt i p.steps) j jl in omega (arith, q)))))
      where
        go : (i : ℕ) → i ≤ p.steps → done (p.at i) ≡ false → (i < p.steps) ⊎ (p.steps ≤ i) → (j : ℕ) → j ≤ i → j < p.steps
        go i le out (inl lt) j jl = omega (arith, lt, jl)
        go i le out (inr ge) j jl =
            absurd (not_both (done (p.at i)) (subst (λ q. done (p.at q) ≡ true) (let s : p.steps ≡ i = omega (arith, le, ge) in s) last_done) out)

        start_zero : bit_of p (at u) 0 ≡ false
        start_zero = sym (one_bit p (at u) u h.plain is_new blank k (omega (arith, len)))
            ∙ ap (λ q. edge_bit q (bit_of p (at u) k) (bit_of p (at u) (suc k)) (coin u k)) mark
            ∙ subst (λ q. bit_of p (at u) q ≡ false) len (last_zero u)

        low : (x : ℕ) → x < 2 → eqb x 1 ≡ false → x ≡ 0
        low zero lt q = refl
        low (suc zero) lt q = absurd (grind (arith, q))
        low (suc (suc x)) lt q = absurd (omega (arith, lt))

        zero_coin : (j : ℕ) → j < p.steps → (c : Bool) → has_coin p j ≡ c → u j < cond c 2 1 → u j ≡ 0
        zero_coin j lt true f under = low (u j) under (coins_before p (at u) u h.plain is_new blank j lt f ∙ start_zero)
        zero_coin j lt false f under = omega (arith, under)

  sure : p.mark k ≡ Into → weight_of m done w (λ v. 0) ≡ weight_of m done (λ v. y v || w v) (λ v. 0)
  sure mark = over-congr_within (λ j. true) m.values m.causes
      (λ u. cond (agree g.vertices w (at u) (λ v. 0)) (world_weight m u) 0)
      (λ u. cond (agree g.vertices (λ v. y v || w v) (at u) (λ v. 0)) (world_weight m u) 0) (λ j. 0)
      (λ u world out. ap (λ c. cond c (world_weight m u) 0)
      (same_truth (agree g.vertices w (at u) (λ v. 0)) (agree g.vertices (λ v. y v || w v) (at u) (λ v. 0))
      (λ e. agree_from g.vertices (λ v. y v || w v) (at u) (λ v. 0) (λ v lt i. none_at u e mark (λ j lt. world j lt refl) v lt))
      (λ e. agree_less g.vertices w (λ v. y v || w v) (at u) (λ v. 0) (λ v i. or_right (y v) (w v) i) e)))

  told : p.mark k ≡ Into → IsBelowIn m (λ v. 0) (event b (λ v. y v || w v)) (event done w) (event done (λ v. y v || w v)) (event b w)
  told mark = record {
    within = within g ok p h.walk h.plain 0 1 one b;
    below = below_from (weight_of m b (λ v. y v || w v) (λ v. 0)) (weight_of m done w (λ v. 0)) (weight_of m done (λ v. y v || w v) (λ v. 0))
        (weight_of m b w (λ v. 0))
        (unsure g ok p b w y z h) (sure mark)
        (one_at_least m done (λ v. y v || w v) (λ v. 0) (λ j lt. sizes g.vertices p 0 1 j)
        (agree_from g.vertices (λ v. y v || w v) (at (λ j. 0)) (λ v. 0) (λ v lt i. silent g ok p h.walk h.plain 0 1 one done (λ j. 0) (λ j le. refl) v lt))
        (weighs g.vertices p 0 1 one (λ j. 0)));
  }

pub done_ends_tell : DoneEndsTell
done_ends_tell = λ g ok p b w y z k h first len mark.
    below_is_positive g ok (walk_model g.vertices p 0 1) (walk_fits g ok p h.walk 0 1 (omega arith)) (walk_two g.vertices p 0 1) (λ v. 0)
    (event b (λ v. y v || w v)) (event (λ v. b v || z v) w) (event (λ v. b v || z v) (λ v. y v || w v)) (event b w) (told g ok p b w y z h first k len mark)
