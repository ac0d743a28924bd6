-- Worlds under do(x) and without intervention as one model with held arrows.
use Rattle.std.proofs.Common.{ℕ, zero, suc, ◌*◌, ◌≡◌, ◌<◌, Bool, true, false, cond, eqb, not, refl, sym, ap, ap₂, ◌∙◌, ◌||◌, ◌&&◌, arith}
use Rattle.std.proofs.lemmas.Bool.{and_from, cond-false, cond-true, or_left, or_right}
use Rattle.mixed_graph.specs.Vocabulary.{MixedGraph}
use Rattle.finite_models.specs.Vocabulary.{FiniteModel, Fits, IsAssignment, IsSolution, solution, agree, event_weight, world_weight, intervene}
use Rattle.finite_models.proofs.Bools.{and_first, and_second, either, not_both, same_truth}
use Rattle.finite_models.proofs.Following.{Follows, follows_of}
use Rattle.finite_models.proofs.Indicators.{number}
use Rattle.finite_models.proofs.Ranks.{with_rank}
use Rattle.finite_models.proofs.Solutions.{IsRanked, solution_is, unique, agree_from, agree_gives}
use Rattle.finite_models.proofs.SumLaws.{over-congr, product_below-congr}
use Rattle.do_rules.specs.Vocabulary.{cut_into, cut_out}
use Rattle.do_rules.proofs.Altered.{ranked_into, ranked_out, follows_into, follows_hold}
use Rattle.treated_models.specs.Treated.{held, is_both, weight_of_both, IsBefore, joined, TreatedIsHeld, UntouchedFactors, obeyed}

module _ (g : MixedGraph) (m : FiniteModel) (rank : ℕ → ℕ) (ranked : IsRanked g rank) (follows : Follows g m) (x : ℕ → Bool) (s : ℕ → ℕ)
    (within : IsAssignment m.vertices m.size s) where
  sol : (u : ℕ → ℕ) → IsSolution (held m x s) u (solution (held m x s) u)
  sol u = solution_is (cut_out g x) (held m x s) rank (ranked_out g x rank ranked) (follows_hold g m x s within follows) u

  -- outside x the solution with held arrows is that under do(x)
  outside : (u : ℕ → ℕ) (v : ℕ) → v < m.vertices → x v ≡ false → solution (held m x s) u v ≡ solution (intervene m x s) u v
  outside u v il o =
      sym (cond-false (x v) (s v) (solution (held m x s) u v) o)
      ∙ unique (cut_into g x) (intervene m x s) rank (ranked_into g x rank ranked) (follows_into g m x s within follows) u
      (λ p. cond (x p) (s p) (solution (held m x s) u p)) (solution (intervene m x s) u)
      (λ w wl. at w (x w) (sol u w wl))
      (solution_is (cut_into g x) (intervene m x s) rank (ranked_into g x rank ranked) (follows_into g m x s within follows) u) v il
    where
      at : (w : ℕ) (c : Bool) → solution (held m x s) u w ≡ m.mechanism w (λ p. cond (x p) (s p) (solution (held m x s) u p)) u
          → cond c (s w) (solution (held m x s) u w) ≡ cond c (s w) (m.mechanism w (λ p. cond (x p) (s p) (solution (held m x s) u p)) u)
      at w true k = refl
      at w false k = k

  -- where nothing comes after x it is that without intervention
  before : (o : ℕ → Bool) (b : IsBefore g x o) (u : ℕ → ℕ) (k v : ℕ) → v < m.vertices → rank v < k → b.past v ≡ true
      → solution (held m x s) u v ≡ solution m u v
  before o b u zero v il lt c = absurd (omega arith)
  before o b u (suc k) v il lt c =
      sol u v il
      ∙ follows.reads v il (λ p. cond (x p) (s p) (solution (held m x s) u p)) (solution m u) u u
      (λ p a. let r = ranked.rises p v a in cond-false (x p) (s p) (solution (held m x s) u p) (b.untouched p v a c)
      ∙ before o b u k p (rw follows.vertices (ranked.tail_below p v a)) (omega arith) (b.closed p v a c))
      (λ j jl q. refl)
      ∙ sym (solution_is g m rank ranked follows u v il)

  both_held : (y o : ℕ → Bool) → IsBefore g x o → ((v : ℕ) → y v ≡ true → x v ≡ false) → ((v : ℕ) → y v ≡ true → o v ≡ false) → (t : ℕ → ℕ)
      → weight_of_both m x y o s t ≡ event_weight (held m x s) (λ v. y v || o v) (joined o s t)
  both_held y o b yx yo t =
      over-congr (λ j. true) m.values m.causes (λ u. cond (is_both m x y o s t u) (world_weight m u) 0)
      (λ u. cond (agree m.vertices (λ v. y v || o v) (solution (held m x s) u) (joined o s t)) (world_weight m u) 0) (λ j. 0)
      (λ u. ap (λ c. cond c (world_weight m u) 0)
      (same_truth (is_both m x y o s t u) (agree m.vertices (λ v. y v || o v) (solution (held m x s) u) (joined o s t))
      (λ e. agree_from m.vertices (λ v. y v || o v) (solution (held m x s) u) (joined o s t) (λ v il i. to u e v il (o v) refl i))
      (λ e. and_from (agree m.vertices y (solution (intervene m x s) u) s) (agree m.vertices o (solution m u) t)
      (agree_from m.vertices y (solution (intervene m x s) u) s (λ v il i. sym (outside u v il (yx v i))
      ∙ agree_gives m.vertices (λ v. y v || o v) (solution (held m x s) u) (joined o s t) e v il (or_left (y v) (o v) i)
      ∙ cond-false (o v) (t v) (s v) (yo v i)))
      (agree_from m.vertices o (solution m u) t (λ v il i. sym (before o b u (suc (rank v)) v il (omega arith) (b.holds v i))
      ∙ agree_gives m.vertices (λ v. y v || o v) (solution (held m x s) u) (joined o s t) e v il (or_right (y v) (o v) i)
      ∙ cond-true (o v) (t v) (s v) i)))))
    where
      to : (u : ℕ → ℕ) → is_both m x y o s t u ≡ true → (v : ℕ) → v < m.vertices → (c : Bool) → o v ≡ c → (y v || o v) ≡ true
          → solution (held m x s) u v ≡ cond (o v) (t v) (s v)
      to u e v il true q i =
          before o b u (suc (rank v)) v il (omega arith) (b.holds v q)
          ∙ agree_gives m.vertices o (solution m u) t
          (and_second (agree m.vertices y (solution (intervene m x s) u) s) (agree m.vertices o (solution m u) t) e) v il q
          ∙ sym (cond-true (o v) (t v) (s v) q)
      to u e v il false q i =
          let yv : y v ≡ true = either (y v) (o v) (y v ≡ true) i (λ h. h) (λ h. absurd (not_both (o v) h q)) in
          outside u v il (yx v yv)
          ∙ agree_gives m.vertices y (solution (intervene m x s) u) s
          (and_first (agree m.vertices y (solution (intervene m x s) u) s) (agree m.vertices o (solution m u) t) e) v il yv
          ∙ sym (cond-false (o v) (t v) (s v) q)

pub treated_is_held : TreatedIsHeld
treated_is_held g ok m fit x y o b yx yo s t within =
    with_rank g ok (weight_of_both m x y o s t) (event_weight (held m x s) (λ v. y v || o v) (joined o s t))
    (λ rank ranked. both_held g m rank ranked (follows_of g m fit) x s within y o b yx yo t)

-- ---- factors
untouched : (g : MixedGraph) (m : FiniteModel) → Fits g m → (x a : ℕ → Bool) → ((p v : ℕ) → g.arrow p v ≡ true → a v ≡ true → x p ≡ true → a p ≡ false)
    → (s t u : ℕ → ℕ) → obeyed (held m x s) a t u ≡ obeyed m a (λ v. cond (x v && not (a v)) (s v) (t v)) u
untouched g m fit x a apart s t u = product_below-congr m.vertices
    (λ v. number (cond (a v) (eqb (t v) (m.mechanism v (λ p. cond (x p) (s p) (t p)) u)) true))
    (λ v. number (cond (a v) (eqb (cond (x v && not (a v)) (s v) (t v)) (m.mechanism v (λ p. cond (x p && not (a p)) (s p) (t p)) u)) true))
    (λ v il. at v il (a v) refl)
  where
    inside : (v : ℕ) → a v ≡ true → cond (x v && not (a v)) (s v) (t v) ≡ t v
    inside v e = cond-false (x v && not (a v)) (s v) (t v) (no (x v) (a v) e)
      where
        no : (c b : Bool) → b ≡ true → (c && not b) ≡ false
        no true true e = refl
        no false b e = refl
        no true false e = absurd (grind (arith, e))

    read : (p v : ℕ) → g.arrow p v ≡ true → a v ≡ true → cond (x p) (s p) (t p) ≡ cond (x p && not (a p)) (s p) (t p)
    read p v e i = go (x p) refl
      where
        go : (c : Bool) → x p ≡ c → cond (x p) (s p) (t p) ≡ cond (x p && not (a p)) (s p) (t p)
        go true q = let o = apart p v e i q in rw (q, o) refl
        go false q = rw q refl

    at : (v : ℕ) → v < m.vertices → (c : Bool) → a v ≡ c
        → number (cond (a v) (eqb (t v) (m.mechanism v (λ p. cond (x p) (s p) (t p)) u)) true)
        ≡ number (cond (a v) (eqb (cond (x v && not (a v)) (s v) (t v)) (m.mechanism v (λ p. cond (x p && not (a p)) (s p) (t p)) u)) true)
    at v il false q = rw q refl
    at v il true q = ap (λ r. number (cond (a v) r true))
        (ap₂ eqb (sym (inside v q))
        (fit.reads v il (λ p. cond (x p) (s p) (t p)) (λ p. cond (x p && not (a p)) (s p) (t p)) u u (λ p e. read p v e q) (λ j jl h. refl)))

pub untouched_factors : UntouchedFactors
untouched_factors g m fit x a apart s t =
    over-congr (λ j. true) m.values m.causes (λ u. world_weight m u * obeyed (held m x s) a t u)
    (λ u. world_weight m u * obeyed m a (λ v. cond (x v && not (a v)) (s v) (t v)) u) (λ j. 0)
    (λ u. ap (λ r. world_weight m u * r) (untouched g m fit x a apart s t u))
