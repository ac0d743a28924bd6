-- In a positive model every event has weight at least 1 under every intervention.
use Rattle.std.proofs.Common.{ℕ, zero, suc, ◌≡◌, ◌-◌, ◌<◌, ◌≤◌, Bool, true, false, cond, refl, sym, ◌∙◌, arith}
use Rattle.mixed_graph.specs.Vocabulary.{MixedGraph, IsMixedGraph}
use Rattle.finite_models.specs.Sums.{sum_below, sum_over, set_at}
use Rattle.finite_models.specs.Models.{FiniteModel, IsAssignment, IsSolution, IsPositiveModel, solution, agree, event_weight, world_weight, intervene}
use Rattle.finite_models.specs.Models.{weight_of}
use Rattle.finite_models.proofs.Following.{Follows, follows_intervene}
use Rattle.finite_models.proofs.Ranks.{with_rank}
use Rattle.finite_models.proofs.SumLaws.{along}
use Rattle.finite_models.proofs.Solutions.{IsRanked, solution_is, unique, agree_gives, agree_from}

pub sum_below-mono : (k : ℕ) (f h : ℕ → ℕ) → ((i : ℕ) → f i ≤ h i) → sum_below k f ≤ sum_below k h
sum_below-mono zero f h le = omega arith
sum_below-mono (suc k) f h le = omega (arith, sum_below-mono k f h le, le k)

pub over-mono : (U : ℕ → Bool) (s : ℕ → ℕ) (n : ℕ) (F G : (ℕ → ℕ) → ℕ) (b : ℕ → ℕ) → ((c : ℕ → ℕ) → F c ≤ G c) → sum_over U s n F b ≤ sum_over U s n G b
over-mono U s zero F G b h = h b
over-mono U s (suc n) F G b h = go (U n) (λ c. over-mono U s n F G c h)
  where
    go : (p : Bool) → ((c : ℕ → ℕ) → sum_over U s n F c ≤ sum_over U s n G c) → along p (s n) n (sum_over U s n F) b ≤ along p (s n) n (sum_over U s n G) b
    go true ih = sum_below-mono (s n) (λ x. sum_over U s n F (set_at b n x)) (λ x. sum_over U s n G (set_at b n x)) (λ x. ih (set_at b n x))
    go false ih = ih b

cond-le : (p q : Bool) (w : ℕ) → (p ≡ true → q ≡ true) → cond p w 0 ≤ cond q w 0
cond-le true q w h = rw (h refl) (omega arith)
cond-le false q w h = omega arith

module _ (g : MixedGraph) (m : FiniteModel) (rank : ℕ → ℕ) (ranked : IsRanked g rank) (follows : Follows g m) (s : ℕ → ℕ)
    (within : IsAssignment m.vertices m.size s) where
  obeyed : (u : ℕ → ℕ) → ((v : ℕ) → v < m.vertices → solution m u v ≡ s v) → (B : ℕ → Bool) → IsSolution (intervene m B s) u s
  obeyed u h B v il = at (B v) refl
    where
      own : s v ≡ m.mechanism v s u
      own = sym (h v il) ∙ solution_is g m rank ranked follows u v il ∙ follows.reads v il (solution m u) s u u
          (λ p a. h p (rw follows.vertices (ranked.tail_below p v a))) (λ j jl q. refl)

      at : (c : Bool) → B v ≡ c → s v ≡ cond c (s v) (m.mechanism v s u)
      at true e = refl
      at false e = own

  pub weight_le : (B C : ℕ → Bool) → event_weight m (λ v. true) s ≤ weight_of m B C s
  weight_le B C =
      over-mono (λ j. true) m.values m.causes (λ u. cond (agree m.vertices (λ v. true) (solution m u) s) (world_weight m u) 0)
      (λ u. cond (agree m.vertices C (solution (intervene m B s) u) s) (world_weight m u) 0) (λ j. 0)
      (λ u. cond-le (agree m.vertices (λ v. true) (solution m u) s) (agree m.vertices C (solution (intervene m B s) u) s) (world_weight m u)
      (λ e. agree_from m.vertices C (solution (intervene m B s) u) s
      (λ v il i. unique g (intervene m B s) rank ranked (follows_intervene g m B s within follows) u (solution (intervene m B s) u) s
      (solution_is g (intervene m B s) rank ranked (follows_intervene g m B s within follows) u)
      (obeyed u (λ w wl. agree_gives m.vertices (λ v. true) (solution m u) s e w wl refl) B) v il)))

  -- in a positive model each event has weight at least 1 under each intervention
  pub positive_each : IsPositiveModel m → (B C : ℕ → Bool) → 1 ≤ weight_of m B C s
  positive_each pos B C = omega (arith, pos s within, weight_le B C)

-- a number that is 1 or more where the graph has a rank is so, as an equation of numbers
pub positive_weight : (g : MixedGraph) (m : FiniteModel) → IsMixedGraph g → Follows g m → IsPositiveModel m → (b a : ℕ → Bool) (s : ℕ → ℕ)
    → IsAssignment m.vertices m.size s → 1 ≤ weight_of m b a s
positive_weight g m ok follows positive b a s within =
    let e : 1 - weight_of m b a s ≡ 0 = with_rank g ok (1 - weight_of m b a s) 0
    (λ rank ranked. let le = positive_each g m rank ranked follows s within positive b a in omega arith) in omega arith
