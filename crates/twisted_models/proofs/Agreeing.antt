-- Twisted models agree on what is observed.
use Rattle.std.proofs.Common.{ℕ, zero, suc, ◌-◌, ◌*◌, ◌≡◌, ◌<◌, Bool, true, false, cond, eqb, refl, sym, ap, ap₂, ◌∙◌, arith}
use Rattle.mixed_graph.specs.Vocabulary.{MixedGraph, IsMixedGraph}
use Rattle.finite_models.specs.Vocabulary.{FiniteModel, Fits, event_weight, world_weight, total}
use Rattle.finite_models.proofs.Factors.{checks, weight_by_checks}
use Rattle.finite_models.proofs.Following.{follows_of}
use Rattle.finite_models.proofs.Indicators.{number}
use Rattle.finite_models.proofs.Ranks.{with_rank}
use Rattle.finite_models.proofs.SumLaws.{over-congr_within, product_below-congr}
use Rattle.counter_models.proofs.Counting.{over-flip}
use Rattle.twisted_models.specs.Twisted.{flipped, with_mechanism, IsTwist, TwistsAgree}

module _ (g : MixedGraph) (ok : IsMixedGraph g) (m : FiniteModel) (f : ℕ → (ℕ → ℕ) → (ℕ → ℕ) → ℕ) (fit : Fits g m) (fit' : Fits g (with_mechanism m f))
    (twist : IsTwist m f) (s : ℕ → ℕ) where
  abbrev counted : (ℕ → ℕ) → ℕ
  counted u = world_weight m u * checks m (λ v. true) s u

  weights : (u : ℕ → ℕ) → ((j : ℕ) → j < m.causes → true ≡ true → u j < m.values j) → world_weight m u ≡ world_weight m (flipped (twist.flips s) u)
  weights u inside = product_below-congr m.causes (λ j. m.weight j (u j)) (λ j. m.weight j (flipped (twist.flips s) u j))
      (λ j jl. at j (inside j jl refl) (twist.flips s j) refl)
    where
      coin : (j x : ℕ) → m.weight j 0 ≡ m.weight j 1 → x < 2 → m.weight j x ≡ m.weight j (1 - x)
      coin j zero e lt = e
      coin j (suc zero) e lt = sym e
      coin j (suc (suc x)) e lt = absurd (omega arith)

      at : (j : ℕ) → u j < m.values j → (c : Bool) → twist.flips s j ≡ c → m.weight j (u j) ≡ m.weight j (cond (twist.flips s j) (1 - u j) (u j))
      at j lt false e = rw e refl
      at j lt true e = let c = twist.coins s j e in rw e (coin j (u j) c.fair (let t = c.two in omega (arith, lt, t)))

  same : event_weight (with_mechanism m f) (λ v. true) s ≡ event_weight m (λ v. true) s
  same = with_rank g ok (event_weight (with_mechanism m f) (λ v. true) s) (event_weight m (λ v. true) s)
      (λ rank ranked. weight_by_checks g (with_mechanism m f) rank ranked (follows_of g (with_mechanism m f) fit') (λ v. true) s (λ p v a i. refl)
      ∙ over-congr_within (λ j. true) m.values m.causes (λ u. world_weight m u * checks (with_mechanism m f) (λ v. true) s u)
      (λ u. counted (flipped (twist.flips s) u)) (λ j. 0)
      (λ u inside base. ap₂ (λ a b. a * b) (weights u inside)
      (product_below-congr m.vertices (λ v. number (eqb (s v) (f v s u))) (λ v. number (eqb (s v) (m.mechanism v s (flipped (twist.flips s) u))))
      (λ v vl. ap (λ r. number (eqb (s v) r)) (twist.twisted s u v vl))))
      ∙ over-flip (λ j. true) m.values m.causes counted (twist.flips s) (λ j. 0) (λ j e. let c = twist.coins s j e in (c.cause, refl, c.two))
      ∙ sym (weight_by_checks g m rank ranked (follows_of g m fit) (λ v. true) s (λ p v a i. refl)))

pub twists_agree : TwistsAgree
twists_agree g ok m f fit fit' twist = record {
  vertices = refl;
  sizes = λ v lt. refl;
  weights = λ s within. ap (λ r. r * total m) (sym (same g ok m f fit fit' twist s));
}
