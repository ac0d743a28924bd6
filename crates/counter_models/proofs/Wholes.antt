-- The whole weight of both models.
use Rattle.std.proofs.Common.{ℕ, ◌+◌, ◌*◌, ◌^◌, ◌≡◌, ◌≤◌, Bool, true, false, not, ap, ◌∙◌, ◌&&◌, arith}
use Rattle.finite_models.specs.Vocabulary.{product_below, total, differ, odd_below}
use Rattle.finite_models.proofs.Indicators.{number}
use Rattle.finite_models.proofs.SumLaws.{over-congr}
use Rattle.counter_models.specs.Parities.{bit}
use Rattle.counter_models.specs.Hedges.{ParityHedge, links_of, noise_of}
use Rattle.counter_models.specs.ParityPairs.{cause_weight, counter_model}
use Rattle.counter_models.proofs.ParityLaws.{odd-false}
use Rattle.counter_models.proofs.Counting.{count, whole, halves}
use Rattle.counter_models.proofs.Effects.{extra_weight, larger}
use Rattle.counter_models.proofs.Ends.{total_is}

module _ (n : ℕ) (d : ParityHedge) (serves : ℕ → ℕ → Bool) (mechanism : ℕ → (ℕ → ℕ) → (ℕ → ℕ) → ℕ) where
  pub total_whole : total (counter_model n d serves mechanism) ≡ whole (cause_weight d) (extra_weight d) (larger d) (λ j. true) d.causes
  total_whole = halve (total (counter_model n d serves mechanism)) (count (cause_weight d) (extra_weight d) (larger d) (λ j. false) d.causes false (λ j. 0))
      (whole (cause_weight d) (extra_weight d) (larger d) (λ j. true) d.causes)
      even (halves (cause_weight d) (extra_weight d) (larger d) (λ j. false) d.causes (λ j. 0)).0
    where
      halve : (t c w : ℕ) → c ≡ t → 2 * c ≡ w + w → t ≡ w
      halve t c w e h = omega arith

      even : count (cause_weight d) (extra_weight d) (larger d) (λ j. false) d.causes false (λ j. 0) ≡ total (counter_model n d serves mechanism)
      even = over-congr (λ j. true) (λ j. 2) d.causes
          (λ u. product_below d.causes (λ j. cause_weight d j (u j)) * number (not (differ (odd_below d.causes (λ j. false && bit (u j))) false)))
          (λ u. product_below d.causes (λ j. cause_weight d j (u j))) (λ j. 0)
          (λ u. ap (λ r. product_below d.causes (λ j. cause_weight d j (u j)) * number (not (differ r false))) (odd-false d.causes)
          ∙ one (product_below d.causes (λ j. cause_weight d j (u j))))
        where
          one : (p : ℕ) → p * 1 ≡ p
          one p = omega arith

  pub total_powers : links_of d ≤ d.causes → total (counter_model n d serves mechanism) ≡ 2 ^ links_of d * 4 ^ noise_of d
  total_powers le = total_whole
      ∙ ap (λ k. whole (cause_weight d) (extra_weight d) (larger d) (λ j. true) k) (let e : d.causes ≡ links_of d + noise_of d = omega arith in e)
      ∙ total_is d (λ j. true) (noise_of d)
