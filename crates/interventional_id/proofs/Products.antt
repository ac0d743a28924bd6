-- Where two formulas have the values of the two effects, the sum over the mediators of their product is the interventional effect.
use Rattle.std.proofs.Common.{ℕ, ◌<◌, Bool, true, false, cond, refl}
use Rattle.mixed_graph.specs.Vocabulary.{has, union}
use Rattle.fractions.specs.Vocabulary.{IsEqual, mul}
use Rattle.fractions.proofs.FractionLaws.{mul_equal}
use Rattle.finite_models.specs.Vocabulary.{IsAssignment}
use Rattle.prob_expr.specs.Vocabulary.{PlainFormula, Weights, term_value, value_of, weights_of}
use Rattle.prob_expr.proofs.Boxes.{assignment_set, add_over_equal}
use Rattle.treated_models.specs.Vocabulary.{joined}
use Rattle.interventional_id.specs.Interventional.{interventional_value, interventional_effect}
use Rattle.interventional_id.specs.Laws.{FormulasGiveInterventional}

module _ (w : Weights) where
  abbrev IsValued : (ℕ → ℕ) → Type 0
  IsValued s = IsAssignment w.vertices w.size s

  -- values of which some are those of another assignment are one
  joined_within : (x : ℕ) (c t : ℕ → ℕ) → IsValued c → IsValued t → IsValued (joined (has x) c t)
  joined_within x c t hc ht k kl = go (has x k)
    where
      go : (b : Bool) → cond b (t k) (c k) < w.size k
      go true = ht k kl
      go false = hc k kl

  pub sum_of_products : (x m y z : ℕ) (f h : PlainFormula) → ((c : ℕ → ℕ) → IsValued c → IsEqual (value_of w f c) (term_value w m x z c))
      → ((c : ℕ → ℕ) → IsValued c → IsEqual (value_of w h c) (term_value w y (union x m) z c)) → (s t : ℕ → ℕ) → IsValued s → IsValued t
      → IsEqual (interventional_value w x m f h s t) (interventional_effect w x m y z s t)
  sum_of_products x m y z f h first second s t hs ht =
      add_over_equal (has m) w.size IsValued w.vertices w.size (λ c. mul (value_of w f (joined (has x) c t)) (value_of w h c))
      (λ c. mul (term_value w m x z (joined (has x) c t)) (term_value w y (union x m) z c)) s (λ i lt. refl)
      (λ c i k lt ui kl p. assignment_set w.vertices w.size c i k kl p) hs
      (λ c hc. mul_equal (value_of w f (joined (has x) c t)) (term_value w m x z (joined (has x) c t)) (value_of w h c) (term_value w y (union x m) z c)
      (first (joined (has x) c t) (joined_within x c t hc ht)) (second c hc))

pub formulas_give_interventional : FormulasGiveInterventional
formulas_give_interventional = λ g x m y z f h first second w fit positive s t hs ht.
    sum_of_products (weights_of w) x m y z f h (first w fit positive) (second w fit positive) s t hs ht
