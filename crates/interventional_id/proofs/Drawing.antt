-- Formulas that equal the two effects in the observed graph do so in the diagram as drawn, and so does the sum of their product.
use Rattle.std.proofs.Common.{ℕ, ◌≡◌, ◌<◌, Bool, not, sym, subst, mul-pos}
use Rattle.mixed_graph.specs.Vocabulary.{has, MixedGraph, IsMixedGraph}
use Rattle.fractions.specs.Vocabulary.{IsEqual}
use Rattle.fractions.proofs.FractionLaws.{equal_sym, equal_trans}
use Rattle.finite_models.specs.Vocabulary.{FiniteModel, Fits, IsAssignment, total}
use Rattle.latent_projection.specs.Vocabulary.{IsObserved}
use Rattle.prob_expr.specs.Vocabulary.{EqualsEffect, PlainFormula, PlainTarget, effect, term_value, value_of, weights_of}
use Rattle.prob_expr.proofs.Alike.{Events, formula_alike, asks_any, all_ask_any}
use Rattle.hidden_models.specs.Vocabulary.{IsObservedPositive, drawn_weights}
use Rattle.hidden_models.proofs.Drawn.{drawn_weight, drawn_positive, keeps_term, folded_is_positive, right_as_drawn}
use Rattle.hidden_models.proofs.Folded.{each_has_folded}
use Rattle.hidden_models.proofs.FoldingLaw.{member}
use Rattle.hidden_models.proofs.Positions.{member_is}
use Rattle.hidden_models.proofs.Totals.{total_positive}
use Rattle.interventional_id.specs.Interventional.{on_mediators, on_outcome}
use Rattle.interventional_id.specs.Laws.{InterventionalIsDrawn}
use Rattle.interventional_id.proofs.Products.{sum_of_products}

-- all events
abbrev Any : Events
Any b a = Unit {0}

module _ (g : MixedGraph) (ok : IsMixedGraph g) (l : ℕ → Bool) (q : MixedGraph) (is : IsObserved g l q) (w : FiniteModel) (fit : Fits g w)
    (observed : IsObservedPositive l w) where
  abbrev IsValued : (ℕ → ℕ) → Type 0
  IsValued s = IsAssignment (drawn_weights l w).vertices (drawn_weights l w).size s

  -- a formula that equals an effect in the observed graph has its value at values of the observed vertices
  one_value : (t : PlainTarget) (f : PlainFormula) → EqualsEffect q t f → (c : ℕ → ℕ) → IsValued c
      → IsEqual (value_of (drawn_weights l w) f c) (term_value (drawn_weights l w) t.y t.x t.given c)
  one_value t f right c hc =
      let h = each_has_folded g ok l q is w fit in
      let sizes : (k : ℕ) → k < (drawn_weights l w).vertices → (drawn_weights l w).size k ≡ h.folded.size k =
      λ k kl. sym (h.folds.sizes k (subst (λ n. k < n) (sym h.folds.vertices) kl)) in
      let within : (s : ℕ → ℕ) → IsValued s → IsAssignment h.folded.vertices h.folded.size s =
      λ s hs k kl. subst (λ n. s k < n) (sym (h.folds.sizes k kl)) (hs k (subst (λ n. k < n) h.folds.vertices kl)) in
      let same : IsEqual (value_of (drawn_weights l w) f c) (value_of (weights_of h.folded) f c) =
      formula_alike (drawn_weights l w) (weights_of h.folded) (sym h.folds.vertices) sizes
      (λ k kl. fit.positive_size (member (λ v. not (l v)) w.vertices k) (member_is (λ v. not (l v)) w.vertices k kl).below)
      (total w) (total h.folded) (mul-pos (total_positive g w fit) (total_positive q h.folded h.fits))
      Any (λ b a k. drawn_positive g ok l q is w h.folded fit h.fits h.folds observed (has b) a)
      (λ b a k s hs. drawn_weight g ok l q is w h.folded fit h.fits h.folds (has b) a s (within s hs))
      f (all_ask_any Any (λ b a. tt) f.defs) (asks_any Any (λ b a. tt) f.main) c hc in
      let equal : IsEqual (value_of (weights_of h.folded) f c) (effect h.folded t c) =
      right h.folded h.fits (folded_is_positive g ok l q is w h.folded fit h.fits h.folds observed) c (within c hc) in
      let term : IsEqual (term_value (drawn_weights l w) t.y t.x t.given c) (effect h.folded t c) =
      keeps_term g ok l q is w h.folded fit h.fits h.folds observed t.y t.x t.given c hc in
      equal_trans (value_of (drawn_weights l w) f c) (value_of (weights_of h.folded) f c) (term_value (drawn_weights l w) t.y t.x t.given c) same
      (equal_trans (value_of (weights_of h.folded) f c) (effect h.folded t c) (term_value (drawn_weights l w) t.y t.x t.given c) equal
      (equal_sym (term_value (drawn_weights l w) t.y t.x t.given c) (effect h.folded t c) term))

pub interventional_is_drawn : InterventionalIsDrawn
interventional_is_drawn = λ g ok l q is x m y z f h first second. record {
  mediators = right_as_drawn g ok l q is (on_mediators x m z) f first;
  outcome = right_as_drawn g ok l q is (on_outcome x m y z) h second;
  equals = λ w fit observed s t hs ht. sum_of_products (drawn_weights l w) x m y z f h
      (one_value g ok l q is w fit observed (on_mediators x m z) f first) (one_value g ok l q is w fit observed (on_outcome x m y z) h second) s t hs ht;
}
