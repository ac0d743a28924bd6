-- A nested effect has one value in a model of the diagram as drawn and in one that folds it.
use Rattle.std.proofs.Common.{ℕ, ◌*◌, ◌≡◌, ◌<◌, ◌≤◌, Bool, false, not, refl, sym, ap, ◌∙◌, subst, mul-pos, arith}
use Rattle.mixed_graph.specs.Vocabulary.{has, MixedGraph, IsMixedGraph}
use Rattle.fractions.specs.Vocabulary.{IsEqual}
use Rattle.finite_models.specs.Vocabulary.{FiniteModel, Fits, IsAssignment, IsPositiveModel, event_weight, total}
use Rattle.finite_models.proofs.Following.{follows_of}
use Rattle.finite_models.proofs.Positive.{positive_weight}
use Rattle.finite_models.proofs.Weights.{weight_of-none}
use Rattle.latent_projection.specs.Vocabulary.{IsObserved}
use Rattle.prob_expr.proofs.Alike.{left_positive}
use Rattle.hidden_models.specs.Vocabulary.{IsObservedPositive, set_before, values_before, drawn_weights}
use Rattle.hidden_models.proofs.Drawn.{drawn_weight, folded_is_positive}
use Rattle.hidden_models.proofs.Statements.{one_fraction}
use Rattle.hidden_models.proofs.Totals.{total_positive}
use Rattle.treated_models.specs.Vocabulary.{as_observed}
use Rattle.treated_models.proofs.Primes.{plain_within, observed_within}
use Rattle.treated_drawn.specs.Vocabulary.{observed_count, drawn_with_primes}
use Rattle.treated_drawn.proofs.Both.{no_member}
use Rattle.treated_drawn.proofs.Among.{q_mixed, into}
use Rattle.nested_models.specs.Vocabulary.{weight_of_nested, nested_effect}
use Rattle.natural_drawn.specs.Drawn.{FoldsNested, drawn_nested, drawn_nested_effect}

module _ (g : MixedGraph) (ok : IsMixedGraph g) (l : ℕ → Bool) (q : MixedGraph) (is : IsObserved g l q) (w w' : FiniteModel) (fit : Fits g w)
    (fit' : Fits q w') (folds : FoldsNested l w w') where
  -- values of the observed vertices are so in what folds the model
  pub inside : (s : ℕ → ℕ) → IsAssignment (drawn_weights l w).vertices (drawn_weights l w).size s → IsAssignment w'.vertices w'.size s
  inside s hs k kl = subst (λ n. s k < n) (sym (folds.both.folds.sizes k kl)) (hs k (subst (λ n. k < n) folds.both.folds.vertices kl))

  -- an observed event has one probability in both
  seen : (a : ℕ → Bool) (s : ℕ → ℕ) → IsAssignment w'.vertices w'.size s
      → event_weight w (set_before l a) (values_before l s) * total w' ≡ event_weight w' a s * total w
  seen a s hs =
      ap (λ n. n * total w') (sym (weight_of-none w (set_before l (λ k. false)) (set_before l a) (values_before l s) (λ v. no_member (not (l v)))))
      ∙ drawn_weight g ok l q is w w' fit fit' folds.both.folds (λ k. false) a s hs
      ∙ ap (λ n. n * total w) (weight_of-none w' (λ k. false) a s (λ k. refl))

  module _ (observed : IsObservedPositive l w) where
    pub positive : IsPositiveModel w'
    positive = folded_is_positive g ok l q is w w' fit fit' folds.both.folds observed

    some_event : (a : ℕ → Bool) (s : ℕ → ℕ) → IsAssignment w'.vertices w'.size s → 1 ≤ event_weight w' a s
    some_event a s hs =
        let e = positive_weight q w' (q_mixed g ok l q is) (follows_of q w' fit') positive (λ v. false) a s hs in
        let is_none = weight_of-none w' (λ v. false) a s (λ v. refl) in
        omega (arith, e, is_none)

    -- the nested effect has one value in both
    pub one_nested : (x m y z : ℕ) (s t : ℕ → ℕ) → IsAssignment w'.vertices w'.size s → IsAssignment w'.vertices w'.size t
        → IsEqual (nested_effect w' (has x) (has m) (has y) (has z) s t) (drawn_nested_effect l w x m y z s t)
    one_nested x m y z s t hs ht =
        one_fraction (weight_of_nested w' (has x) (has m) (has y) (has z) s t) (event_weight w' (has z) s)
        (drawn_nested l w (has x) (has m) (has y) (has z) s t) (event_weight w (set_before l (has z)) (values_before l s)) (total w') (total w)
        (total_positive q w' fit') (total_positive g w fit) (some_event (has z) s hs)
        (left_positive (event_weight w (set_before l (has z)) (values_before l s)) (total w') (event_weight w' (has z) s * total w)
        (mul-pos (some_event (has z) s hs) (total_positive g w fit)) (sym (seen (has z) s hs)))
        (sym (folds.nested (has x) (has m) (has y) (has z) s t hs ht)) (sym (seen (has z) s hs))

    -- also at values of names
    pub one_named : (x m y z : ℕ) (c : ℕ → ℕ) → IsAssignment (drawn_with_primes l w x).vertices (drawn_with_primes l w x).size c
        → IsEqual (nested_effect w' (has x) (has m) (has y) (has z) c (as_observed w'.vertices x c))
        (drawn_nested_effect l w x m y z c (as_observed (observed_count l w) x c))
    one_named x m y z c hc =
        let names = into g ok l q is w w' fit fit' folds.both x c hc in
        subst (λ n. IsEqual (nested_effect w' (has x) (has m) (has y) (has z) c (as_observed w'.vertices x c))
        (drawn_nested_effect l w x m y z c (as_observed n x c))) folds.both.folds.vertices
        (one_nested x m y z c (as_observed w'.vertices x c) (plain_within w'.vertices x w'.size c names) (observed_within w'.vertices x w'.size c names))
