-- Tables that are too large, by the new numbers of their vertices.
use Rattle.std.proofs.Common.{ℕ, ◌≡◌, ◌<◌, ◌≤◌, Bool, List, length, get_or, inl, inr, sym, ap, subst, arith}
use Rattle.std.proofs.lemmas.Bool.{cases_lt}
use Rattle.mixed_graph.specs.declared.sets.VSet.{VSet}
use Rattle.mixed_graph.specs.Vocabulary.{MixedGraph, IsMixedGraph}
use Rattle.latent_projection.specs.Vocabulary.{IsProjection, observed_below}
use Rattle.finite_models.specs.declared.model.Model.{Model}
use Rattle.finite_models.specs.Vocabulary.{IsFirstWrong, AllRight, IsAcceptedModel}
use Rattle.hidden_models.specs.Folded.{IsSmallEnough, IsFirstTooLarge}
use Rattle.hidden_models.specs.Reaching.{AreReached}
use Rattle.hidden_models.specs.Tables.{entries}
use Rattle.hidden_models.proofs.Compose.{table_size_is}

above : (x n : ℕ) → (x ≤ n → ⊥) → n < x
above x n h = elim (cases_lt n x) [
  | inl lt ↦ lt
  | inr ge ↦ absurd (h ge)
]

module _ (g : MixedGraph) (ok : IsMixedGraph g) (l : ℕ → Bool) (m : Model) (accepted : IsAcceptedModel g m) (sets : List VSet)
    (are : AreReached g l m.causes.items sets) (p : MixedGraph) (projects : IsProjection g l p)
    (kept : List ℕ) (is : kept ≡ observed_below l g.vertices) where
  small_at : (k : ℕ) → k < length (observed_below l g.vertices) → entries p m sets (get_or kept k 0) ≤ 1048576 → IsSmallEnough g l m k
  small_at k kl h q observed r tells = subst (λ n. n ≤ 1048576) (sym (table_size_is g ok l m accepted sets are q observed p projects r tells k kl))
      (subst (λ (xs : List ℕ). entries p m sets (get_or xs k 0) ≤ 1048576) is h)

  pub first_too_large : (k : ℕ) → IsFirstWrong (length kept) (λ k. entries p m sets (get_or kept k 0) ≤ 1048576) k → IsFirstTooLarge g l m k
  first_too_large k h =
      let e = ap (λ (xs : List ℕ). length xs) is in
      let kl : k < length (observed_below l g.vertices) = (let b = h.below in omega arith) in
      record {
        below = kl;
        large = λ q observed r tells. subst (λ n. 1048576 < n) (sym (table_size_is g ok l m accepted sets are q observed p projects r tells k kl))
            (subst (λ (xs : List ℕ). 1048576 < entries p m sets (get_or xs k 0)) is (above (entries p m sets (get_or kept k 0)) 1048576 h.wrong));
        before = λ i il. small_at i (omega arith) (h.before i il);
      }

  pub all_small : AllRight (length kept) (λ k. entries p m sets (get_or kept k 0) ≤ 1048576) → (k : ℕ) → k < length (observed_below l g.vertices)
      → IsSmallEnough g l m k
  all_small h k kl = small_at k kl (h k (let e = ap (λ (xs : List ℕ). length xs) is in omega arith))
