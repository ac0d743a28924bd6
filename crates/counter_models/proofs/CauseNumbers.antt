-- The causes of the data, by their numbers.
use Rattle.std.proofs.Common.{ℕ, suc, ◌+◌, ◌-◌, ◌≡◌, ◌≢◌, ◌<◌, ◌≤◌, true, ◌==◌, ◌⊎◌, inl, inr, sym, ◌∙◌, List, [], ◌∷◌, length, slice_index, arith}
use Rattle.std.proofs.lemmas.Bool.{cases_lt}
use Rattle.mixed_graph.specs.Vocabulary.{has, MixedGraph, IsMixedGraph}
use Rattle.finite_models.specs.Vocabulary.{weights_of, children_of, IsSoundCause}
use Rattle.finite_models.specs.declared.model.Cause.{Cause}
use Rattle.hedge.specs.declared.hedge.Hedge.{Hedge}
use Rattle.hedge.specs.Vocabulary.{size_of, IsHedge}
use Rattle.counter_models.proofs.CounterFits.{or_split, or_first}
use Rattle.counter_models.specs.Pairs.{small_cause, kept_cause, IsCauseAt, AreCauses}
use Rattle.counter_models.proofs.Counted.{find}
use Rattle.counter_models.proofs.Entries.{entry_low, partner_low}

test_true : (a b : ℕ) → (a == b) ≡ true → a ≡ b
test_true a b e = grind (arith, e)

test_self : (a : ℕ) → (a == a) ≡ true
test_self a = grind arith

module _ (g : MixedGraph) (graph : IsMixedGraph g) (x y : ℕ) (h : Hedge) (hedge : IsHedge g x y h) (kept : ℕ)
    (kept_low : (v : ℕ) → has kept v ≡ true → v < g.vertices) (causes : List Cause) (are : AreCauses h kept causes) where
  pub private_of : (j : ℕ) → h.links.count - 1 ≤ j → j < (h.links.count - 1) + size_of h.small.bits + size_of kept
      → (v : ℕ) × (v < g.vertices) × IsCauseAt causes j (3 ∷ 1 ∷ []) (λ u. u == v)
  private_of j from to = go (cases_lt j ((h.links.count - 1) + size_of h.small.bits))
    where
      at_number : (i v : ℕ) → i ≡ j → IsCauseAt causes i (3 ∷ 1 ∷ []) (λ u. u == v) → IsCauseAt causes j (3 ∷ 1 ∷ []) (λ u. u == v)
      at_number i v e is = rw (sym e) is

      go : (j < (h.links.count - 1) + size_of h.small.bits) ⊎ ((h.links.count - 1) + size_of h.small.bits ≤ j) → (v : ℕ) × (v < g.vertices)
          × IsCauseAt causes j (3 ∷ 1 ∷ []) (λ u. u == v)
      go (inl l) = let f = find h.small.bits 64 (j - (h.links.count - 1)) (omega arith) in
          (f.0, hedge.sets.low f.0 (hedge.sets.small_inside f.0 f.2), at_number (small_cause h f.0) f.0 (let b = f.3 in omega arith) (are.small f.0 f.2))
      go (inr ge) = let f = find kept 64 (j - ((h.links.count - 1) + size_of h.small.bits)) (omega arith) in
          (f.0, kept_low f.0 f.2, at_number (kept_cause h kept f.0) f.0 (let b = f.3 in omega arith) (are.kept_ones f.0 f.2))

  -- each cause is sound
  pub sound_at : (j : ℕ) → j < length causes → IsSoundCause g (weights_of causes j) (children_of causes j)
  sound_at j lt = go (cases_lt j (h.links.count - 1))
    where
      private : (v : ℕ) × (v < g.vertices) × IsCauseAt causes j (3 ∷ 1 ∷ []) (λ u. u == v) → IsSoundCause g (weights_of causes j) (children_of causes j)
      private w = record {
        positive = rw w.2.weights_are (omega arith);
        child = (w.0, w.2.children_are w.0 ∙ test_self w.0);
        below = λ u i. rw (test_true u w.0 (sym (w.2.children_are u) ∙ i)) w.1;
        joined = λ a b i k ne. absurd (ne (test_true a w.0 (sym (w.2.children_are a) ∙ i) ∙ sym (test_true b w.0 (sym (w.2.children_are b) ∙ k))));
      }

      link : j < h.links.count - 1 → IsSoundCause g (weights_of causes j) (children_of causes j)
      link l = record {
        positive = rw (are.links j l).weights_are (omega arith);
        child = (
          slice_index h.links.found (suc j),
          (are.links j l).children_are (slice_index h.links.found (suc j))
              ∙ or_first _ _ (test_self (slice_index h.links.found (suc j))),
        );
        below = λ u i. low u (or_split _ _ (sym ((are.links j l).children_are u) ∙ i));
        joined = λ a b i k ne. both a b (or_split _ _ (sym ((are.links j l).children_are a) ∙ i)) (or_split _ _ (sym ((are.links j l).children_are b) ∙ k)) ne;
      }
        where
          edge : g.both (slice_index h.links.found (suc j)) (slice_index h.links.partner (suc j)) ≡ true
          edge = (hedge.links.partners (suc j) (omega arith) (omega arith)).joined

          low : (u : ℕ) → ((u == slice_index h.links.found (suc j)) ≡ true) ⊎ ((u == slice_index h.links.partner (suc j)) ≡ true) → u < g.vertices
          low u (inl e) = rw (test_true u (slice_index h.links.found (suc j)) e) (entry_low g x y h hedge (suc j) (omega arith))
          low u (inr e) = rw (test_true u (slice_index h.links.partner (suc j)) e) (partner_low g x y h hedge (suc j) (omega arith) (omega arith))

          both : (a b : ℕ) → ((a == slice_index h.links.found (suc j)) ≡ true) ⊎ ((a == slice_index h.links.partner (suc j)) ≡ true)
              → ((b == slice_index h.links.found (suc j)) ≡ true) ⊎ ((b == slice_index h.links.partner (suc j)) ≡ true)
              → a ≢ b → g.both a b ≡ true
          both a b (inl e) (inl f) ne = absurd (ne (test_true a (slice_index h.links.found (suc j)) e
              ∙ sym (test_true b (slice_index h.links.found (suc j)) f)))
          both a b (inl e) (inr f) ne = rw (test_true a (slice_index h.links.found (suc j)) e, test_true b (slice_index h.links.partner (suc j)) f) edge
          both a b (inr e) (inl f) ne = rw (test_true a (slice_index h.links.partner (suc j)) e, test_true b (slice_index h.links.found (suc j)) f)
              (graph.symmetric (slice_index h.links.found (suc j)) (slice_index h.links.partner (suc j)) edge)
          both a b (inr e) (inr f) ne = absurd (ne (test_true a (slice_index h.links.partner (suc j)) e
              ∙ sym (test_true b (slice_index h.links.partner (suc j)) f)))

      go : (j < h.links.count - 1) ⊎ (h.links.count - 1 ≤ j) → IsSoundCause g (weights_of causes j) (children_of causes j)
      go (inl l) = link l
      go (inr ge) = private (private_of j ge (let c = are.count in omega arith))
