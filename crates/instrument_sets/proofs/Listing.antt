-- Listings of no set.
use Rattle.std.proofs.Common.{◌≡◌, ◌∙◌, ◌&&◌, [], ℕ, Bool, false, sym, arith, ◌↔◌, IsTrue}
use Rattle.std.proofs.lemmas.Bool.{false_from_ne_true, or_left}
use Rattle.mixed_graph.specs.Vocabulary.{has, MixedGraph, IsDescendant}
use Rattle.mixed_graph.proofs.Masks.{zero_from_empty}
use Rattle.finite_models.proofs.Bools.{and_first, and_second}
use Rattle.minimal_sets.specs.Vocabulary.{IsListingOf}
use Rattle.instrument_sets.specs.Strata.{AreMinimalStrata}

-- where there is no set of a kind, the empty list is their listing
pub nothing_listed : (P : (ℕ → Bool) → Type 0) (most : ℕ) → ((z : ℕ → Bool) → P z → ⊥) → IsListingOf P most [] false
nothing_listed P most none = record {
  each = λ k d lt. absurd (omega (arith, lt));
  sorted = λ i j d lt low. absurd (omega (arith, low));
  few = omega arith;
  all = λ m z k. absurd (none z k);
  full = λ m. absurd (grind (arith, m));
  another = λ m. absurd (grind (arith, m));
}

-- where x moves a member of z, z is an instrument in no strata
pub moved_none : (g : MixedGraph) (x y z below moved : ℕ) (w : ℕ → Bool) → ((v : ℕ) → IsTrue (has below v) ↔ IsDescendant g (has x) v)
    → ((v : ℕ) → has moved v ≡ (has z v && has below v)) → (moved ≡ 0 → ⊥) → AreMinimalStrata g (has x) (has y) (has z) w → ⊥
moved_none g x y z below moved w is meet some k = some (zero_from_empty moved (λ v. false_from_ne_true (has moved v)
    (λ e. let both = sym (meet v) ∙ e in k.instrument.unmoved v (or_left (has z v) (w v) (and_first (has z v) (has below v) both))
    ((is v).0 (and_second (has z v) (has below v) both)))))
