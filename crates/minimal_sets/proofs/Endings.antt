-- The listing when it ends.
use Rattle.std.proofs.Common.{◌≡◌, ◌≢◌, ℕ, ◌≤◌, ◌<◌, ◌==◌, Bool, true, false, not, ◌⊎◌, inl, inr, refl, sym, ap, ◌∙◌, List, [], ◌∷◌, length, arith, subst}
use Rattle.std.specs.List.{AllPairs}
use Rattle.std.specs.List.Sorted.{IsPermutation}
use Rattle.std.proofs.lemmas.Bool.{eq-eqb, eqb-true}
use Rattle.std.proofs.lemmas.List.Sorted.{All-permutation, length_permutation}
use Rattle.mixed_graph.specs.declared.sets.VSet.{VSet}
use Rattle.mixed_graph.specs.Vocabulary.{has}
use Rattle.minimal_sets.specs.Branches.{IsIn}
use Rattle.minimal_sets.specs.Separators.{IsMinimalSeparator}
use Rattle.minimal_sets.specs.Listings.{IsTestOf, IsBefore, IsListingOf}
use Rattle.minimal_sets.specs.Lists.{Each, SomeOf}
use Rattle.minimal_sets.specs.Progress.{IsSoFar, AreGathered}
use Rattle.minimal_sets.specs.declared.separators.branching.Node.{Node}
use Rattle.minimal_sets.proofs.ListFacts.{each_from_none, each_map, each_all, some_any, any_permuted}
use Rattle.minimal_sets.proofs.SoFar.{all_other}

module _ (near : ℕ → ℕ → Bool) (R X Y : ℕ → Bool) (low : (v : ℕ) → R v ≡ true → v < 64) where
  another : (sets : List VSet) (n : Node) (todo : List Node) → IsSoFar near R X Y sets (n ∷ todo) → (s : VSet) × IsMinimalSeparator near R X Y (has s.bits)
      × (Each (λ t. t.bits ≡ s.bits → ⊥) sets)
  another sets n todo l = (
    n.separator,
    l.nodes.0.here.minimal,
    each_map (λ s. IsTestOf (has n.separator.bits) s → ⊥) (λ t. t.bits ≡ n.separator.bits → ⊥) sets (λ s h e. h (λ v. ap (λ b. has b v) (sym e)))
        (each_from_none (IsTestOf (has n.separator.bits)) sets
        (l.away.0 (has n.separator.bits) (record { minimal = l.nodes.0.here.minimal; side = l.nodes.0.here.side_is; keeps = l.nodes.0.kept }))),
  )

  some_another : (sets : List VSet) (todo : List Node) → IsSoFar near R X Y sets todo → (todo ≡ [] → ⊥) → (s : VSet)
      × IsMinimalSeparator near R X Y (has s.bits) × (Each (λ t. t.bits ≡ s.bits → ⊥) sets)
  some_another sets [] l h = absurd (h refl)
  some_another sets (n ∷ todo) l h = another sets n todo l

  -- no branch is left
  pub ended : (most : ℕ) (sets : List VSet) (todo : List Node) → IsSoFar near R X Y sets todo → length sets ≤ most → todo ≡ []
      → AreGathered (IsMinimalSeparator near R X Y) most sets false
  ended most sets todo l few none = record {
    each = each_all (λ s. IsMinimalSeparator near R X Y (has s.bits)) sets l.each;
    once = all_other near R X Y low sets l.each l.once;
    few = few;
    all = λ m z k. elim (subst (λ t. SomeOf (IsTestOf z) sets ⊎ SomeOf (λ n. IsIn near R X Y n z) t) none (l.all z k))
        [ inl s ↦ some_any (IsTestOf z) sets s | inr s ↦ absurd s ];
    full = λ m. absurd (grind (arith, m));
    another = λ m. absurd (grind (arith, m));
  }

  -- a branch is left
  pub stopped : (most : ℕ) (sets : List VSet) (todo : List Node) → IsSoFar near R X Y sets todo → length sets ≡ most
      → (todo ≡ [] → ⊥) → AreGathered (IsMinimalSeparator near R X Y) most sets true
  stopped most sets todo l full some = record {
    each = each_all (λ s. IsMinimalSeparator near R X Y (has s.bits)) sets l.each;
    once = all_other near R X Y low sets l.each l.once;
    few = omega (arith, full);
    all = λ m. absurd (grind (arith, m));
    full = λ m. full;
    another = λ m. let a = some_another sets todo l some in (a.0, a.1, each_all (λ t. t.bits ≡ a.0.bits → ⊥) sets a.2);
  }

  pub either_end : (most : ℕ) (sets : List VSet) (todo : List Node) (more : Bool) → IsSoFar near R X Y sets todo → length sets ≡ most
      → (more ≡ true → todo ≡ [] → ⊥) → (more ≡ false → todo ≡ [])
      → AreGathered (IsMinimalSeparator near R X Y) most sets more
  either_end most sets todo true l full some none = stopped most sets todo l full (some refl)
  either_end most sets todo false l full some none = ended most sets todo l (omega (arith, full)) (none refl)

-- what is gathered, in ascending order
pub sorted_listing : (P : (ℕ → Bool) → Type 0) (most : ℕ) (old new : List VSet) (more : Bool) → AreGathered P most old more → IsPermutation old new
    → AllPairs IsBefore new → IsListingOf P most new more
sorted_listing P most old new more a moved sorted = record {
  each = All-permutation (λ s. P (has s.bits)) old new moved a.each;
  sorted = sorted;
  few = let same = length_permutation old new moved in let few = a.few in omega arith;
  all = λ m z k. any_permuted (IsTestOf z) old new moved (a.all m z k);
  full = λ m. length_permutation old new moved ∙ a.full m;
  another = λ m. let s = a.another m in (s.0, s.1, All-permutation (λ t. t.bits ≢ s.0.bits) old new moved s.2);
}

pub empty_items : (todo : List Node) → length todo ≡ 0 → todo ≡ []
empty_items [] e = refl
empty_items (n ∷ ns) e = absurd (omega (arith, e))

pub not_empty : (n : ℕ) (b : Bool) → b ≡ (n == 0) → not b ≡ true → n ≡ 0 → ⊥
not_empty n true e m z = absurd (grind (arith, m))
not_empty n false e m z = let q : (n == 0) ≡ true = eq-eqb n 0 z in grind (arith, q, e)

pub is_zero : (n : ℕ) (b : Bool) → b ≡ (n == 0) → not b ≡ false → n ≡ 0
is_zero n true e m = eqb-true n 0 (sym e)
is_zero n false e m = absurd (grind (arith, m))
