-- What x doesn't move is closed under parents; a fact of numbers may be proved as if it had a test.
use Rattle.std.proofs.Common.{ℕ, ◌≡◌, Bool, true, false, not, refl, ◌∷◌, [], ◌++◌, ◌||◌, arith}
use Rattle.std.proofs.lemmas.Bool.{false_from_ne_true, not_from_false, or_left, or_right}
use Rattle.mixed_graph.specs.Vocabulary.{MixedGraph, IsMixedGraph, IsDescendant}
use Rattle.mixed_graph.proofs.Paths.{path_push}
use Rattle.finite_models.proofs.Bools.{not_both}
use Rattle.finite_models.proofs.Solutions.{IsClosed}
use Rattle.finite_models.proofs.Tested.{Test, tested, stable}
use Rattle.natural_bounds.specs.Instruments.{IsInstrument}

-- a set with z and w that has its parents and no member of x
pub record Before (g : MixedGraph) (x z w : ℕ → Bool) : Type 0 where
  pub before : ℕ → Bool
  pub closed : IsClosed g before
  pub has_z : (v : ℕ) → z v ≡ true → before v ≡ true
  pub has_w : (v : ℕ) → w v ≡ true → before v ≡ true
  pub no_x : (v : ℕ) → before v ≡ true → x v ≡ false

not-true : (p : Bool) → not p ≡ true → p ≡ false
not-true true e = absurd (grind (arith, e))
not-true false e = refl

module _ (g : MixedGraph) (ok : IsMixedGraph g) (x y z w : ℕ → Bool) (e : IsInstrument g x y z w) where
  child : (p v : ℕ) → g.arrow p v ≡ true → IsDescendant g x p → IsDescendant g x v
  child p v a d = record {
    vertex = ok.head_below p v a;
    path = d.path ++ v ∷ [];
    start = d.start;
    leads = path_push g d.start p v d.path d.leads a;
    inside = d.inside;
  }

  before_of : Test (IsDescendant g x) g.vertices → Before g x z w
  before_of t = record {
    before = λ v. not (t.test v);
    closed = λ p v a b. not_from_false (t.test p) (false_from_ne_true (t.test p)
        (λ d. not_both (t.test v) (t.complete v (ok.head_below p v a) (child p v a (t.sound p d))) (not-true (t.test v) b)));
    has_z = λ v i. unmoved v (or_left (z v) (w v) i);
    has_w = λ v i. unmoved v (or_right (z v) (w v) i);
    no_x = λ v b. false_from_ne_true (x v) (λ i. not_both (t.test v) (t.complete v (e.sets.x_within v i)
        (record { vertex = e.sets.x_within v i; path = []; start = v; leads = refl; inside = i })) (not-true (t.test v) b));
  }
    where
      unmoved : (v : ℕ) → (z v || w v) ≡ true → not (t.test v) ≡ true
      unmoved v i = not_from_false (t.test v) (false_from_ne_true (t.test v) (λ d. e.unmoved v i (t.sound v d)))

  pub with_before : (a b : ℕ) → (Before g x z w → a ≡ b) → a ≡ b
  with_before a b h = stable a b (λ differ. tested (IsDescendant g x) g.vertices (λ t. differ (h (before_of t))))
