-- Two models that differ on the joint effect, or on the effect among the treated, leave no formula for the latter.
use Rattle.std.proofs.Common.{ℕ, ◌*◌, ◌≡◌, ◌<◌, Bool, true, false, cond, refl, sym, ap, ap₂, ◌∙◌, ◌||◌, ◌&&◌, subst, nat_lt, ltb-true}
use Rattle.std.proofs.lemmas.Bool.{lt-ltb, le-ltb, cond-false}
use Rattle.mixed_graph.specs.Vocabulary.{has, MixedGraph, IsMixedGraph}
use Rattle.fractions.specs.Vocabulary.{Fraction, IsEqual, over}
use Rattle.fractions.proofs.FractionLaws.{equal_sym, equal_trans}
use Rattle.finite_models.specs.Vocabulary.{AgreeObserved, FiniteModel, Fits, IsAssignment, IsPositiveModel, solution, agree, intervene, weight_of, world_weight, total}
use Rattle.finite_models.proofs.Bools.{same_truth}
use Rattle.finite_models.proofs.Following.{intervene_alike}
use Rattle.finite_models.proofs.Solutions.{agree_from, agree_gives}
use Rattle.finite_models.proofs.SumLaws.{over-congr}
use Rattle.prob_expr.specs.Vocabulary.{PlainFormula, value_of}
use Rattle.treated_models.specs.NoFormula.{DifferenceExcludesAmong, DifferingExcludesAmong, DifferAmong, among_at}
use Rattle.treated_models.specs.NamedOnce.{FormulaNamesOnce}
use Rattle.treated_models.specs.Primes.{EqualsAmong, name_count, prime_of, vertex_of, as_observed, with_primes}
use Rattle.treated_models.specs.Treated.{is_both, effect_among, IsBefore, joined}
use Rattle.treated_models.proofs.Joint.{among_fixes_joint}
use Rattle.treated_models.proofs.NamedOnce.{vertex_low, names_in_second, observed_fixes_named}
use Rattle.treated_models.proofs.Primes.{vertex_plain, vertex_primed, prime_behind}

-- ---- effects read the values of vertices alone
agree_reads : (n : ℕ) (a : ℕ → Bool) (w s t : ℕ → ℕ) → ((v : ℕ) → v < n → s v ≡ t v) → agree n a w s ≡ agree n a w t
agree_reads n a w s t same = same_truth (agree n a w s) (agree n a w t)
    (λ e. agree_from n a w t (λ v il i. agree_gives n a w s e v il i ∙ same v il))
    (λ e. agree_from n a w s (λ v il i. agree_gives n a w t e v il i ∙ sym (same v il)))

among_reads : (m : FiniteModel) (x y o : ℕ → Bool) (s s' t t' : ℕ → ℕ) → ((v : ℕ) → x v ≡ true → v < m.vertices)
    → ((v : ℕ) → v < m.vertices → s v ≡ s' v) → ((v : ℕ) → v < m.vertices → t v ≡ t' v) → effect_among m x y o s t ≡ effect_among m x y o s' t'
among_reads m x y o s s' t t' low same_s same_t = ap₂ over
    (over-congr (λ j. true) m.values m.causes (λ u. cond (is_both m x y o s t u) (world_weight m u) 0)
    (λ u. cond (is_both m x y o s' t' u) (world_weight m u) 0) (λ j. 0)
    (λ u. ap (λ b. cond b (world_weight m u) 0) (ap₂ (λ p q. p && q)
    (ap (λ h. agree m.vertices y (solution h u) s) (intervene_alike m x s s' (λ v e. same_s v (low v e)))
    ∙ agree_reads m.vertices y (solution (intervene m x s') u) s s' same_s)
    (agree_reads m.vertices o (solution m u) t t' same_t))))
    (over-congr (λ j. true) m.values m.causes (λ u. cond (agree m.vertices o (solution m u) t) (world_weight m u) 0)
    (λ u. cond (agree m.vertices o (solution m u) t') (world_weight m u) 0) (λ j. 0)
    (λ u. ap (λ b. cond b (world_weight m u) 0) (agree_reads m.vertices o (solution m u) t t' same_t)))

-- ---- two assignments as one of names
module _ (n x : ℕ) (s t : ℕ → ℕ) where
  -- s at own names, t at primed names
  abbrev named : ℕ → ℕ
  named k = cond (nat_lt k n) (s k) (t (vertex_of n x k))

  named_within : (size : ℕ → ℕ) → IsAssignment n size s → IsAssignment n size t → IsAssignment (name_count n x) (λ k. size (vertex_of n x k)) named
  named_within size hs ht k lt = go (nat_lt k n) refl
    where
      go : (b : Bool) → nat_lt k n ≡ b → cond b (s k) (t (vertex_of n x k)) < size (vertex_of n x k)
      go true e = let l = ltb-true k n e in rw (ap size (vertex_plain n x k l)) (hs k l)
      go false e = ht (vertex_of n x k) (vertex_low n x k lt)

  named_own : (v : ℕ) → v < n → named v ≡ s v
  named_own v il = let e : nat_lt v n ≡ true = lt-ltb v n il in rw e refl

  named_observed : ((v : ℕ) → has x v ≡ false → t v ≡ s v) → (v : ℕ) → v < n → as_observed n x named v ≡ t v
  named_observed same v il = go (has x v) refl
    where
      go : (b : Bool) → has x v ≡ b → cond b (named (prime_of n x v)) (named v) ≡ t v
      go true e = ap (λ b. cond b (s (prime_of n x v)) (t (vertex_of n x (prime_of n x v)))) (le-ltb (prime_of n x v) n (prime_behind n x v))
          ∙ ap t (vertex_primed n x v il e)
      go false e = named_own v il ∙ sym (same v e)

-- the effect among those whose x was observed, at values of names
abbrev pub among : FiniteModel → (x y z : ℕ) → (ℕ → ℕ) → Fraction
among m x y z c = effect_among m (has x) (has y) (λ v. has x v || has z v) c (as_observed m.vertices x c)

module _ (g : MixedGraph) (ok : IsMixedGraph g) (m₁ m₂ : FiniteModel) (f₁ : Fits g m₁) (f₂ : Fits g m₂) (agreed : AgreeObserved m₁ m₂) (x y z : ℕ)
    (before : IsBefore g (has x) (λ v. has x v || has z v)) (x_low : (v : ℕ) → has x v ≡ true → v < g.vertices)
    (y_off_x : (v : ℕ) → has y v ≡ true → has x v ≡ false) (y_off_z : (v : ℕ) → has y v ≡ true → has z v ≡ false)
    (z_off_x : (v : ℕ) → has z v ≡ true → has x v ≡ false) where
  effect_at : (m : FiniteModel) → m.vertices ≡ g.vertices → (s t : ℕ → ℕ) → ((v : ℕ) → has x v ≡ false → t v ≡ s v)
      → among m x y z (named m.vertices x s t) ≡ effect_among m (has x) (has y) (λ v. has x v || has z v) s t
  effect_at m same s t elsewhere =
      among_reads m (has x) (has y) (λ v. has x v || has z v) (named m.vertices x s t) s (as_observed m.vertices x (named m.vertices x s t)) t
      (λ v e. rw same (x_low v e)) (named_own m.vertices x s t) (named_observed m.vertices x s t elsewhere)

  -- where two models have one effect among the observed, at all values of names, they have one joint effect
  pub names_fix_joint : ((c : ℕ → ℕ) → IsAssignment (with_primes m₁ x).vertices (with_primes m₁ x).size c → IsEqual (among m₁ x y z c) (among m₂ x y z c))
      → (s : ℕ → ℕ) → IsAssignment m₁.vertices m₁.size s
      → weight_of m₁ (has x) (λ v. has y v || has z v) s * total m₂ ≡ weight_of m₂ (has x) (λ v. has y v || has z v) s * total m₁
  names_fix_joint equal s within =
      among_fixes_joint g ok m₁ m₂ f₁ f₂ agreed (has x) (has y) (has z) before y_off_x y_off_z z_off_x s within
      (λ t inside elsewhere.
      subst (λ k. IsEqual (effect_among m₁ (has x) (has y) (λ v. has x v || has z v) s t) k)
      (ap (λ n. among m₂ x y z (named n x s t)) agreed.vertices ∙ effect_at m₂ f₂.vertices s t elsewhere)
      (subst (λ k. IsEqual k (among m₂ x y z (named m₁.vertices x s t))) (effect_at m₁ f₁.vertices s t elsewhere)
      (equal (named m₁.vertices x s t) (named_within m₁.vertices x s t m₁.size within inside))))

-- a formula that equals the effect among the observed in both models gives it one value
same_among : (g : MixedGraph) → IsMixedGraph g → (m₁ m₂ : FiniteModel) → Fits g m₁ → Fits g m₂ → IsPositiveModel m₁ → IsPositiveModel m₂
    → AgreeObserved m₁ m₂ → (x y z : ℕ) (f : PlainFormula) → FormulaNamesOnce g.vertices x f → EqualsAmong g x y z f
    → (c : ℕ → ℕ) → IsAssignment (with_primes m₁ x).vertices (with_primes m₁ x).size c → IsEqual (among m₁ x y z c) (among m₂ x y z c)
same_among g ok m₁ m₂ f₁ f₂ p₁ p₂ agreed x y z f once equals c hc =
    equal_trans (among m₁ x y z c) (value_of (with_primes m₁ x) f c) (among m₂ x y z c)
    (equal_sym (value_of (with_primes m₁ x) f c) (among m₁ x y z c) (equals m₁ f₁ p₁ c hc))
    (equal_trans (value_of (with_primes m₁ x) f c) (value_of (with_primes m₂ x) f c) (among m₂ x y z c)
    (observed_fixes_named g ok m₁ m₂ f₁ f₂ p₁ p₂ agreed x f once c hc)
    (equals m₂ f₂ p₂ c (names_in_second m₁ m₂ agreed.vertices agreed.sizes x c hc)))

pub difference_excludes_among : DifferenceExcludesAmong
difference_excludes_among g ok m₁ m₂ f₁ f₂ p₁ p₂ agreed x y z before x_low y_off_x y_off_z z_off_x s within differ f once equals =
    differ (names_fix_joint g ok m₁ m₂ f₁ f₂ agreed x y z before x_low y_off_x y_off_z z_off_x
    (same_among g ok m₁ m₂ f₁ f₂ p₁ p₂ agreed x y z f once equals) s within)

-- the effect among the observed at two assignments, as one of names
among_named : (m : FiniteModel) (x y z : ℕ) → ((v : ℕ) → has x v ≡ true → v < m.vertices) → (s t : ℕ → ℕ)
    → among m x y z (named m.vertices x s (joined (has x) s t)) ≡ among_at m x y z s t
among_named m x y z low s t =
    among_reads m (has x) (has y) (λ v. has x v || has z v) (named m.vertices x s (joined (has x) s t)) s
    (as_observed m.vertices x (named m.vertices x s (joined (has x) s t))) (joined (has x) s t) low
    (named_own m.vertices x s (joined (has x) s t))
    (named_observed m.vertices x s (joined (has x) s t) (λ v e. cond-false (has x v) (t v) (s v) e))

module _ (g : MixedGraph) (x y z : ℕ) (low : (v : ℕ) → has x v ≡ true → v < g.vertices) (d : DifferAmong g x y z) where
  -- the values of names at which two models differ
  abbrev pub point : ℕ → ℕ
  point = named d.first.vertices x d.at (joined (has x) d.at d.seen)

  pub point_within : IsAssignment (with_primes d.first x).vertices (with_primes d.first x).size point
  point_within = named_within d.first.vertices x d.at (joined (has x) d.at d.seen) d.first.size d.at_within (λ v lt. go v lt (has x v))
    where
      go : (v : ℕ) → v < d.first.vertices → (b : Bool) → cond b (d.seen v) (d.at v) < d.first.size v
      go v lt true = d.seen_within v lt
      go v lt false = d.at_within v lt

  pub differ_there : IsEqual (among d.first x y z point) (among d.second x y z point) → ⊥
  differ_there equal =
      d.unequal (subst (λ k. IsEqual k (among_at d.second x y z d.at d.seen))
      (among_named d.first x y z (λ v e. rw d.first_fits.vertices (low v e)) d.at d.seen)
      (subst (λ k. IsEqual (among d.first x y z point) k)
      (ap (λ n. among d.second x y z (named n x d.at (joined (has x) d.at d.seen))) d.observed.vertices
      ∙ among_named d.second x y z (λ v e. rw d.second_fits.vertices (low v e)) d.at d.seen)
      equal))

pub differing_excludes_among : DifferingExcludesAmong
differing_excludes_among g ok x y z low d f once equals =
    differ_there g x y z low d (same_among g ok d.first d.second d.first_fits d.second_fits d.first_positive d.second_positive d.observed x y z f once equals
    (point g x y z low d) (point_within g x y z low d))
