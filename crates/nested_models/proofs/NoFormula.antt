-- Two models that differ on the nested effect leave no formula for it.
use Rattle.std.proofs.Common.{ℕ, ◌*◌, ◌≡◌, ◌<◌, Bool, true, false, cond, refl, sym, ap, ap₂, ◌∙◌, ◌||◌, ◌&&◌, subst, nat_lt, ltb-true, arith}
use Rattle.std.proofs.lemmas.Bool.{cond-true, lt-ltb, le-ltb}
use Rattle.std.proofs.Math.Nat.{eq_of_mul-eq-mul_left}
use Rattle.mixed_graph.specs.Vocabulary.{has, MixedGraph, IsMixedGraph}
use Rattle.fractions.specs.Vocabulary.{Fraction, IsEqual, over}
use Rattle.fractions.proofs.FractionLaws.{equal_sym, equal_trans}
use Rattle.finite_models.specs.Vocabulary.{AgreeObserved, FiniteModel, Fits, IsAssignment, IsPositiveModel, solution, agree, event_weight, intervene, weight_of, world_weight, total}
use Rattle.finite_models.proofs.Bools.{same_truth}
use Rattle.finite_models.proofs.Following.{intervene_alike}
use Rattle.finite_models.proofs.Solutions.{agree_from, agree_gives}
use Rattle.finite_models.proofs.SumLaws.{over-congr}
use Rattle.finite_models.proofs.Weights.{weight_of-none}
use Rattle.prob_expr.proofs.Allowed.{events_under, in_second}
use Rattle.prob_expr.specs.Vocabulary.{PlainFormula, value_of}
use Rattle.treated_models.specs.Vocabulary.{FormulaNamesOnce, name_count, prime_of, vertex_of, as_observed, with_primes}
use Rattle.treated_models.proofs.NamedOnce.{vertex_low, observed_fixes_named}
use Rattle.treated_models.proofs.Primes.{vertex_plain, vertex_primed, prime_behind}
use Rattle.nested_models.specs.Nested.{nested, is_nested, nested_effect, IsNestedQuery}
use Rattle.nested_models.specs.NoFormula.{DifferenceExcludesNested, EffectExcludesNested}
use Rattle.nested_models.proofs.Effects.{one_value_is_effect}

-- ---- the nested effect reads the first values at vertices alone, and the second on x alone
agree_reads : (n : ℕ) (a : ℕ → Bool) (w s t : ℕ → ℕ) → ((v : ℕ) → v < n → s v ≡ t v) → agree n a w s ≡ agree n a w t
agree_reads n a w s t same = same_truth (agree n a w s) (agree n a w t)
    (λ e. agree_from n a w t (λ v il i. agree_gives n a w s e v il i ∙ same v il))
    (λ e. agree_from n a w s (λ v il i. agree_gives n a w t e v il i ∙ sym (same v il)))

module _ (w : FiniteModel) (x m y z : ℕ → Bool) (low : (v : ℕ) → x v ≡ true → v < w.vertices) (s s' t t' : ℕ → ℕ)
    (same_s : (v : ℕ) → v < w.vertices → s v ≡ s' v) (same_t : (v : ℕ) → x v ≡ true → t v ≡ t' v) where
  same_world : (u : ℕ → ℕ) → nested w x m s t u ≡ nested w x m s' t' u
  same_world u =
      ap (λ h. solution (intervene w (λ v. x v || m v) (λ v. cond (m v) (solution h u v) (s v))) u) (intervene_alike w x t t' same_t)
      ∙ ap (λ h. solution h u) (intervene_alike w (λ v. x v || m v) (λ v. cond (m v) (other v) (s v)) (λ v. cond (m v) (other v) (s' v))
      (λ v e. set v (x v) (m v) refl e))
    where
      other : ℕ → ℕ
      other = solution (intervene w x t') u

      set : (v : ℕ) (b c : Bool) → x v ≡ b → (b || c) ≡ true → cond c (other v) (s v) ≡ cond c (other v) (s' v)
      set v b true q e = refl
      set v true false q e = same_s v (low v q)
      set v false false q e = absurd (grind (arith, e))

  effect_reads : nested_effect w x m y z s t ≡ nested_effect w x m y z s' t'
  effect_reads = ap₂ over
      (over-congr (λ j. true) w.values w.causes (λ u. cond (is_nested w x m y z s t u) (world_weight w u) 0)
      (λ u. cond (is_nested w x m y z s' t' u) (world_weight w u) 0) (λ j. 0)
      (λ u. ap (λ b. cond b (world_weight w u) 0) (ap₂ (λ p q. p && q)
      (ap (λ r. agree w.vertices y r s) (same_world u) ∙ agree_reads w.vertices y (nested w x m s' t' u) s s' same_s)
      (agree_reads w.vertices z (solution w u) s s' same_s))))
      (over-congr (λ j. true) w.values w.causes (λ u. cond (agree w.vertices z (solution w u) s) (world_weight w u) 0)
      (λ u. cond (agree w.vertices z (solution w u) s') (world_weight w u) 0) (λ j. 0)
      (λ u. ap (λ b. cond b (world_weight w u) 0) (agree_reads w.vertices z (solution w u) s s' same_s)))

-- ---- two assignments as one of names
module _ (n x : ℕ) (s t : ℕ → ℕ) where
  -- s at own names, t at primed names
  abbrev named : ℕ → ℕ
  named k = cond (nat_lt k n) (s k) (t (vertex_of n x k))

  named_within : (size : ℕ → ℕ) → IsAssignment n size s → IsAssignment n size t → IsAssignment (name_count n x) (λ k. size (vertex_of n x k)) named
  named_within size hs ht k lt = go (nat_lt k n) refl
    where
      go : (b : Bool) → nat_lt k n ≡ b → cond b (s k) (t (vertex_of n x k)) < size (vertex_of n x k)
      go true e = let l = ltb-true k n e in rw (ap size (vertex_plain n x k l)) (hs k l)
      go false e = ht (vertex_of n x k) (vertex_low n x k lt)

  named_own : (v : ℕ) → v < n → named v ≡ s v
  named_own v il = let e : nat_lt v n ≡ true = lt-ltb v n il in rw e refl

  named_second : ((v : ℕ) → has x v ≡ true → v < n) → (v : ℕ) → has x v ≡ true → as_observed n x named v ≡ t v
  named_second low v e =
      cond-true (has x v) (named (prime_of n x v)) (named v) e
      ∙ ap (λ b. cond b (s (prime_of n x v)) (t (vertex_of n x (prime_of n x v)))) (le-ltb (prime_of n x v) n (prime_behind n x v))
      ∙ ap t (vertex_primed n x v (low v e) e)

-- the formula has the value of the nested effect in the model, at each assignment of values to names
abbrev pub EqualsIn : FiniteModel → (x m y z : ℕ) → PlainFormula → Type 0
EqualsIn w x m y z f = (s : ℕ → ℕ) → IsAssignment (with_primes w x).vertices (with_primes w x).size s
    → IsEqual (value_of (with_primes w x) f s) (nested_effect w (has x) (has m) (has y) (has z) s (as_observed w.vertices x s))

-- it hasn't in both of two models that agree on observations and differ
pub not_in_both : (g : MixedGraph) → IsMixedGraph g → (m₁ m₂ : FiniteModel) → Fits g m₁ → Fits g m₂ → IsPositiveModel m₁ → IsPositiveModel m₂
    → AgreeObserved m₁ m₂ → (x m y z : ℕ) → ((v : ℕ) → has x v ≡ true → v < g.vertices)
    → (s t : ℕ → ℕ) → IsAssignment m₁.vertices m₁.size s → IsAssignment m₁.vertices m₁.size t
    → (IsEqual (nested_effect m₁ (has x) (has m) (has y) (has z) s t) (nested_effect m₂ (has x) (has m) (has y) (has z) s t) → ⊥)
    → (f : PlainFormula) → FormulaNamesOnce g.vertices x f → EqualsIn m₁ x m y z f → EqualsIn m₂ x m y z f → ⊥
not_in_both g ok m₁ m₂ f₁ f₂ p₁ p₂ agreed x m y z x_low s t hs ht differ f once equals₁ equals₂ =
    let in₁ = named_within m₁.vertices x s t m₁.size hs ht in
    let in₂ = named_within m₂.vertices x s t m₂.size (in_second m₁ m₂ agreed.vertices agreed.sizes s hs)
    (in_second m₁ m₂ agreed.vertices agreed.sizes t ht) in
    let first = subst (λ k. IsEqual (value_of (with_primes m₁ x) f (named m₁.vertices x s t)) k) (effect_at m₁ f₁.vertices)
    (equals₁ (named m₁.vertices x s t) in₁) in
    let second = subst (λ k. IsEqual (value_of (with_primes m₂ x) f (named m₂.vertices x s t)) k) (effect_at m₂ f₂.vertices)
    (equals₂ (named m₂.vertices x s t) in₂) in
    let both = subst (λ n. IsEqual (value_of (with_primes m₁ x) f (named m₁.vertices x s t)) (value_of (with_primes m₂ x) f (named n x s t)))
    agreed.vertices (observed_fixes_named g ok m₁ m₂ f₁ f₂ p₁ p₂ agreed x f once (named m₁.vertices x s t) in₁) in
    differ (equal_trans (effect m₁) (value_of (with_primes m₁ x) f (named m₁.vertices x s t)) (effect m₂)
    (equal_sym (value_of (with_primes m₁ x) f (named m₁.vertices x s t)) (effect m₁) first)
    (equal_trans (value_of (with_primes m₁ x) f (named m₁.vertices x s t)) (value_of (with_primes m₂ x) f (named m₂.vertices x s t)) (effect m₂) both second))
  where
    effect : FiniteModel → Fraction
    effect w = nested_effect w (has x) (has m) (has y) (has z) s t

    effect_at : (w : FiniteModel) → w.vertices ≡ g.vertices
        → nested_effect w (has x) (has m) (has y) (has z) (named w.vertices x s t) (as_observed w.vertices x (named w.vertices x s t)) ≡ effect w
    effect_at w same =
        let low : (v : ℕ) → has x v ≡ true → v < w.vertices = λ v e. rw same (x_low v e) in
        effect_reads w (has x) (has m) (has y) (has z) low (named w.vertices x s t) s (as_observed w.vertices x (named w.vertices x s t)) t
        (named_own w.vertices x s t) (named_second w.vertices x s t low)

pub difference_excludes_nested : DifferenceExcludesNested
difference_excludes_nested g ok m₁ m₂ f₁ f₂ p₁ p₂ agreed x m y z x_low s t hs ht differ f once equals =
    not_in_both g ok m₁ m₂ f₁ f₂ p₁ p₂ agreed x m y z x_low s t hs ht differ f once (equals m₁ f₁ p₁) (equals m₂ f₂ p₂)

-- ---- the effect
module _ (g : MixedGraph) (ok : IsMixedGraph g) (m₁ m₂ : FiniteModel) (f₁ : Fits g m₁) (f₂ : Fits g m₂) (agreed : AgreeObserved m₁ m₂) (x m y z : ℕ → Bool)
    (asked : IsNestedQuery g x m y z) (s : ℕ → ℕ) (hs : IsAssignment m₁.vertices m₁.size s) where
  abbrev joint : FiniteModel → ℕ
  joint w = weight_of w x (λ v. y v || z v) s

  given_agree : event_weight m₁ z s * total m₂ ≡ event_weight m₂ z s * total m₁
  given_agree = ap (λ k. k * total m₂) (sym (weight_of-none m₁ (λ v. false) z s (λ v. refl)))
      ∙ events_under g ok m₁ m₂ f₁ f₂ (λ v. false) agreed z s hs
      ∙ ap (λ k. k * total m₁) (weight_of-none m₂ (λ v. false) z s (λ v. refl))

  cancelled : (w₁ w₂ e₁ e₂ t₁ t₂ : ℕ) → w₁ * e₂ ≡ w₂ * e₁ → e₁ * t₂ ≡ e₂ * t₁ → e₁ * (w₁ * t₂) ≡ e₁ * (w₂ * t₁)
  cancelled w₁ w₂ e₁ e₂ t₁ t₂ p q =
      (let k : e₁ * (w₁ * t₂) ≡ w₁ * (e₁ * t₂) = omega arith in k) ∙ ap (λ k. w₁ * k) q
      ∙ (let k : w₁ * (e₂ * t₁) ≡ (w₁ * e₂) * t₁ = omega arith in k) ∙ ap (λ k. k * t₁) p
      ∙ (let k : (w₂ * e₁) * t₁ ≡ e₁ * (w₂ * t₁) = omega arith in k)

  at : (w : FiniteModel) → Fits g w → IsAssignment w.vertices w.size s → nested_effect w x m y z s s ≡ over (joint w) (event_weight w z s)
  at w fit within = ap (λ n. over n (event_weight w z s)) (one_value_is_effect g ok w fit x m y z asked s s within within (λ v e. refl))

  one_effect : IsEqual (nested_effect m₁ x m y z s s) (nested_effect m₂ x m y z s s) → joint m₁ * total m₂ ≡ joint m₂ * total m₁
  one_effect same =
      let equal : IsEqual (over (joint m₁) (event_weight m₁ z s)) (over (joint m₂) (event_weight m₂ z s)) =
      subst (λ a. IsEqual a (over (joint m₂) (event_weight m₂ z s))) (at m₁ f₁ hs) (subst (IsEqual (nested_effect m₁ x m y z s s))
      (at m₂ f₂ (in_second m₁ m₂ agreed.vertices agreed.sizes s hs)) same) in
      eq_of_mul-eq-mul_left (event_weight m₁ z s) equal.left_bottom (joint m₁ * total m₂) (joint m₂ * total m₁)
      (cancelled (joint m₁) (joint m₂) (event_weight m₁ z s) (event_weight m₂ z s) (total m₁) (total m₂) equal.products given_agree)

pub effect_excludes_nested : EffectExcludesNested
effect_excludes_nested g ok m₁ m₂ f₁ f₂ p₁ p₂ agreed x m y z asked x_low s hs differ =
    difference_excludes_nested g ok m₁ m₂ f₁ f₂ p₁ p₂ agreed x m y z x_low s s hs hs
    (λ same. differ (one_effect g ok m₁ m₂ f₁ f₂ agreed (has x) (has m) (has y) (has z) asked s hs same))
