-- A model and a twist of it become positive by noise, and an event that has a world in one of them alone keeps two weights.
use Rattle.std.proofs.Common.{ℕ, suc, ◌+◌, ◌*◌, ◌≡◌, ◌≢◌, ◌<◌, ◌≤◌, Bool, false, refl, sym, ap, ◌∙◌, arith}
use Rattle.std.proofs.Math.Nat.{eq_of_mul-eq-mul_left}
use Rattle.mixed_graph.specs.Vocabulary.{has, MixedGraph, IsMixedGraph}
use Rattle.fractions.specs.Vocabulary.{IsEqual, over}
use Rattle.finite_models.specs.Vocabulary.{AgreeObserved, FiniteModel, Fits, IsAssignment, IsPositiveModel, event_weight, total}
use Rattle.finite_models.proofs.Weights.{weight_of-none}
use Rattle.prob_expr.proofs.Allowed.{events_under}
use Rattle.walk_models.specs.Noisy.{noisy}
use Rattle.walk_models.proofs.Near.{noisy_fits, noisy_two}
use Rattle.walk_models.proofs.Nearness.{extra_of, weight_where, has_weight, least, most}
use Rattle.walk_models.proofs.Rare.{scale_of, scale-some}
use Rattle.treated_models.proofs.Chain.{total_positive}
use Rattle.nested_models.specs.Vocabulary.{is_nested}
use Rattle.twisted_models.specs.Twisted.{with_mechanism, IsTwist}
use Rattle.twisted_models.specs.Pairs.{ApartDiffer}
use Rattle.twisted_models.proofs.Agreeing.{twists_agree}
use Rattle.twisted_models.proofs.Noise.{noisy_mechanism, noisy_twist, nested_same}

module _ (g : MixedGraph) (ok : IsMixedGraph g) (m : FiniteModel) (f : ℕ → (ℕ → ℕ) → (ℕ → ℕ) → ℕ) (fit : Fits g m) (fit' : Fits g (with_mechanism m f))
    (twist : IsTwist m f) where
  -- more noise than moves the weights of the twist by one
  abbrev pub noise : ℕ
  noise = suc (extra_of g ok (with_mechanism m f) fit')

  some : 1 ≤ noise
  some = omega arith

  abbrev pub first : FiniteModel
  first = noisy noise m

  abbrev pub second : FiniteModel
  second = noisy noise (with_mechanism m f)

  pub first_fits : Fits g first
  first_fits = noisy_fits g m fit noise some

  pub second_fits : Fits g second
  second_fits = noisy_fits g (with_mechanism m f) fit' noise some

  pub first_positive : IsPositiveModel first
  first_positive s within = has_weight g ok m fit noise some s within

  pub second_positive : IsPositiveModel second
  second_positive s within = has_weight g ok (with_mechanism m f) fit' noise some s within

  pub agreed : AgreeObserved first second
  agreed = twists_agree g ok first (noisy_mechanism m f twist noise) first_fits second_fits (noisy_twist m f twist noise)

  -- the given event weighs the same in both
  module _ (z : ℕ → Bool) (s : ℕ → ℕ) (within : IsAssignment m.vertices m.size s) where
    total_some : 1 ≤ total first
    total_some = total_positive g ok first first_fits first_positive s within

    in_ratio : event_weight first z s * total first ≡ event_weight second z s * total first
    in_ratio = ap (λ n. n * total first) (sym (weight_of-none first (λ v. false) z s (λ v. refl)))
        ∙ events_under g ok first second first_fits second_fits (λ v. false) agreed z s within
        ∙ ap (λ n. n * total first) (weight_of-none second (λ v. false) z s (λ v. refl))

    given_same : event_weight first z s ≡ event_weight second z s
    given_same = eq_of_mul-eq-mul_left (total first) total_some (event_weight first z s) (event_weight second z s)
        ((let e : total first * event_weight first z s ≡ event_weight first z s * total first = omega arith in e) ∙ in_ratio
        ∙ (let e : event_weight second z s * total first ≡ total first * event_weight second z s = omega arith in e))

    one_top : (a b p q : ℕ) → p ≡ q → 1 ≤ p → a * q ≡ b * p → a ≡ b
    one_top a b p q same pos e = eq_of_mul-eq-mul_left p pos a b
        ((let h : p * a ≡ a * p = omega arith in h) ∙ ap (λ n. a * n) same ∙ e ∙ (let h : b * p ≡ p * b = omega arith in h))

    -- A test of a world of each, which without noise is one of the models without noise, where some world passes the one and none the other: then its
    -- probabilities, given z, differ.
    pub tests_differ : (e₁ e₂ f₁ f₂ : (ℕ → ℕ) → Bool)
        → ((u : ℕ → ℕ) → ((v : ℕ) → v < m.vertices → u (m.causes + v) ≡ 0) → e₁ u ≡ f₁ u)
        → ((u : ℕ → ℕ) → ((v : ℕ) → v < m.vertices → u (m.causes + v) ≡ 0) → e₂ u ≡ f₂ u)
        → weight_where m f₁ ≢ 0 → weight_where (with_mechanism m f) f₂ ≡ 0
        → IsEqual (over (weight_where first e₁) (event_weight first z s)) (over (weight_where second e₂) (event_weight second z s)) → ⊥
    tests_differ e₁ e₂ f₁ f₂ same₁ same₂ possible impossible equal = beyond (weight_where m f₁) (weight_where (with_mechanism m f) f₂)
        (weight_where first e₁) (weight_where second e₂) (scale_of noise m.vertices) (extra_of g ok (with_mechanism m f) fit') possible impossible
        (scale-some noise m.vertices some)
        (one_top (weight_where first e₁) (weight_where second e₂) (event_weight first z s) (event_weight second z s) given_same equal.left_bottom
        equal.products)
        (least g ok m fit noise some e₁ f₁ same₁) (most g ok (with_mechanism m f) fit' noise some e₂ f₂ same₂)
      where
        beyond : (a b p q scale extra : ℕ) → a ≢ 0 → b ≡ 0 → 1 ≤ scale → p ≡ q → scale * a ≤ p → suc extra * q ≤ scale * (suc extra * b + extra) → ⊥
        beyond a b p q scale extra ne none pos e low high = absurd (grind (arith, ne, none, pos, e, low, high))

pub apart_differ : ApartDiffer
apart_differ g ok x m y z pair =
    let model = pair.model in
    let twisted = with_mechanism pair.model pair.twisted in
    record {
      first = first g ok model pair.twisted pair.fits pair.twisted_fits pair.is_twist;
      second = second g ok model pair.twisted pair.fits pair.twisted_fits pair.is_twist;
      first_fits = first_fits g ok model pair.twisted pair.fits pair.twisted_fits pair.is_twist;
      second_fits = second_fits g ok model pair.twisted pair.fits pair.twisted_fits pair.is_twist;
      first_positive = first_positive g ok model pair.twisted pair.fits pair.twisted_fits pair.is_twist;
      second_positive = second_positive g ok model pair.twisted pair.fits pair.twisted_fits pair.is_twist;
      first_two = noisy_two (noise g ok model pair.twisted pair.fits pair.twisted_fits pair.is_twist) model pair.two;
      second_two = noisy_two (noise g ok model pair.twisted pair.fits pair.twisted_fits pair.is_twist) twisted
          (record { one = pair.two.one; other = pair.two.other; serves = pair.two.serves });
      agree = agreed g ok model pair.twisted pair.fits pair.twisted_fits pair.is_twist;
      s = pair.s;
      t = pair.t;
      s_values = pair.s_values;
      t_values = pair.t_values;
      differ = tests_differ g ok model pair.twisted pair.fits pair.twisted_fits pair.is_twist (has z) pair.s pair.s_values
          (is_nested (first g ok model pair.twisted pair.fits pair.twisted_fits pair.is_twist) (has x) (has m) (has y) (has z) pair.s pair.t)
          (is_nested (second g ok model pair.twisted pair.fits pair.twisted_fits pair.is_twist) (has x) (has m) (has y) (has z) pair.s pair.t)
          (is_nested model (has x) (has m) (has y) (has z) pair.s pair.t) (is_nested twisted (has x) (has m) (has y) (has z) pair.s pair.t)
          (λ u calm. nested_same g ok model pair.fits (noise g ok model pair.twisted pair.fits pair.twisted_fits pair.is_twist)
          (some g ok model pair.twisted pair.fits pair.twisted_fits pair.is_twist) u calm (has x) (has m) (has y) (has z) pair.s pair.t)
          (λ u calm. nested_same g ok twisted pair.twisted_fits (noise g ok model pair.twisted pair.fits pair.twisted_fits pair.is_twist)
          (some g ok model pair.twisted pair.fits pair.twisted_fits pair.is_twist) u calm (has x) (has m) (has y) (has z) pair.s pair.t)
          pair.possible pair.impossible;
    }
