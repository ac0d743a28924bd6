-- Where one stratum exceeds the effect, the formula isn't the effect.
use Rattle.std.proofs.Common.{ℕ, ◌+◌, ◌*◌, ◌≡◌, ◌<◌, ◌≤◌, Bool, true, false, cond, refl, sym, ap, ◌∙◌, ◌||◌, arith, eqb-true}
use Rattle.std.proofs.Math.Nat.{mul-le-mul_left}
use Rattle.mixed_graph.specs.Vocabulary.{has, MixedGraph, IsMixedGraph, union, is_empty}
use Rattle.mixed_graph.proofs.Masks.{has-zero}
use Rattle.fractions.specs.Vocabulary.{Fraction, over, IsEqual, IsPositive}
use Rattle.finite_models.specs.Vocabulary.{FiniteModel, IsAssignment, event_weight, weight_of, total}
use Rattle.finite_models.proofs.Weights.{weight-none, weight_of-none}
use Rattle.prob_expr.specs.Tree.{prob, product, tree}
use Rattle.prob_expr.specs.Vocabulary.{no_trees, effect_on, weights_of, value, effect, add_over, FailsSomewhere}
use Rattle.prob_expr.proofs.Boxes.{assignment_set}
use Rattle.prob_expr.proofs.ValueLaws.{value_positive}
use Rattle.walk_models.specs.Vocabulary.{IsBelowSomewhere, event}
use Rattle.adjustment.specs.Formulas.{adjusted_sum, adjustment_formula}
use Rattle.adjustment.proofs.Observed.{no_bits, turned, turned_pair, turned_one, joined, whole, observed, all_worlds}
use Rattle.adjustment.proofs.SingleTerms.{IsAtMost, single_term}

-- in some positive model one stratum exceeds the effect: P(z) * P(y | x, z) is above P(y | do(x))
abbrev pub Exceeds : MixedGraph → (x y z : ℕ → Bool) → Type 0
Exceeds g x y z = IsBelowSomewhere g (event x y) (event (λ v. false) (λ v. x v || z v)) (event (λ v. false) (λ v. x v || (y v || z v))) (event (λ v. false) z)

-- p / q is the formula's value, and a term of it is z * xyz / (t * xz); the effect e / t is below that term
not_the_effect : (z xyz xz t e p q : ℕ) → 1 ≤ q → e * xz < xyz * z → (z * (xyz * 1)) * q ≤ p * (t * (xz * 1)) → p * t ≡ e * q → ⊥
not_the_effect z xyz xz t e p q some lt term equal =
    absurd (omega (arith, mul-le-mul_left q (let s : e * xz + 1 ≤ xyz * z = omega (arith, lt) in s), term, ap (λ r. r * xz) equal, some))

not_alone : (z xyz xz t e : ℕ) → z ≡ t → e * xz < xyz * z → xyz * t ≡ e * xz → ⊥
not_alone z xyz xz t e same lt equal = absurd (omega (arith, lt, equal, ap (λ r. xyz * r) same))

module _ (g : MixedGraph) (ok : IsMixedGraph g) (x y z : ℕ) (d : Exceeds g (has x) (has y) (has z)) where
  abbrev m : FiniteModel
  m = d.model

  abbrev s : ℕ → ℕ
  s = d.at

  abbrev seen : (ℕ → Bool) → ℕ
  seen a = event_weight m a s

  seen_is : (a : ℕ → Bool) → weight_of m (λ v. false) a s ≡ seen a
  seen_is a = weight_of-none m (λ v. false) a s (λ v. refl)

  exceeded : weight_of m (has x) (has y) s * seen (λ v. has x v || has z v) < seen (λ v. has x v || (has y v || has z v)) * seen (has z)
  exceeded = rw (sym (seen_is (λ v. has x v || has z v)), sym (seen_is (λ v. has x v || (has y v || has z v))), sym (seen_is (has z))) d.less.below

  effect_top : weight_of m (has x) (λ v. has y v || has 0 v) s ≡ weight_of m (has x) (has y) s
  effect_top = ap (λ a. weight_of m (has x) a s) (no_bits (has y))

  -- ---- an empty z
  alone : ((v : ℕ) → has z v ≡ false) → IsEqual (value (weights_of m) (λ j t. over 1 1) (prob y 0 x) s) (effect m (effect_on x y) s) → ⊥
  alone none e = not_alone (seen (has z)) (seen (λ v. has x v || (has y v || has z v))) (seen (λ v. has x v || has z v)) (total m)
      (weight_of m (has x) (has y) s)
      (weight-none m (has z) s none) exceeded
      (sym (ap (λ n. n * total m) (observed m (λ v. has y v || has x v) (λ v. has x v || (has y v || has z v)) s (turned_pair x y z none)))
      ∙ ap (λ n. weight_of m (has 0) (λ v. has y v || has x v) s * n) (sym (whole m x s)) ∙ e.products
      ∙ ap (λ n. n * weight_of m (has 0) (has x) s) effect_top
      ∙ ap (λ n. weight_of m (has x) (has y) s * n) (observed m (has x) (λ v. has x v || has z v) s (turned_one x z none)))

  -- ---- one term of the sum
  abbrev term : (ℕ → ℕ) → Fraction
  term c = value (weights_of m) (λ j t. over 1 1) (product (tree (prob z 0 0) (tree (prob y 0 (union x z)) no_trees))) c

  positive : (c : ℕ → ℕ) → IsAssignment m.vertices m.size c → IsPositive (term c)
  positive c within = value_positive g ok m d.fits d.positive (λ j t. over 1 1) (λ k t w. record { top = omega arith; bottom = omega arith })
      (product (tree (prob z 0 0) (tree (prob y 0 (union x z)) no_trees))) c within

  at_most : IsAtMost (term s) (add_over (has z) m.size m.vertices term s)
  at_most = single_term (has z) m.size (IsAssignment m.vertices m.size) term positive m.vertices s d.less.within
      (λ c i n il ui nl w. assignment_set m.vertices m.size c i n nl w) d.less.within

  summed : IsEqual (value (weights_of m) (λ j t. over 1 1) (adjusted_sum x y z) s) (effect m (effect_on x y) s) → ⊥
  summed e =
      let sum = add_over (has z) m.size m.vertices term s in
      not_the_effect (seen (has z)) (seen (λ v. has x v || (has y v || has z v))) (seen (λ v. has x v || has z v)) (total m)
      (weight_of m (has x) (has y) s) sum.top sum.bottom
      e.left_bottom exceeded
      (rw (
        sym (observed m (λ v. has z v || has 0 v) (has z) s (no_bits (has z))),
        sym (all_worlds m s),
        sym (observed m (λ v. has y v || has (union x z) v) (λ v. has x v || (has y v || has z v)) s (turned x y z)),
        sym (observed m (has (union x z)) (λ v. has x v || has z v) s (joined x z)),
      ) at_most.products)
      (ap (λ n. sum.top * n) (sym (whole m x s)) ∙ e.products ∙ ap (λ n. n * sum.bottom) effect_top)

  pub exceeds_fails : FailsSomewhere g (effect_on x y) (adjustment_formula x y z)
  exceeds_fails = record { model = m; fits = d.fits; positive = d.positive; two = d.two; at = s; within = d.less.within; unequal = go (is_empty z) refl }
    where
      go : (p : Bool) → is_empty z ≡ p → IsEqual (value (weights_of m) (λ j t. over 1 1) (cond p (prob y 0 x) (adjusted_sum x y z)) s) (effect m
          (effect_on x y) s) → ⊥
      go true e = alone (λ v. ap (λ b. has b v) (eqb-true z 0 e) ∙ has-zero v)
      go false e = summed
