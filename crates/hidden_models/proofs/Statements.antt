-- What separations and rules say of models of the observed graph they say of the diagram as drawn.
use Rattle.std.proofs.Common.{ℕ, ◌*◌, ◌≡◌, ◌<◌, ◌≤◌, Bool, false, ◌||◌, refl, sym, ap, ap₂, ◌∙◌, subst, arith, mul-pos}
use Rattle.std.proofs.Math.Nat.{eq_of_mul-eq-mul_left}
use Rattle.mixed_graph.specs.Vocabulary.{MixedGraph, IsMixedGraph}
use Rattle.fractions.specs.Vocabulary.{over, IsEqual}
use Rattle.fractions.proofs.FractionLaws.{equal_sym, equal_trans}
use Rattle.finite_models.specs.Vocabulary.{FiniteModel, Fits, IsAssignment, event_weight, weight_of, total}
use Rattle.finite_models.proofs.Weights.{weight_of-none}
use Rattle.latent_projection.specs.Vocabulary.{IsObserved}
use Rattle.do_rules.specs.Vocabulary.{Side, side_value}
use Rattle.hidden_models.specs.Folding.{Folds, IsObservedPositive, drawn_weights}
use Rattle.hidden_models.specs.Statements.{seen_weight, drawn_side, IndependenceIsDrawn, DependenceIsDrawn, EquationIsDrawn, FailureIsDrawn}
use Rattle.hidden_models.proofs.Drawing.{each_is_folded, unfolded_is_positive}
use Rattle.hidden_models.proofs.Drawn.{drawn_weight, folded_is_positive, drawn_positive, new_positive}
use Rattle.hidden_models.proofs.Folded.{each_has_folded}
use Rattle.hidden_models.proofs.Totals.{total_positive}

-- an equation of products holds of numbers that are in one ratio to others of which it holds
in_ratio : (a b c d a' b' c' d' t t' : ℕ) → 1 ≤ t' → a * t' ≡ a' * t → b * t' ≡ b' * t → c * t' ≡ c' * t → d * t' ≡ d' * t → a' * b' ≡ c' * d' → a * b ≡ c * d
in_ratio a b c d a' b' c' d' t t' pos p q r s e =
    eq_of_mul-eq-mul_left (t' * t') (mul-pos pos pos) (a * b) (c * d)
    ((let k : (t' * t') * (a * b) ≡ (a * t') * (b * t') = omega arith in k) ∙ ap₂ (λ x y. x * y) p q
    ∙ (let k : (a' * t) * (b' * t) ≡ (a' * b') * (t * t) = omega arith in k) ∙ ap (λ n. n * (t * t)) e
    ∙ (let k : (c' * d') * (t * t) ≡ (c' * t) * (d' * t) = omega arith in k) ∙ ap₂ (λ x y. x * y) (sym r) (sym s)
    ∙ (let k : (c * t') * (d * t') ≡ (t' * t') * (c * d) = omega arith in k))

-- fractions of such numbers are equal
pub one_fraction : (a b a' b' t t' : ℕ) → 1 ≤ t → 1 ≤ t' → 1 ≤ b → 1 ≤ b' → a * t' ≡ a' * t → b * t' ≡ b' * t → IsEqual (over a b) (over a' b')
one_fraction a b a' b' t t' pos pos' left right p q = record {
  left_bottom = left;
  right_bottom = right;
  products = eq_of_mul-eq-mul_left (t * t') (mul-pos pos pos') (a * b') (a' * b)
      ((let k : (t * t') * (a * b') ≡ (a * t') * (b' * t) = omega arith in k) ∙ ap₂ (λ x y. x * y) p (sym q)
      ∙ (let k : (a' * t) * (b * t') ≡ (t * t') * (a' * b) = omega arith in k));
}

module _ (g : MixedGraph) (ok : IsMixedGraph g) (l : ℕ → Bool) (q : MixedGraph) (is : IsObserved g l q) (m m' : FiniteModel) (fit : Fits g m)
    (fit' : Fits q m') (folds : Folds l m m') where
  within_folded : (s : ℕ → ℕ) → IsAssignment (drawn_weights l m).vertices (drawn_weights l m).size s → IsAssignment m'.vertices m'.size s
  within_folded s hs k kl = subst (λ n. s k < n) (sym (folds.sizes k kl)) (hs k (subst (λ n. k < n) folds.vertices kl))

  within_drawn : (s : ℕ → ℕ) → IsAssignment m'.vertices m'.size s → IsAssignment (drawn_weights l m).vertices (drawn_weights l m).size s
  within_drawn s hs k kl =
      let k' : k < m'.vertices = subst (λ n. k < n) (sym folds.vertices) kl in subst (λ n. s k < n) (folds.sizes k k') (hs k k')

  -- an observed event has one probability in both
  seen : (a : ℕ → Bool) (s : ℕ → ℕ) → IsAssignment m'.vertices m'.size s → seen_weight l m a s * total m' ≡ event_weight m' a s * total m
  seen a s hs = drawn_weight g ok l q is m m' fit fit' folds (λ k. false) a s hs ∙ ap (λ n. n * total m) (weight_of-none m' (λ k. false) a s (λ k. refl))

  -- independence at an assignment is that of both
  independent_drawn : (x y w : ℕ → Bool) (s : ℕ → ℕ) → IsAssignment m'.vertices m'.size s
      → event_weight m' (λ k. x k || (y k || w k)) s * event_weight m' w s ≡ event_weight m' (λ k. x k || w k) s * event_weight m' (λ k. y k || w k) s
      → seen_weight l m (λ k. x k || (y k || w k)) s * seen_weight l m w s ≡ seen_weight l m (λ k. x k || w k) s * seen_weight l m (λ k. y k || w k) s
  independent_drawn x y w s hs e =
      in_ratio (seen_weight l m (λ k. x k || (y k || w k)) s) (seen_weight l m w s) (seen_weight l m (λ k. x k || w k) s) (seen_weight l m (λ k. y k || w k) s)
      (event_weight m' (λ k. x k || (y k || w k)) s) (event_weight m' w s) (event_weight m' (λ k. x k || w k) s) (event_weight m' (λ k. y k || w k) s)
      (total m) (total m') (total_positive q m' fit')
      (seen (λ k. x k || (y k || w k)) s hs) (seen w s hs) (seen (λ k. x k || w k) s hs) (seen (λ k. y k || w k) s hs) e

  independent_folded : (x y w : ℕ → Bool) (s : ℕ → ℕ) → IsAssignment m'.vertices m'.size s
      → seen_weight l m (λ k. x k || (y k || w k)) s * seen_weight l m w s ≡ seen_weight l m (λ k. x k || w k) s * seen_weight l m (λ k. y k || w k) s
      → event_weight m' (λ k. x k || (y k || w k)) s * event_weight m' w s ≡ event_weight m' (λ k. x k || w k) s * event_weight m' (λ k. y k || w k) s
  independent_folded x y w s hs e =
      in_ratio (event_weight m' (λ k. x k || (y k || w k)) s) (event_weight m' w s) (event_weight m' (λ k. x k || w k) s) (event_weight m' (λ k. y k || w k) s)
      (seen_weight l m (λ k. x k || (y k || w k)) s) (seen_weight l m w s) (seen_weight l m (λ k. x k || w k) s) (seen_weight l m (λ k. y k || w k) s)
      (total m') (total m) (total_positive g m fit)
      (sym (seen (λ k. x k || (y k || w k)) s hs)) (sym (seen w s hs)) (sym (seen (λ k. x k || w k) s hs)) (sym (seen (λ k. y k || w k) s hs)) e

  -- a side has one probability in both
  one_side : IsObservedPositive l m → (side : Side) (s : ℕ → ℕ) → IsAssignment m'.vertices m'.size s → IsEqual (drawn_side l m side s) (side_value m' side s)
  one_side positive side s hs =
      one_fraction ((drawn_weights l m).weight side.doing (λ k. side.of k || side.given k) s) ((drawn_weights l m).weight side.doing side.given s)
      (weight_of m' side.doing (λ k. side.of k || side.given k) s) (weight_of m' side.doing side.given s) (total m) (total m')
      (total_positive g m fit) (total_positive q m' fit')
      (drawn_positive g ok l q is m m' fit fit' folds positive side.doing side.given s (within_drawn s hs))
      (new_positive g ok l q is m m' fit fit' folds positive side.doing side.given s hs)
      (drawn_weight g ok l q is m m' fit fit' folds side.doing (λ k. side.of k || side.given k) s hs)
      (drawn_weight g ok l q is m m' fit fit' folds side.doing side.given s hs)

pub independence_is_drawn : IndependenceIsDrawn
independence_is_drawn = λ g ok l q is x y w all m fit s hs.
    let h = each_has_folded g ok l q is m fit in
    let hs' = within_folded g ok l q is m h.folded fit h.fits h.folds s hs in
    independent_drawn g ok l q is m h.folded fit h.fits h.folds x y w s hs' (all h.folded h.fits s)

pub dependence_is_drawn : DependenceIsDrawn
dependence_is_drawn = λ g ok l q is x y w d.
    let u = each_is_folded g ok l q is d.model d.fits d.two in record {
      model = u.drawn;
      fits = u.fits;
      positive = unfolded_is_positive g ok l q is u.drawn d.model u.fits d.fits u.folds d.positive;
      at = d.at;
      within = within_drawn g ok l q is u.drawn d.model u.fits d.fits u.folds d.at d.within;
      unequal = λ e. d.unequal (independent_folded g ok l q is u.drawn d.model u.fits d.fits u.folds x y w d.at d.within e);
    }

pub equation_is_drawn : EquationIsDrawn
equation_is_drawn = λ g ok l q is left right all m fit positive s hs.
    let h = each_has_folded g ok l q is m fit in
    let hs' = within_folded g ok l q is m h.folded fit h.fits h.folds s hs in
    let side = one_side g ok l q is m h.folded fit h.fits h.folds positive in
    let positive' = folded_is_positive g ok l q is m h.folded fit h.fits h.folds positive in
    equal_trans (drawn_side l m left s) (side_value h.folded left s) (drawn_side l m right s) (side left s hs')
    (equal_trans (side_value h.folded left s) (side_value h.folded right s) (drawn_side l m right s) (all h.folded h.fits positive' s hs')
    (equal_sym (drawn_side l m right s) (side_value h.folded right s) (side right s hs')))

pub failure_is_drawn : FailureIsDrawn
failure_is_drawn = λ g ok l q is left right d.
    let u = each_is_folded g ok l q is d.model d.fits d.two in
    let positive = unfolded_is_positive g ok l q is u.drawn d.model u.fits d.fits u.folds d.positive in
    let side = one_side g ok l q is u.drawn d.model u.fits d.fits u.folds positive in record {
      model = u.drawn;
      fits = u.fits;
      positive = positive;
      at = d.at;
      within = within_drawn g ok l q is u.drawn d.model u.fits d.fits u.folds d.at d.within;
      unequal = λ e. d.unequal
          (equal_trans (side_value d.model left d.at) (drawn_side l u.drawn left d.at) (side_value d.model right d.at)
          (equal_sym (drawn_side l u.drawn left d.at) (side_value d.model left d.at) (side left d.at d.within))
          (equal_trans (drawn_side l u.drawn left d.at) (drawn_side l u.drawn right d.at) (side_value d.model right d.at) e (side right d.at d.within)));
    }
