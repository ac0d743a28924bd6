-- Models of the observed graph whose causes serve two vertices at most fold models of the diagram as drawn; so two that tell an effect apart do so there.
use Rattle.std.proofs.Common.{ℕ, List, ◌*◌, ◌≡◌, ◌<◌, ◌≤◌, Bool, true, false, not, cond, ◌||◌, refl, sym, ap, ap₂, ◌∙◌, arith, subst, length, lt-ltb, mul-pos}
use Rattle.std.proofs.Math.Nat.{eq_of_mul-eq-mul_left}
use Rattle.mixed_graph.specs.Vocabulary.{has, Apart, MixedGraph, IsMixedGraph}
use Rattle.fractions.specs.Vocabulary.{over, IsEqual}
use Rattle.fractions.proofs.FractionLaws.{equal_sym, equal_trans}
use Rattle.finite_models.specs.Vocabulary.{AgreeObserved, AgreeUnder, FiniteModel, Fits, IsAssignment, IsPositiveModel, event_weight, weight_of, total, ServesTwo}
use Rattle.finite_models.proofs.Bools.{and_first}
use Rattle.finite_models.proofs.Following.{follows_of}
use Rattle.finite_models.proofs.Positive.{positive_weight}
use Rattle.finite_models.proofs.Weights.{weight_of-none}
use Rattle.latent_projection.specs.Vocabulary.{IsProjection, observed_below, renumbered_set, renumbered, IsObserved}
use Rattle.latent_projection.proofs.Numbering.{IsMixedGraph-renumbered}
use Rattle.latent_projection.proofs.Projected.{IsMixedGraph-projection}
use Rattle.prob_expr.specs.Vocabulary.{DifferOn, DifferOnTarget, AgreeUnderAll, is_allowed, is_do_free, PlainFormula, PlainTarget, weights_of, term_value, value_of, effect}
use Rattle.prob_expr.proofs.Allowed.{experiments_fix_value}
use Rattle.prob_expr.proofs.Observed.{observed_fixes_value}
use Rattle.hidden_models.specs.Folding.{Folds, IsObservedPositive, set_before, values_after, values_before, drawn_weights, drawn_effect}
use Rattle.hidden_models.specs.FoldingLaws.{EqualsAsDrawn}
use Rattle.hidden_models.specs.Unfolding.{SharesWorlds, IsFoldedFrom, AgreeAsDrawn, AgreeUnderAsDrawn, DifferOnAsDrawn, NotIdentifiableAsDrawn, NotIdentifiableOverAsDrawn}
use Rattle.hidden_models.specs.UnfoldingLaws.{EachIsFolded, UnfoldedIsPositive, DifferenceIsDrawn, DifferenceOverIsDrawn, FormulaAsDrawnFixes}
use Rattle.hidden_models.specs.UnfoldingLaws.{FormulaFailureIsDrawn}
use Rattle.prob_expr.proofs.Alike.{left_positive}
use Rattle.hidden_models.proofs.Depends.{same_round, weight_depends}
use Rattle.hidden_models.proofs.Drawn.{after_within, before_within, same_value, drawn_weight, keeps_value, keeps_effect, keeps_term}
use Rattle.hidden_models.proofs.Expanded.{new, old, new_lt, new_old, old_observed, expanded, two_expanded, fits_expanded, expanded_weighs, expanded_at}
use Rattle.hidden_models.proofs.FoldingLaw.{by_treks}
use Rattle.hidden_models.proofs.ReachingLaw.{observed_of}
use Rattle.hidden_models.proofs.Totals.{total_positive}
use Rattle.hidden_models.proofs.Values.{AreSameBelow, value_depends}
use Rattle.hidden_models.proofs.Unprojected.{IsUnprojected, unprojected}

q_mixed : (g : MixedGraph) → IsMixedGraph g → (l : ℕ → Bool) (q : MixedGraph) → IsObserved g l q → IsMixedGraph q
q_mixed g ok l q is = subst IsMixedGraph (sym is.renumbers) (IsMixedGraph-renumbered is.projection (observed_below l g.vertices)
    (IsMixedGraph-projection g is.projection l ok is.projects))

module _ (g : MixedGraph) (l : ℕ → Bool) (p : MixedGraph) (m : FiniteModel) (two : ServesTwo m) (ok : IsMixedGraph g) (is : IsProjection g l p)
    (fit : Fits (renumbered p (observed_below l g.vertices)) m) where
  p_ok : IsMixedGraph p
  p_ok = IsMixedGraph-projection g p l ok is

  pub un : IsUnprojected g l (expanded l g.vertices m two)
  un = unprojected g.vertices g ok l (λ v e vl. vl) (omega arith) p (by_treks g p l is) (expanded l g.vertices m two)
      (fits_expanded p l g.vertices m two p_ok is.vertices fit) (two_expanded l g.vertices m two)

  hushed : (ℕ → ℕ) → ℕ → ℕ
  hushed s v = cond (l v) 0 (s v)

  hushed_same : (s : ℕ → ℕ) (v : ℕ) → l v ≡ false → s v ≡ hushed s v
  unfolding hushed
  hushed_same s v e = rw e refl

  hushed_within : (s : ℕ → ℕ) → IsAssignment un.model.vertices un.model.size s
      → IsAssignment g.vertices (λ v. cond (l v) 1 (m.size (new l g.vertices v))) (hushed s)
  unfolding hushed
  hushed_within s hs v vl = go (l v) refl
    where
      go : (c : Bool) → l v ≡ c → cond (l v) 0 (s v) < cond (l v) 1 (m.size (new l g.vertices v))
      go true e = rw e (omega arith)
      go false e =
          let h = hs v (rw un.fits.vertices vl) in
          let f : un.model.size v ≡ m.size (new l g.vertices v) = un.sizes v e ∙ rw e refl in
          rw e (subst (λ n. s v < n) f h)

  twice_within : (s : ℕ → ℕ) → IsAssignment g.vertices (λ v. cond (l v) 1 (m.size (new l g.vertices v))) s
      → IsAssignment g.vertices (λ v. cond (l v) 1 (cond (l v) 1 (m.size (new l g.vertices v)))) s
  twice_within s hs v vl = go (l v) (hs v vl)
    where
      go : (c : Bool) → s v < cond c 1 (m.size (new l g.vertices v)) → s v < cond c 1 (cond c 1 (m.size (new l g.vertices v)))
      go true h = h
      go false h = h

  weighs_at : (b a : ℕ → Bool) → Apart b l → Apart a l → (s : ℕ → ℕ) → IsAssignment un.model.vertices un.model.size s
      → weight_of un.model b a s ≡ weight_of m (renumbered_set (observed_below l g.vertices) b) (renumbered_set (observed_below l g.vertices) a)
      (values_after l g.vertices s)
  weighs_at b a bo ao s hs =
      weight_depends g un.model ok (follows_of g un.model un.fits) b b a a s (hushed s) (λ v vl. refl) (λ v vl. refl) (λ v vl e. hushed_same s v (bo v e))
      (λ v vl e. hushed_same s v (ao v e))
      ∙ sym (un.weighs b a bo ao (hushed s) (twice_within (hushed s) (hushed_within s hs)))
      ∙ expanded_weighs p l g.vertices m two p_ok is.vertices fit b a bo ao (hushed s) (hushed_within s hs)
      ∙ weight_depends (renumbered p (observed_below l g.vertices)) m (IsMixedGraph-renumbered p (observed_below l g.vertices) p_ok)
      (follows_of (renumbered p (observed_below l g.vertices)) m fit)
      (renumbered_set (observed_below l g.vertices) b) (renumbered_set (observed_below l g.vertices) b) (renumbered_set (observed_below l g.vertices) a)
      (renumbered_set (observed_below l g.vertices) a)
      (values_after l g.vertices (hushed s)) (values_after l g.vertices s) (λ i il. refl) (λ i il. refl) (λ i il e. at i il) (λ i il e. at i il)
    where
      at : (i : ℕ) → i < m.vertices → hushed s (old l g.vertices i) ≡ s (old l g.vertices i)
      at i il = sym (hushed_same s (old l g.vertices i) (old_observed l g.vertices i (subst (λ k. i < k) fit.vertices il)))

  size_at : (k : ℕ) → k < m.vertices → m.size k ≡ un.model.size (old l g.vertices k)
  size_at k kl =
      let k' = subst (λ n. k < n) fit.vertices kl in
      let e = old_observed l g.vertices k k' in
      let f : cond (l (old l g.vertices k)) 1 (m.size (new l g.vertices (old l g.vertices k))) ≡ m.size (new l g.vertices (old l g.vertices k)) = rw e refl in
      sym (un.sizes (old l g.vertices k) e ∙ f ∙ ap m.size (new_old l g.vertices k k'))

  pub folds_model : Folds l un.model m
  folds_model = record {
    vertices = fit.vertices ∙ ap (λ n. length (observed_below l n)) (sym un.fits.vertices);
    sizes = λ k kl. size_at k kl ∙ ap (λ n. un.model.size (old l n k)) (sym un.fits.vertices);
    weights = λ b a bo ao s hs. ap₂ (λ x y. x * y)
        (weighs_at b a bo ao s hs ∙ ap (λ n. weight_of m (renumbered_set (observed_below l n) b) (renumbered_set (observed_below l n) a) (values_after l n s))
        (sym un.fits.vertices))
        un.total_is;
  }

  -- the sets and the values in their new numbers again
  set_back : (b : ℕ → Bool) (i : ℕ) → i < m.vertices → renumbered_set (observed_below l g.vertices) (set_before l b) i ≡ b i
  set_back b i il =
      let low = subst (λ k. i < k) fit.vertices il in
      rw (lt-ltb i (length (observed_below l g.vertices)) low, old_observed l g.vertices i low, new_old l g.vertices i low) refl

  value_back : (s : ℕ → ℕ) (i : ℕ) → i < m.vertices → values_after l g.vertices (values_before l s) i ≡ s i
  value_back s i il =
      let low = subst (λ k. i < k) fit.vertices il in rw (old_observed l g.vertices i low, new_old l g.vertices i low) refl

  seen_before : (s : ℕ → ℕ) → IsAssignment m.vertices m.size s → IsAssignment g.vertices (λ v. cond (l v) 1 (m.size (new l g.vertices v))) (values_before l s)
  seen_before s hs v vl = go (l v) refl
    where
      go : (c : Bool) → l v ≡ c → cond (not (l v)) (s (new l g.vertices v)) 0 < cond (l v) 1 (m.size (new l g.vertices v))
      go true e = rw e (omega arith)
      go false e = rw e (hs (new l g.vertices v) (subst (λ k. new l g.vertices v < k) (sym fit.vertices) (new_lt l g.vertices v vl e)))

  pub shares_model : SharesWorlds l un.model m
  shares_model = record {
    causes = un.causes;
    values = un.values;
    weight = un.weight;
    worlds = λ b s hs u hu v vl e.
        let vl' = subst (λ k. v < k) un.fits.vertices vl in
        let bo : Apart (set_before l b) l = λ k i. observed_of (l k) (and_first (not (l k)) (b (new l g.vertices k)) i) in
        sym (un.worlds (set_before l b) bo (values_before l s) (twice_within (values_before l s) (seen_before s hs)) u hu v vl' e)
        ∙ expanded_at p l g.vertices m two p_ok is.vertices fit (set_before l b) bo (values_before l s) (seen_before s hs) u v vl' e
        ∙ same_round (renumbered p (observed_below l g.vertices)) m (IsMixedGraph-renumbered p (observed_below l g.vertices) p_ok)
        (follows_of (renumbered p (observed_below l g.vertices)) m fit) (renumbered_set (observed_below l g.vertices) (set_before l b)) b
        (λ k. false) (λ k. false) (values_after l g.vertices (values_before l s)) s (λ i il. set_back b i il) (λ i il. refl)
        (λ i il h. value_back s i il) (λ i il h. value_back s i il) u m.vertices (new l g.vertices v)
        (subst (λ k. new l g.vertices v < k) (sym fit.vertices) (new_lt l g.vertices v vl' e));
  }

pub each_is_folded : EachIsFolded
each_is_folded = λ g ok l q is m fit two.
    let fit' : Fits (renumbered is.projection (observed_below l g.vertices)) m = subst (λ h. Fits h m) is.renumbers fit in record {
      drawn = (un g l is.projection m two ok is.projects fit').model;
      fits = (un g l is.projection m two ok is.projects fit').fits;
      folds = folds_model g l is.projection m two ok is.projects fit';
      shares = shares_model g l is.projection m two ok is.projects fit';
    }

pub unfolded_is_positive : UnfoldedIsPositive
unfolded_is_positive = λ g ok l q is m m' fit fit' folds positive s hs.
    let observed : ℕ → Bool = λ v. not (l v) in
    let none : Apart (λ v. false) l = λ v e. absurd (grind (arith, e)) in
    let all : Apart observed l = λ v e. observed_of (l v) e in
    left_positive (event_weight m (λ v. not (l v)) s) (total m')
    (weight_of m' (renumbered_set (observed_below l m.vertices) (λ v. false)) (renumbered_set (observed_below l m.vertices) (λ v. not (l v)))
    (values_after l m.vertices s) * total m)
    (mul-pos (positive_weight q m' (q_mixed g ok l q is) (follows_of q m' fit') positive (renumbered_set (observed_below l m.vertices) (λ v. false))
    (renumbered_set (observed_below l m.vertices) (λ v. not (l v)))
    (values_after l m.vertices s) (after_within g ok l q is m m' fit fit' folds s hs)) (total_positive g m fit))
    (sym (folds.weights (λ v. false) observed none all s hs) ∙ ap (λ n. n * total m') (weight_of-none m (λ v. false) observed s (λ v. refl)))

-- ---- a formula that equals an effect in a model of the diagram as drawn
module _ (g : MixedGraph) (ok : IsMixedGraph g) (l : ℕ → Bool) (q : MixedGraph) (is : IsObserved g l q) (m : FiniteModel) (fit : Fits q m)
    (d : IsFoldedFrom g l m)
    (observed : IsObservedPositive l d.drawn) (s : ℕ → ℕ) (hs : IsAssignment m.vertices m.size s) where
  within : IsAssignment d.drawn.vertices d.drawn.size (values_before l s)
  within = before_within g ok l q is d.drawn m d.fits fit d.folds s hs

  -- values of the observed vertices taken to all and back
  abbrev back : ℕ → ℕ
  back = values_after l d.drawn.vertices (values_before l s)

  at_back : AreSameBelow m.vertices back s
  at_back k kl = same_value g ok l q is d.drawn m d.fits fit d.folds s k kl

  weight_same : (b a : ℕ → Bool) (c e : ℕ → ℕ) → AreSameBelow m.vertices c e → weight_of m b a c ≡ weight_of m b a e
  weight_same b a c e same =
      weight_depends q m (q_mixed g ok l q is) (follows_of q m fit) b b a a c e (λ v vl. refl) (λ v vl. refl) (λ v vl k. same v vl) (λ v vl k. same v vl)

  -- equals it at these values in the model that folds it
  pub equal_folded : (t : PlainTarget) (f : PlainFormula)
      → IsEqual (value_of (drawn_weights l d.drawn) f (values_after l d.drawn.vertices (values_before l s))) (drawn_effect l d.drawn t (values_before l s))
      → IsEqual (value_of (weights_of m) f s) (effect m t s)
  equal_folded t f e =
      let value = value_depends (weights_of m) weight_same f back s at_back in
      let target = ap₂ over (weight_same (has t.x) (λ v. has t.y v || has t.given v) back s at_back) (weight_same (has t.x) (has t.given) back s at_back) in
      subst (λ r. IsEqual (value_of (weights_of m) f s) r) target (subst (λ r. IsEqual r (effect m t back)) value
      (equal_trans (value_of (weights_of m) f back) (value_of (drawn_weights l d.drawn) f back) (effect m t back)
      (equal_sym (value_of (drawn_weights l d.drawn) f back) (value_of (weights_of m) f back)
      (keeps_value g ok l q is d.drawn m d.fits fit d.folds observed f (values_before l s) within))
      (equal_trans (value_of (drawn_weights l d.drawn) f back) (drawn_effect l d.drawn t (values_before l s)) (effect m t back) e
      (equal_sym (effect m t back) (drawn_effect l d.drawn t (values_before l s))
      (keeps_effect g ok l q is d.drawn m d.fits fit d.folds observed t (values_before l s) within)))))

  pub equals_folded : (t : PlainTarget) (f : PlainFormula) → EqualsAsDrawn g l t f → IsEqual (value_of (weights_of m) f s) (effect m t s)
  equals_folded t f h = equal_folded t f (h d.drawn d.fits observed (values_before l s) within)

-- so where it isn't the effect in a positive model of the observed graph, it isn't in one of the diagram as drawn
pub formula_failure_is_drawn : FormulaFailureIsDrawn
formula_failure_is_drawn = λ g ok l q is t f d.
    let u = each_is_folded g ok l q is d.model d.fits d.two in
    let positive = unfolded_is_positive g ok l q is u.drawn d.model u.fits d.fits u.folds d.positive in record {
      model = u.drawn;
      fits = u.fits;
      positive = positive;
      at = values_before l d.at;
      within = before_within g ok l q is u.drawn d.model u.fits d.fits u.folds d.at d.within;
      unequal = λ e. d.unequal (equal_folded g ok l q is d.model d.fits u positive d.at d.within t f e);
    }

-- ---- two models that tell an effect apart
-- ratios that agree with equal ones agree
crossed : (w w' d d' t t' e e' : ℕ) → 1 ≤ t * t' → w * t ≡ d * e → w' * t' ≡ d' * e' → d * t' ≡ d' * t → w * e' ≡ w' * e
crossed w w' d d' t t' e e' pos a b c =
    eq_of_mul-eq-mul_left (t * t') pos (w * e') (w' * e)
    ((let r : (t * t') * (w * e') ≡ (w * t) * (t' * e') = omega arith in r) ∙ ap (λ n. n * (t' * e')) a
    ∙ (let r : (d * e) * (t' * e') ≡ (d * t') * (e * e') = omega arith in r) ∙ ap (λ n. n * (e * e')) c
    ∙ (let r : (d' * t) * (e * e') ≡ (d' * e') * (t * e) = omega arith in r) ∙ ap (λ n. n * (t * e)) (sym b)
    ∙ (let r : (w' * t') * (t * e) ≡ (t * t') * (w' * e) = omega arith in r))

module _ (g : MixedGraph) (ok : IsMixedGraph g) (l : ℕ → Bool) (q : MixedGraph) (is : IsObserved g l q) (m₁ m₂ : FiniteModel) (f₁ : Fits q m₁) (f₂ : Fits q m₂)
    (p₁ : IsPositiveModel m₁) (p₂ : IsPositiveModel m₂) (agreed : AgreeObserved m₁ m₂) (d₁ : IsFoldedFrom g l m₁) (d₂ : IsFoldedFrom g l m₂) where
  positive₁ : IsObservedPositive l d₁.drawn
  positive₁ = unfolded_is_positive g ok l q is d₁.drawn m₁ d₁.fits f₁ d₁.folds p₁

  positive₂ : IsObservedPositive l d₂.drawn
  positive₂ = unfolded_is_positive g ok l q is d₂.drawn m₂ d₂.fits f₂ d₂.folds p₂

  into₁ : (s : ℕ → ℕ) → IsAssignment (drawn_weights l d₁.drawn).vertices (drawn_weights l d₁.drawn).size s → IsAssignment m₁.vertices m₁.size s
  into₁ s hs k kl = subst (λ n. s k < n) (sym (d₁.folds.sizes k kl)) (hs k (subst (λ n. k < n) d₁.folds.vertices kl))

  out₁ : (s : ℕ → ℕ) → IsAssignment m₁.vertices m₁.size s → IsAssignment (drawn_weights l d₁.drawn).vertices (drawn_weights l d₁.drawn).size s
  out₁ s hs k kl = let kl' = subst (λ n. k < n) (sym d₁.folds.vertices) kl in subst (λ n. s k < n) (d₁.folds.sizes k kl') (hs k kl')

  second : (s : ℕ → ℕ) → IsAssignment m₁.vertices m₁.size s → IsAssignment m₂.vertices m₂.size s
  second s hs k kl = let kl' = subst (λ n. k < n) (sym agreed.vertices) kl in subst (λ n. s k < n) (agreed.sizes k kl') (hs k kl')

  out₂ : (s : ℕ → ℕ) → IsAssignment m₂.vertices m₂.size s → IsAssignment (drawn_weights l d₂.drawn).vertices (drawn_weights l d₂.drawn).size s
  out₂ s hs k kl = let kl' = subst (λ n. k < n) (sym d₂.folds.vertices) kl in subst (λ n. s k < n) (d₂.folds.sizes k kl') (hs k kl')

  -- under an intervention under which both agree the models of the diagram as drawn do
  agree_under_drawn : (z : ℕ → Bool) → AgreeUnder z m₁ m₂ → AgreeUnderAsDrawn l z d₁.drawn d₂.drawn
  agree_under_drawn z alike = record {
    vertices = sym d₁.folds.vertices ∙ agreed.vertices ∙ d₂.folds.vertices;
    sizes = λ k kl. let k₁ = subst (λ n. k < n) (sym d₁.folds.vertices) kl in sym (d₁.folds.sizes k k₁) ∙ agreed.sizes k k₁
        ∙ d₂.folds.sizes k (subst (λ n. k < n) agreed.vertices k₁);
    weights = λ s hs. let h₁ = into₁ s hs in
        crossed ((drawn_weights l d₁.drawn).weight z (λ k. true) s) ((drawn_weights l d₂.drawn).weight z (λ k. true) s)
        (weight_of m₁ z (λ v. true) s) (weight_of m₂ z (λ v. true) s) (total m₁) (total m₂) (total d₁.drawn) (total d₂.drawn)
        (mul-pos (total_positive q m₁ f₁) (total_positive q m₂ f₂))
        (drawn_weight g ok l q is d₁.drawn m₁ d₁.fits f₁ d₁.folds z (λ k. true) s h₁)
        (drawn_weight g ok l q is d₂.drawn m₂ d₂.fits f₂ d₂.folds z (λ k. true) s (second s h₁))
        (alike.weights s h₁);
  }

  pub agree_drawn : AgreeAsDrawn l d₁.drawn d₂.drawn
  agree_drawn = agree_under_drawn (λ v. false) agreed

  module _ (t : PlainTarget) where
    differ_drawn : DifferOn m₁ m₂ t → DifferOnAsDrawn l d₁.drawn d₂.drawn t
    differ_drawn d = record {
      at = d.at;
      within = out₁ d.at d.within;
      unequal = λ e. d.unequal
          (equal_trans (effect m₁ t d.at) (term_value (drawn_weights l d₁.drawn) t.y t.x t.given d.at) (effect m₂ t d.at)
          (equal_sym (term_value (drawn_weights l d₁.drawn) t.y t.x t.given d.at) (effect m₁ t d.at)
          (keeps_term g ok l q is d₁.drawn m₁ d₁.fits f₁ d₁.folds positive₁ t.y t.x t.given d.at (out₁ d.at d.within)))
          (equal_trans (term_value (drawn_weights l d₁.drawn) t.y t.x t.given d.at) (term_value (drawn_weights l d₂.drawn) t.y t.x t.given d.at)
          (effect m₂ t d.at) e
          (keeps_term g ok l q is d₂.drawn m₂ d₂.fits f₂ d₂.folds positive₂ t.y t.x t.given d.at (out₂ d.at (second d.at d.within)))));
    }

    -- a formula without interventions that equals the effect in the diagram as drawn gives it one value in both models
    pub one_value : (f : PlainFormula) → is_do_free f ≡ true → EqualsAsDrawn g l t f → (s : ℕ → ℕ) → IsAssignment m₁.vertices m₁.size s
        → IsEqual (effect m₁ t s) (effect m₂ t s)
    one_value f free h s hs =
        equal_trans (effect m₁ t s) (value_of (weights_of m₁) f s) (effect m₂ t s)
        (equal_sym (value_of (weights_of m₁) f s) (effect m₁ t s) (equals_folded g ok l q is m₁ f₁ d₁ positive₁ s hs t f h))
        (equal_trans (value_of (weights_of m₁) f s) (value_of (weights_of m₂) f s) (effect m₂ t s)
        (observed_fixes_value q (q_mixed g ok l q is) m₁ m₂ f₁ f₂ p₁ p₂ agreed f free s hs)
        (equals_folded g ok l q is m₂ f₂ d₂ positive₂ s (second s hs) t f h))

    none : DifferOnTarget m₁ m₂ t → (f : PlainFormula) → is_do_free f ≡ true → EqualsAsDrawn g l t f → ⊥
    none differ f free h = let d = (differ (λ v. 0) (λ v vl. f₁.positive_size v vl)).0 in d.unequal (one_value f free h d.at d.within)

    pub shown : DifferOnTarget m₁ m₂ t → NotIdentifiableAsDrawn g l t
    unfolding differ_drawn
    shown differ = record {
      first = d₁.drawn;
      second = d₂.drawn;
      first_fits = d₁.fits;
      second_fits = d₂.fits;
      first_positive = positive₁;
      second_positive = positive₂;
      observed = agree_drawn;
      effects = λ a ha. let d = differ a (into₁ a ha) in (differ_drawn d.0, d.1);
      no_formula = none differ;
    }

    -- a formula over experiments under which both models agree has one value in both too
    one_value_over : (zs : List ℕ) → AgreeUnderAll zs m₁ m₂ → (f : PlainFormula) → is_allowed zs f ≡ true → EqualsAsDrawn g l t f
        → (s : ℕ → ℕ) → IsAssignment m₁.vertices m₁.size s → IsEqual (effect m₁ t s) (effect m₂ t s)
    one_value_over zs alike f allowed h s hs =
        equal_trans (effect m₁ t s) (value_of (weights_of m₁) f s) (effect m₂ t s)
        (equal_sym (value_of (weights_of m₁) f s) (effect m₁ t s) (equals_folded g ok l q is m₁ f₁ d₁ positive₁ s hs t f h))
        (equal_trans (value_of (weights_of m₁) f s) (value_of (weights_of m₂) f s) (effect m₂ t s)
        (experiments_fix_value q (q_mixed g ok l q is) m₁ m₂ f₁ f₂ p₁ p₂ agreed zs alike f allowed s hs)
        (equals_folded g ok l q is m₂ f₂ d₂ positive₂ s (second s hs) t f h))

    pub shown_over : (zs : List ℕ) → AgreeUnderAll zs m₁ m₂ → DifferOnTarget m₁ m₂ t → NotIdentifiableOverAsDrawn g l zs t
    unfolding shown
    shown_over zs alike differ = record {
      shown = shown differ;
      under = λ z listed. agree_under_drawn (has z) (alike z listed);
      no_formula_over = λ f allowed h. let d = (differ (λ v. 0) (λ v vl. f₁.positive_size v vl)).0 in
          d.unequal (one_value_over zs alike f allowed h d.at d.within);
    }

pub difference_is_drawn : DifferenceIsDrawn
difference_is_drawn = λ g ok l q is m₁ m₂ f₁ f₂ two₁ two₂ p₁ p₂ agreed t differ.
    shown g ok l q is m₁ m₂ f₁ f₂ p₁ p₂ agreed (each_is_folded g ok l q is m₁ f₁ two₁) (each_is_folded g ok l q is m₂ f₂ two₂) t differ

pub formula_as_drawn_fixes : FormulaAsDrawnFixes
formula_as_drawn_fixes = λ g ok l q is t f free h m₁ m₂ f₁ f₂ two₁ two₂ p₁ p₂ agreed s hs.
    one_value g ok l q is m₁ m₂ f₁ f₂ p₁ p₂ agreed (each_is_folded g ok l q is m₁ f₁ two₁) (each_is_folded g ok l q is m₂ f₂ two₂) t f free h s hs

pub difference_over_is_drawn : DifferenceOverIsDrawn
difference_over_is_drawn = λ g ok l q is m₁ m₂ f₁ f₂ two₁ two₂ p₁ p₂ agreed zs alike t differ.
    shown_over g ok l q is m₁ m₂ f₁ f₂ p₁ p₂ agreed (each_is_folded g ok l q is m₁ f₁ two₁) (each_is_folded g ok l q is m₂ f₂ two₂) t zs alike differ
