-- What folds an observed-positive model is positive and keeps the values of formulas and effects: so what is right in the observed graph is right in
-- the diagram as drawn.
use Rattle.std.proofs.Common.{ℕ, ◌*◌, ◌≡◌, ◌<◌, ◌≤◌, Bool, true, false, not, cond, ◌&&◌, ◌||◌, nat_lt, refl, sym, ap, ap₂, ◌∙◌, subst, mul-pos, arith}
use Rattle.std.proofs.Math.Nat.{eq_of_mul-eq-mul_left}
use Rattle.std.proofs.lemmas.Bool.{not_from_false, lt-ltb}
use mathlib.Core.Path.{fun_ext}
use Rattle.mixed_graph.specs.Vocabulary.{has, Apart, MixedGraph, IsMixedGraph}
use Rattle.fractions.specs.Vocabulary.{over, IsEqual}
use Rattle.fractions.proofs.FractionLaws.{equal_sym, equal_trans}
use Rattle.finite_models.specs.Vocabulary.{FiniteModel, Fits, IsAssignment, IsPositiveModel, event_weight, weight_of, total}
use Rattle.finite_models.proofs.Bools.{and_first}
use Rattle.finite_models.proofs.Following.{follows_of}
use Rattle.finite_models.proofs.Positive.{positive_weight}
use Rattle.finite_models.proofs.Weights.{weight_of-none}
use Rattle.latent_projection.specs.Vocabulary.{observed_below, renumbered_set, IsObserved}
use Rattle.latent_projection.proofs.Numbering.{IsMixedGraph-renumbered}
use Rattle.latent_projection.proofs.Projected.{IsMixedGraph-projection}
use Rattle.prob_expr.specs.Vocabulary.{PlainFormula, PlainTarget, Weights, weights_of, term_value, value_of, effect, AreProportional}
use Rattle.hidden_models.specs.Folding.{Folds, IsObservedPositive, IsMatchedAsDrawn, values_after, values_before, set_before, drawn_weights, drawn_effect}
use Rattle.hidden_models.specs.FoldingLaws.{FoldedIsPositive, FoldedKeepsWeights, FoldedKeepsValues, FoldedKeepsEffects, RightIsRightAsDrawn}
use Rattle.prob_expr.proofs.Alike.{Events, left_positive, term_alike, formula_alike, asks_any, all_ask_any}
use Rattle.hidden_models.proofs.Depends.{weight_depends}
use Rattle.hidden_models.proofs.Folded.{each_has_folded}
use Rattle.hidden_models.proofs.FoldingLaw.{position, member}
use Rattle.hidden_models.proofs.Positions.{position_lt, member_position, member_is}
use Rattle.hidden_models.proofs.ReachingLaw.{observed_of}
use Rattle.hidden_models.proofs.Totals.{total_positive}

and_false : (c : Bool) → (c && false) ≡ false
and_false true = refl
and_false false = refl

and_true : (c : Bool) → (c && true) ≡ c
and_true true = refl
and_true false = refl

-- a factor is carried from one proportion to another
carried : (d n w a t t' : ℕ) → 1 ≤ t → d * t' ≡ n * t → d * a ≡ w * t → n * a ≡ w * t'
carried d n w a t t' pos e f = eq_of_mul-eq-mul_left t pos (n * a) (w * t')
    ((let r : t * (n * a) ≡ (n * t) * a = omega arith in r) ∙ ap (λ k. k * a) (sym e) ∙ (let r : (d * t') * a ≡ (d * a) * t' = omega arith in r)
    ∙ ap (λ k. k * t') f
    ∙ (let r : (w * t) * t' ≡ t * (w * t') = omega arith in r))

-- all events
abbrev Any : Events
Any b a = Unit {0}

module _ (g : MixedGraph) (ok : IsMixedGraph g) (l : ℕ → Bool) (q : MixedGraph) (is : IsObserved g l q) (m m' : FiniteModel) (fit : Fits g m)
    (fit' : Fits q m') (folds : Folds l m m') where
  q_ok : IsMixedGraph q
  q_ok = subst IsMixedGraph (sym is.renumbers) (IsMixedGraph-renumbered is.projection (observed_below l g.vertices)
      (IsMixedGraph-projection g is.projection l ok is.projects))

  below : (k : ℕ) → k < m'.vertices → k < position (λ v. not (l v)) m.vertices
  below k kl = subst (λ n. k < n) folds.vertices kl

  pub before_within : (s : ℕ → ℕ) → IsAssignment m'.vertices m'.size s → IsAssignment m.vertices m.size (values_before l s)
  before_within s hs v vl = go (l v) refl
    where
      go : (c : Bool) → l v ≡ c → cond (not (l v)) (s (position (λ v. not (l v)) v)) 0 < m.size v
      go true e = rw e (fit.positive_size v vl)
      go false e =
          let o : not (l v) ≡ true = not_from_false (l v) e in
          let kl : position (λ v. not (l v)) v < m'.vertices = subst (λ n. position (λ v. not (l v)) v < n) (sym folds.vertices)
          (position_lt (λ v. not (l v)) v m.vertices vl o) in
          rw o (subst (λ n. s (position (λ v. not (l v)) v) < n) (folds.sizes (position (λ v. not (l v)) v) kl
          ∙ ap m.size (member_position (λ v. not (l v)) m.vertices v vl o)) (hs (position (λ v. not (l v)) v) kl))

  pub after_within : (s : ℕ → ℕ) → IsAssignment m.vertices m.size s → IsAssignment m'.vertices m'.size (values_after l m.vertices s)
  after_within s hs k kl = subst (λ n. s (member (λ v. not (l v)) m.vertices k) < n) (sym (folds.sizes k kl))
      (hs (member (λ v. not (l v)) m.vertices k) (member_is (λ v. not (l v)) m.vertices k (below k kl)).below)

  apart : (d : ℕ → Bool) → Apart (set_before l d) l
  apart d v e = observed_of (l v) (and_first (not (l v)) (d (position (λ v. not (l v)) v)) e)

  same_set : (b : ℕ → Bool) (k : ℕ) → k < m'.vertices → renumbered_set (observed_below l m.vertices) (set_before l b) k ≡ b k
  same_set b k kl =
      let w = member_is (λ v. not (l v)) m.vertices k (below k kl) in
      let lt : nat_lt k (position (λ v. not (l v)) m.vertices) ≡ true = lt-ltb k (position (λ v. not (l v)) m.vertices) (below k kl) in
      rw (lt, w.inside, w.place) refl

  -- values of the observed vertices taken to all and back are the same
  pub same_value : (s : ℕ → ℕ) (k : ℕ) → k < m'.vertices → values_after l m.vertices (values_before l s) k ≡ s k
  same_value s k kl = let w = member_is (λ v. not (l v)) m.vertices k (below k kl) in rw (w.inside, w.place) refl

  -- an event of observed vertices is as probable in what folds a model, under every intervention on them
  pub drawn_weight : (b a : ℕ → Bool) (s : ℕ → ℕ) → IsAssignment m'.vertices m'.size s
      → weight_of m (set_before l b) (set_before l a) (values_before l s) * total m' ≡ weight_of m' b a s * total m
  drawn_weight b a s hs =
      folds.weights (set_before l b) (set_before l a) (apart b) (apart a) (values_before l s) (before_within s hs)
      ∙ ap (λ n. n * total m) (weight_depends q m' q_ok (follows_of q m' fit') (renumbered_set (observed_below l m.vertices) (set_before l b)) b
      (renumbered_set (observed_below l m.vertices) (set_before l a)) a
      (values_after l m.vertices (values_before l s)) s (same_set b) (same_set a) (λ k kl e. same_value s k kl) (λ k kl e. same_value s k kl))

  -- what is proportional to the weights of a model as drawn is so to those of what folds it
  pub matched_folded : (used : ℕ → Bool) (w : Weights) (all : ℕ) → IsMatchedAsDrawn l used w all m → AreProportional used w all (weights_of m') (total m')
  matched_folded used w all h = record {
    vertices = h.vertices ∙ sym folds.vertices;
    sizes = λ k lt u. h.sizes k (below k lt) u ∙ sym (folds.sizes k lt);
    some = h.some;
    weights = λ a u s hs. carried ((drawn_weights l m).weight (λ k. false) a s) (weight_of m' (λ k. false) a s) (w.weight (λ k. false) a s) all (total m)
        (total m') (total_positive g m fit) (drawn_weight (λ k. false) a s hs)
        (h.weights a u s (λ k lt. let lt' : k < m'.vertices = subst (λ n. k < n) (sym folds.vertices) lt in
        subst (λ n. s k < n) (folds.sizes k lt') (hs k lt')));
  }

  module _ (observed : IsObservedPositive l m) where
    none_observed : (s : ℕ → ℕ) → weight_of m (set_before l (λ k. false)) (set_before l (λ k. true)) (values_before l s)
        ≡ event_weight m (λ v. not (l v)) (values_before l s)
    none_observed s = weight_of-none m (set_before l (λ k. false)) (set_before l (λ k. true)) (values_before l s) (λ v. and_false (not (l v)))
        ∙ ap (λ a. event_weight m a (values_before l s)) (fun_ext (λ v. and_true (not (l v))))

    pub folded_positive : IsPositiveModel m'
    folded_positive s hs = left_positive (event_weight m' (λ v. true) s) (total m) (event_weight m (λ v. not (l v)) (values_before l s) * total m')
        (mul-pos (observed (values_before l s) (before_within s hs)) (total_positive q m' fit'))
        (ap (λ n. n * total m') (sym (none_observed s)) ∙ drawn_weight (λ k. false) (λ k. true) s hs
        ∙ ap (λ n. n * total m) (weight_of-none m' (λ k. false) (λ k. true) s (λ k. refl)))

    pub new_positive : (b a : ℕ → Bool) (s : ℕ → ℕ) → IsAssignment m'.vertices m'.size s → 1 ≤ weight_of m' b a s
    new_positive b a s hs = positive_weight q m' q_ok (follows_of q m' fit') folded_positive b a s hs

    into : (s : ℕ → ℕ) → IsAssignment (drawn_weights l m).vertices (drawn_weights l m).size s → IsAssignment m'.vertices m'.size s
    into s hs k kl = subst (λ n. s k < n) (sym (folds.sizes k kl)) (hs k (below k kl))

    drawn_sizes : (k : ℕ) → k < (drawn_weights l m).vertices → (drawn_weights l m).size k ≡ m'.size k
    drawn_sizes k kl = sym (folds.sizes k (subst (λ n. k < n) (sym folds.vertices) kl))

    drawn_some : (k : ℕ) → k < (drawn_weights l m).vertices → 1 ≤ (drawn_weights l m).size k
    drawn_some k kl = fit.positive_size (member (λ v. not (l v)) m.vertices k) (member_is (λ v. not (l v)) m.vertices k kl).below

    pub drawn_positive : (b a : ℕ → Bool) (s : ℕ → ℕ) → IsAssignment (drawn_weights l m).vertices (drawn_weights l m).size s
        → 1 ≤ (drawn_weights l m).weight b a s
    drawn_positive b a s hs = left_positive ((drawn_weights l m).weight b a s) (total m') (weight_of m' b a s * total m)
        (mul-pos (new_positive b a s (into s hs)) (total_positive g m fit)) (sym (drawn_weight b a s (into s hs)))

    after_drawn : (s : ℕ → ℕ) → IsAssignment m.vertices m.size s → IsAssignment (drawn_weights l m).vertices (drawn_weights l m).size
        (values_after l m.vertices s)
    after_drawn s hs k kl = hs (member (λ v. not (l v)) m.vertices k) (member_is (λ v. not (l v)) m.vertices k kl).below

    pub keeps_value : (f : PlainFormula) (s : ℕ → ℕ) → IsAssignment m.vertices m.size s
        → IsEqual (value_of (drawn_weights l m) f (values_after l m.vertices s)) (value_of (weights_of m') f (values_after l m.vertices s))
    keeps_value f s hs =
        formula_alike (drawn_weights l m) (weights_of m') (sym folds.vertices) drawn_sizes drawn_some (total m) (total m')
        (mul-pos (total_positive g m fit) (total_positive q m' fit'))
        Any (λ b a k. drawn_positive (has b) a) (λ b a k c hc. drawn_weight (has b) a c (into c hc))
        f (all_ask_any Any (λ b a. tt) f.defs) (asks_any Any (λ b a. tt) f.main) (values_after l m.vertices s) (after_drawn s hs)

    pub keeps_term : (a b c : ℕ) (s : ℕ → ℕ) → IsAssignment (drawn_weights l m).vertices (drawn_weights l m).size s
        → IsEqual (term_value (drawn_weights l m) a b c s) (term_value (weights_of m') a b c s)
    keeps_term a b c s hs =
        (term_alike (drawn_weights l m) (weights_of m') (sym folds.vertices) drawn_sizes drawn_some (total m) (total m')
        (mul-pos (total_positive g m fit) (total_positive q m' fit'))
        Any (λ b a k. drawn_positive (has b) a) (λ b a k c hc. drawn_weight (has b) a c (into c hc)) a b c tt tt s hs).equal

    -- the weight of an event of observed vertices, at values of all vertices
    at_all : (b a a' : ℕ → Bool) (s : ℕ → ℕ) → ((v : ℕ) → set_before l a v ≡ a' v)
        → weight_of m (set_before l b) (set_before l a) (values_before l (values_after l m.vertices s)) ≡ weight_of m (set_before l b) a' s
    at_all b a a' s same =
        weight_depends g m ok (follows_of g m fit) (set_before l b) (set_before l b) (set_before l a) a' (values_before l (values_after l m.vertices s)) s
        (λ v vl. refl) (λ v vl. same v) (λ v vl e. at v vl (apart b v e)) (λ v vl e. at v vl (apart a v e))
      where
        at : (v : ℕ) → v < m.vertices → l v ≡ false → values_before l (values_after l m.vertices s) v ≡ s v
        at v vl e = let o : not (l v) ≡ true = not_from_false (l v) e in rw o (ap s (member_position (λ v. not (l v)) m.vertices v vl o))

    either_of : (a c : ℕ → Bool) (v : ℕ) → set_before l (λ k. a k || c k) v ≡ (set_before l a v || set_before l c v)
    either_of a c v = go (not (l v)) (a (position (λ v. not (l v)) v)) (c (position (λ v. not (l v)) v))
      where
        go : (o x y : Bool) → (o && (x || y)) ≡ ((o && x) || (o && y))
        go true x y = refl
        go false x y = refl

    pub keeps_effect : (t : PlainTarget) (s : ℕ → ℕ) → IsAssignment m.vertices m.size s
        → IsEqual (effect m' t (values_after l m.vertices s)) (drawn_effect l m t s)
    keeps_effect t s hs = subst (λ f. IsEqual (effect m' t (values_after l m.vertices s)) f)
        (ap₂ (λ x y. over x y) (at_all (has t.x) (λ k. has t.y k || has t.given k) (λ v. set_before l (has t.y) v || set_before l (has t.given) v) s
        (either_of (has t.y) (has t.given))) (at_all (has t.x) (has t.given) (set_before l (has t.given)) s (λ v. refl)))
        (equal_sym (term_value (drawn_weights l m) t.y t.x t.given (values_after l m.vertices s)) (effect m' t (values_after l m.vertices s))
        (keeps_term t.y t.x t.given (values_after l m.vertices s) (after_drawn s hs)))

-- what folds a model that is positive on the observed vertices is positive
pub folded_is_positive : FoldedIsPositive
folded_is_positive = λ g ok l q is m m' fit fit' folds observed. folded_positive g ok l q is m m' fit fit' folds observed

pub folded_keeps_weights : FoldedKeepsWeights
folded_keeps_weights = λ g ok l q is m m' fit fit' folds b a s hs. drawn_weight g ok l q is m m' fit fit' folds b a s hs

pub folded_keeps_values : FoldedKeepsValues
folded_keeps_values = λ g ok l q is m m' fit fit' folds observed f s hs. keeps_value g ok l q is m m' fit fit' folds observed f s hs

-- each effect among observed vertices has one value in an observed-positive model and what folds it
pub folded_keeps_effects : FoldedKeepsEffects
folded_keeps_effects = λ g ok l q is m m' fit fit' folds observed t s hs. keeps_effect g ok l q is m m' fit fit' folds observed t s hs

-- a formula right in every positive model of the observed graph is right in the diagram as drawn
pub right_as_drawn : RightIsRightAsDrawn
right_as_drawn = λ g ok l q is t f right m fit observed s hs.
    let h = each_has_folded g ok l q is m fit in
    let positive = folded_positive g ok l q is m h.folded fit h.fits h.folds observed in
    let value : IsEqual (value_of (drawn_weights l m) f (values_after l m.vertices s)) (value_of (weights_of h.folded) f (values_after l m.vertices s)) =
    keeps_value g ok l q is m h.folded fit h.fits h.folds observed f s hs in
    let same : IsEqual (value_of (weights_of h.folded) f (values_after l m.vertices s)) (effect h.folded t (values_after l m.vertices s)) =
    right h.folded h.fits positive (values_after l m.vertices s) (after_within g ok l q is m h.folded fit h.fits h.folds s hs) in
    let drawn : IsEqual (effect h.folded t (values_after l m.vertices s)) (drawn_effect l m t s) =
    keeps_effect g ok l q is m h.folded fit h.fits h.folds observed t s hs in
    equal_trans (value_of (drawn_weights l m) f (values_after l m.vertices s)) (value_of (weights_of h.folded) f (values_after l m.vertices s))
    (drawn_effect l m t s) value
    (equal_trans (value_of (weights_of h.folded) f (values_after l m.vertices s)) (effect h.folded t (values_after l m.vertices s)) (drawn_effect l m t s)
    same drawn)
