-- Formulas and effects over names and primed names are carried to the diagram as drawn.
use Rattle.std.proofs.Common.{ℕ, ◌*◌, ◌≡◌, ◌<◌, ◌≤◌, Bool, true, false, not, refl, sym, ap, ap₂, ◌∙◌, ◌||◌, subst, arith, mul-pos, [], ◌∷◌}
use Rattle.std.specs.Prelude.{slice_index}
use Rattle.std.proofs.lemmas.Bool.{false_from_ne_true}
use Rattle.std.proofs.Math.Nat.{eq_of_mul-eq-mul_left}
use mathlib.Core.Path.{fun_ext}
use Rattle.mixed_graph.specs.Vocabulary.{has, MixedGraph, IsMixedGraph, IsAncestor, union}
use Rattle.mixed_graph.proofs.MaskLaws.{has_join}
use Rattle.mixed_graph.proofs.Masks.{has-zero}
use Rattle.fractions.specs.Vocabulary.{IsEqual}
use Rattle.fractions.proofs.FractionLaws.{equal_sym, equal_trans}
use Rattle.finite_models.specs.Vocabulary.{AgreeObserved, FiniteModel, Fits, IsAssignment, IsPositiveModel, event_weight, weight_of, intervene, total}
use Rattle.finite_models.proofs.Bools.{either}
use Rattle.finite_models.proofs.Following.{follows_of}
use Rattle.finite_models.proofs.Positive.{positive_weight}
use Rattle.finite_models.proofs.Tested.{tested}
use Rattle.finite_models.proofs.Weights.{weight-none, weight_of-none}
use Rattle.latent_projection.specs.Vocabulary.{observed_below, IsObserved}
use Rattle.latent_projection.proofs.Numbering.{IsMixedGraph-renumbered}
use Rattle.latent_projection.proofs.Projected.{IsMixedGraph-projection}
use Rattle.prob_expr.specs.Vocabulary.{PlainFormula, effect_on, weights_of, term_value, value_of}
use Rattle.prob_expr.proofs.Alike.{left_positive, formula_alike}
use Rattle.hidden_models.specs.Vocabulary.{IsObservedPositive, set_before, values_before, drawn_weights, NotIdentifiableAsDrawn, DifferOnAsDrawn}
use Rattle.hidden_models.proofs.Drawn.{drawn_weight, folded_is_positive, keeps_term}
use Rattle.hidden_models.proofs.Statements.{one_fraction}
use Rattle.hidden_models.proofs.Totals.{total_positive}
use Rattle.treated_models.specs.Vocabulary.{AllNameOnce, NamesOnce, FormulaNamesOnce, name_count, vertex_of, as_observed, plain_in, primed_in, with_primes, weight_of_both, IsBefore}
use Rattle.treated_models.proofs.NamedOnce.{vertex_low, names_in_second, Once, asks_once, all_ask_once, weight_seen, weight_some, observed_fixes_named}
use Rattle.treated_models.proofs.NoFormula.{among, names_fix_joint}
use Rattle.treated_models.proofs.Primes.{plain_within, observed_within}
use Rattle.treated_drawn.specs.Drawn.{observed_count, drawn_both, FoldsBoth, drawn_with_primes, drawn_among}
use Rattle.treated_drawn.specs.Laws.{IsAsked, RightAmongIsDrawn, JointLostIsDrawn}
use Rattle.treated_drawn.proofs.Both.{each_has_both_folded, no_member}

-- the observed graph is one
pub q_mixed : (g : MixedGraph) → IsMixedGraph g → (l : ℕ → Bool) (q : MixedGraph) → IsObserved g l q → IsMixedGraph q
q_mixed g ok l q is = subst IsMixedGraph (sym is.renumbers) (IsMixedGraph-renumbered is.projection (observed_below l g.vertices)
    (IsMixedGraph-projection g is.projection l ok is.projects))

-- ---- a model and one that folds it
module _ (g : MixedGraph) (ok : IsMixedGraph g) (l : ℕ → Bool) (q : MixedGraph) (is : IsObserved g l q) (m m' : FiniteModel) (fit : Fits g m)
    (fit' : Fits q m') (both : FoldsBoth l m m') (x : ℕ) where
  counts : observed_count l m ≡ m'.vertices
  counts = sym both.folds.vertices

  sizes : (k : ℕ) → k < name_count (observed_count l m) x
      → m.size (slice_index (observed_below l m.vertices) (vertex_of (observed_count l m) x k)) ≡ m'.size (vertex_of m'.vertices x k)
  sizes k lt =
      let lt' : k < name_count m'.vertices x = subst (λ n. k < name_count n x) counts lt in
      ap (λ n. m.size (slice_index (observed_below l m.vertices) (vertex_of n x k))) counts
      ∙ sym (both.folds.sizes (vertex_of m'.vertices x k) (vertex_low m'.vertices x k lt'))

  -- values of names are so in both
  pub into : (c : ℕ → ℕ) → IsAssignment (drawn_with_primes l m x).vertices (drawn_with_primes l m x).size c
      → IsAssignment (with_primes m' x).vertices (with_primes m' x).size c
  into c hc k lt =
      let lt' : k < name_count (observed_count l m) x = subst (λ n. k < name_count n x) (sym counts) lt in subst (λ n. c k < n) (sizes k lt') (hc k lt')

  pub back : (c : ℕ → ℕ) → IsAssignment (with_primes m' x).vertices (with_primes m' x).size c
      → IsAssignment (drawn_with_primes l m x).vertices (drawn_with_primes l m x).size c
  back c hc k lt = subst (λ n. c k < n) (sym (sizes k lt)) (hc k (subst (λ n. k < name_count n x) counts lt))

  module _ (c : ℕ → ℕ) (hc : IsAssignment (drawn_with_primes l m x).vertices (drawn_with_primes l m x).size c) where
    plain : IsAssignment m'.vertices m'.size c
    plain = plain_within m'.vertices x m'.size c (into c hc)

    seen : IsAssignment m'.vertices m'.size (as_observed m'.vertices x c)
    seen = observed_within m'.vertices x m'.size c (into c hc)

    -- events of two worlds are in the ratio of the totals
    two : (b a o : ℕ → Bool) → drawn_both l m b a o c (as_observed (observed_count l m) x c) * total m'
        ≡ weight_of_both m' b a o c (as_observed m'.vertices x c) * total m
    two b a o = ap (λ n. drawn_both l m b a o c (as_observed n x c) * total m') counts
        ∙ both.both b a o c (as_observed m'.vertices x c) plain seen

    names : (b a : ℕ → Bool) → (drawn_with_primes l m x).weight b a c * total m' ≡ (with_primes m' x).weight b a c * total m
    names b a = ap (λ n. drawn_both l m b (plain_in n a) (primed_in n x a) c (as_observed (observed_count l m) x c) * total m') counts
        ∙ two b (plain_in m'.vertices a) (primed_in m'.vertices x a)

    -- and so are observed ones
    one : (o : ℕ → Bool) → event_weight m (set_before l o) (values_before l (as_observed (observed_count l m) x c)) * total m'
        ≡ event_weight m' o (as_observed m'.vertices x c) * total m
    one o =
        ap (λ n. event_weight m (set_before l o) (values_before l (as_observed n x c)) * total m') counts
        ∙ ap (λ n. n * total m') (sym (weight_of-none m (set_before l (λ k. false)) (set_before l o) (values_before l (as_observed m'.vertices x c))
        (λ v. no_member (not (l v)))))
        ∙ drawn_weight g ok l q is m m' fit fit' both.folds (λ k. false) o (as_observed m'.vertices x c) seen
        ∙ ap (λ n. n * total m) (weight_of-none m' (λ k. false) o (as_observed m'.vertices x c) (λ k. refl))

  module _ (observed : IsObservedPositive l m) where
    pub positive : IsPositiveModel m'
    positive = folded_is_positive g ok l q is m m' fit fit' both.folds observed

    some_event : (o : ℕ → Bool) (t : ℕ → ℕ) → IsAssignment m'.vertices m'.size t → 1 ≤ event_weight m' o t
    some_event o t ht =
        let e = positive_weight q m' (q_mixed g ok l q is) (follows_of q m' fit') positive (λ v. false) o t ht in
        let is_none = weight_of-none m' (λ v. false) o t (λ v. refl) in
        omega (arith, e, is_none)

    -- the effect has one value in both
    pub one_effect : (y z : ℕ) (c : ℕ → ℕ) → IsAssignment (drawn_with_primes l m x).vertices (drawn_with_primes l m x).size c
        → IsEqual (among m' x y z c) (drawn_among l m x y z c)
    one_effect y z c hc =
        one_fraction (weight_of_both m' (has x) (has y) (λ v. has x v || has z v) c (as_observed m'.vertices x c))
        (event_weight m' (λ v. has x v || has z v) (as_observed m'.vertices x c))
        (drawn_both l m (has x) (has y) (λ v. has x v || has z v) c (as_observed (observed_count l m) x c))
        (event_weight m (set_before l (λ v. has x v || has z v)) (values_before l (as_observed (observed_count l m) x c)))
        (total m') (total m) (total_positive q m' fit') (total_positive g m fit) below
        (left_positive (event_weight m (set_before l (λ v. has x v || has z v)) (values_before l (as_observed (observed_count l m) x c))) (total m')
        (event_weight m' (λ v. has x v || has z v) (as_observed m'.vertices x c) * total m) (mul-pos below (total_positive g m fit))
        (sym (one c hc (λ v. has x v || has z v))))
        (sym (two c hc (has x) (has y) (λ v. has x v || has z v))) (sym (one c hc (λ v. has x v || has z v)))
      where
        below : 1 ≤ event_weight m' (λ v. has x v || has z v) (as_observed m'.vertices x c)
        below = some_event (λ v. has x v || has z v) (as_observed m'.vertices x c) (seen c hc)

    -- and so has a formula whose terms are observed
    pub one_value : (f : PlainFormula) → FormulaNamesOnce q.vertices x f → (c : ℕ → ℕ)
        → IsAssignment (drawn_with_primes l m x).vertices (drawn_with_primes l m x).size c
        → IsEqual (value_of (drawn_with_primes l m x) f c) (value_of (with_primes m' x) f c)
    one_value f once c hc =
        formula_alike (drawn_with_primes l m x) (with_primes m' x) (ap (λ n. name_count n x) counts) sizes
        (λ k lt. subst (λ n. 1 ≤ n) (sym (sizes k lt)) (fit'.positive_size (vertex_of m'.vertices x k)
        (vertex_low m'.vertices x k (subst (λ n. k < name_count n x) counts lt))))
        (total m) (total m') (mul-pos (total_positive g m fit) (total_positive q m' fit')) (Once m'.vertices x)
        (λ b a k s hs. left_positive ((drawn_with_primes l m x).weight (has b) a s) (total m') ((with_primes m' x).weight (has b) a s * total m)
        (mul-pos (some b a k s hs) (total_positive g m fit)) (sym (names s hs (has b) a)))
        (λ b a k s hs. names s hs (has b) a) f
        (all_ask_once m'.vertices x f.defs (subst (λ n. AllNameOnce n x f.defs) (sym fit'.vertices) once.0))
        (asks_once m'.vertices x f.main (subst (λ n. NamesOnce n x f.main) (sym fit'.vertices) once.1)) c hc
      where
        some : (b : ℕ) (a : ℕ → Bool) → Once m'.vertices x b a → (s : ℕ → ℕ)
            → IsAssignment (drawn_with_primes l m x).vertices (drawn_with_primes l m x).size s → 1 ≤ (with_primes m' x).weight (has b) a s
        some b a k s hs =
            let e = weight_seen q (q_mixed g ok l q is) m' fit' x a k.1 s (into s hs) b k.0 in
            let i = weight_some q (q_mixed g ok l q is) m' fit' x a k.1 s (into s hs) positive in
            omega (arith, e, i)

pub right_among_is_drawn : RightAmongIsDrawn
right_among_is_drawn = λ g ok l q is x y z f once right m fit observed c hc.
    let h = each_has_both_folded g ok l q is m fit in
    equal_trans (value_of (drawn_with_primes l m x) f c) (value_of (with_primes h.folded x) f c) (drawn_among l m x y z c)
    (one_value g ok l q is m h.folded fit h.fits h.folds x observed f once c hc)
    (equal_trans (value_of (with_primes h.folded x) f c) (among h.folded x y z c) (drawn_among l m x y z c)
    (right h.folded h.fits (positive g ok l q is m h.folded fit h.fits h.folds x observed) c (into g ok l q is m h.folded fit h.fits h.folds x c hc))
    (one_effect g ok l q is m h.folded fit h.fits h.folds x observed y z c hc))

-- ---- two models that differ on the joint effect
-- observed weights of the folded models are in the ratio of the totals, where those of the models are
ratios : (d₁ d₂ w₁ w₂ t₁ t₂ k₁ k₂ : ℕ) → 1 ≤ t₁ → 1 ≤ t₂ → d₁ * t₂ ≡ d₂ * t₁ → d₁ * k₁ ≡ w₁ * t₁ → d₂ * k₂ ≡ w₂ * t₂ → w₁ * k₂ ≡ w₂ * k₁
ratios d₁ d₂ w₁ w₂ t₁ t₂ k₁ k₂ p₁ p₂ d e₁ e₂ = eq_of_mul-eq-mul_left (t₁ * t₂) (mul-pos p₁ p₂) (w₁ * k₂) (w₂ * k₁)
    ((let r : (t₁ * t₂) * (w₁ * k₂) ≡ (w₁ * t₁) * (t₂ * k₂) = omega arith in r) ∙ ap (λ n. n * (t₂ * k₂)) (sym e₁)
    ∙ (let r : (d₁ * k₁) * (t₂ * k₂) ≡ (d₁ * t₂) * (k₁ * k₂) = omega arith in r) ∙ ap (λ n. n * (k₁ * k₂)) d
    ∙ (let r : (d₂ * t₁) * (k₁ * k₂) ≡ (d₂ * k₂) * (t₁ * k₁) = omega arith in r) ∙ ap (λ n. n * (t₁ * k₁)) e₂
    ∙ (let r : (w₂ * t₂) * (t₁ * k₁) ≡ (t₁ * t₂) * (w₂ * k₁) = omega arith in r))

or_none : (c d : Bool) → d ≡ false → (c || d) ≡ c
or_none true d e = refl
or_none false d e = e

module _ (g : MixedGraph) (ok : IsMixedGraph g) (l : ℕ → Bool) (q : MixedGraph) (is : IsObserved g l q) (x y z : ℕ)
    (joint : NotIdentifiableAsDrawn g l (effect_on x (union y z)))
    (m₁ m₂ : FiniteModel) (f₁ : Fits q m₁) (f₂ : Fits q m₂) (b₁ : FoldsBoth l joint.first m₁) (b₂ : FoldsBoth l joint.second m₂) where
  pub agreed : AgreeObserved m₁ m₂
  agreed = record {
    vertices = b₁.folds.vertices ∙ joint.observed.vertices ∙ sym b₂.folds.vertices;
    sizes = λ v vl.
        let lt = subst (λ n. v < n) b₁.folds.vertices vl in
        let lt₂ = subst (λ n. v < n) (joint.observed.vertices ∙ sym b₂.folds.vertices) lt in
        b₁.folds.sizes v vl ∙ joint.observed.sizes v lt ∙ sym (b₂.folds.sizes v lt₂);
    weights = λ s hs. ratios ((drawn_weights l joint.first).weight (λ k. false) (λ k. true) s) ((drawn_weights l joint.second).weight (λ k. false) (λ k. true) s)
        (weight_of m₁ (λ k. false) (λ k. true) s) (weight_of m₂ (λ k. false) (λ k. true) s) (total joint.first) (total joint.second) (total m₁) (total m₂)
        (total_positive g joint.first joint.first_fits) (total_positive g joint.second joint.second_fits)
        (joint.observed.weights s (out s hs))
        (drawn_weight g ok l q is joint.first m₁ joint.first_fits f₁ b₁.folds (λ k. false) (λ k. true) s hs)
        (drawn_weight g ok l q is joint.second m₂ joint.second_fits f₂ b₂.folds (λ k. false) (λ k. true) s (second s hs));
  }
    where
      out : (s : ℕ → ℕ) → IsAssignment m₁.vertices m₁.size s → IsAssignment (drawn_weights l joint.first).vertices (drawn_weights l joint.first).size s
      out s hs k kl = let k' = subst (λ n. k < n) (sym b₁.folds.vertices) kl in subst (λ n. s k < n) (b₁.folds.sizes k k') (hs k k')

      second : (s : ℕ → ℕ) → IsAssignment m₁.vertices m₁.size s → IsAssignment m₂.vertices m₂.size s
      second s hs k kl =
          let lt₁ = subst (λ n. k < n) b₂.folds.vertices kl in
          let lt = subst (λ n. k < n) (sym joint.observed.vertices) lt₁ in
          subst (λ n. s k < n) (joint.observed.sizes k lt ∙ sym (b₂.folds.sizes k kl)) (out s hs k lt)

  -- the same values of names are so in the second model
  pub second_names : (c : ℕ → ℕ) → IsAssignment (drawn_with_primes l joint.first x).vertices (drawn_with_primes l joint.first x).size c
      → IsAssignment (drawn_with_primes l joint.second x).vertices (drawn_with_primes l joint.second x).size c
  second_names c hc = back g ok l q is joint.second m₂ joint.second_fits f₂ b₂ x c (names_in_second m₁ m₂ agreed.vertices agreed.sizes x c
      (into g ok l q is joint.first m₁ joint.first_fits f₁ b₁ x c hc))

  -- a formula whose terms are observed has one value in both
  pub one_formula : (f : PlainFormula) → FormulaNamesOnce q.vertices x f → (c : ℕ → ℕ)
      → IsAssignment (drawn_with_primes l joint.first x).vertices (drawn_with_primes l joint.first x).size c
      → IsEqual (value_of (drawn_with_primes l joint.first x) f c) (value_of (drawn_with_primes l joint.second x) f c)
  one_formula f once c hc =
      let v₁ = value_of (drawn_with_primes l joint.first x) f c in
      let v₂ = value_of (drawn_with_primes l joint.second x) f c in
      let w₁ = value_of (with_primes m₁ x) f c in
      let w₂ = value_of (with_primes m₂ x) f c in
      let p₁ = positive g ok l q is joint.first m₁ joint.first_fits f₁ b₁ x joint.first_positive in
      let p₂ = positive g ok l q is joint.second m₂ joint.second_fits f₂ b₂ x joint.second_positive in
      equal_trans v₁ w₁ v₂ (one_value g ok l q is joint.first m₁ joint.first_fits f₁ b₁ x joint.first_positive f once c hc)
      (equal_trans w₁ w₂ v₂ (observed_fixes_named q (q_mixed g ok l q is) m₁ m₂ f₁ f₂ p₁ p₂ agreed x f once c
      (into g ok l q is joint.first m₁ joint.first_fits f₁ b₁ x c hc))
      (equal_sym v₂ w₂ (one_value g ok l q is joint.second m₂ joint.second_fits f₂ b₂ x joint.second_positive f once c (second_names c hc))))

  top : (m : FiniteModel) (s : ℕ → ℕ) → weight_of m (has x) (λ v. has (union y z) v || has 0 v) s ≡ weight_of m (has x) (λ v. has y v || has z v) s
  top m s = ap (λ (a : ℕ → Bool). weight_of m (has x) a s)
      (fun_ext (λ v. or_none (has (union y z) v) (has 0 v) (has-zero v) ∙ has_join y z v))

  bottom : (m : FiniteModel) (s : ℕ → ℕ) → weight_of m (has x) (has 0) s ≡ total m
  bottom m s = weight-none (intervene m (has x) s) (has 0) s has-zero

  one_term : (s : ℕ → ℕ)
      → weight_of m₁ (has x) (λ v. has y v || has z v) s * total m₂ ≡ weight_of m₂ (has x) (λ v. has y v || has z v) s * total m₁
      → IsEqual (term_value (weights_of m₁) (union y z) x 0 s) (term_value (weights_of m₂) (union y z) x 0 s)
  one_term s same = record {
    left_bottom = subst (λ n. 1 ≤ n) (sym (bottom m₁ s)) (total_positive q m₁ f₁);
    right_bottom = subst (λ n. 1 ≤ n) (sym (bottom m₂ s)) (total_positive q m₂ f₂);
    products = ap₂ (λ a b. a * b) (top m₁ s) (bottom m₂ s) ∙ same ∙ ap₂ (λ a b. a * b) (sym (top m₂ s)) (sym (bottom m₁ s));
  }

  -- values of the observed vertices are so in what folds the first model
  pub inside : (s : ℕ → ℕ) → IsAssignment (drawn_weights l joint.first).vertices (drawn_weights l joint.first).size s
      → IsAssignment m₁.vertices m₁.size s
  inside s hs k kl = subst (λ n. s k < n) (sym (b₁.folds.sizes k kl)) (hs k (subst (λ n. k < n) b₁.folds.vertices kl))

  -- values at which the joint effect differs
  pub difference : DifferOnAsDrawn l joint.first joint.second (effect_on x (union y z))
  difference = (joint.effects (λ k. 0) small).0
    where
      small : (k : ℕ) → k < (drawn_weights l joint.first).vertices → 0 < (drawn_weights l joint.first).size k
      small k kl =
          let k' = subst (λ n. k < n) (sym b₁.folds.vertices) kl in subst (λ n. 0 < n) (b₁.folds.sizes k k') (f₁.positive_size k k')

  -- it has no one weight in what folds the two models
  pub no_one_weight : (d : DifferOnAsDrawn l joint.first joint.second (effect_on x (union y z)))
      → weight_of m₁ (has x) (λ v. has y v || has z v) d.at * total m₂ ≡ weight_of m₂ (has x) (λ v. has y v || has z v) d.at * total m₁ → ⊥
  no_one_weight d same =
      let hs₂ : IsAssignment (drawn_weights l joint.second).vertices (drawn_weights l joint.second).size d.at =
      λ k kl. let k' = subst (λ n. k < n) (sym joint.observed.vertices) kl in subst (λ n. d.at k < n) (joint.observed.sizes k k') (d.within k k') in
      d.unequal (equal_trans (term_value (drawn_weights l joint.first) (union y z) x 0 d.at) (term_value (weights_of m₁) (union y z) x 0 d.at)
      (term_value (drawn_weights l joint.second) (union y z) x 0 d.at)
      (keeps_term g ok l q is joint.first m₁ joint.first_fits f₁ b₁.folds joint.first_positive (union y z) x 0 d.at d.within)
      (equal_trans (term_value (weights_of m₁) (union y z) x 0 d.at) (term_value (weights_of m₂) (union y z) x 0 d.at)
      (term_value (drawn_weights l joint.second) (union y z) x 0 d.at) (one_term d.at same)
      (equal_sym (term_value (drawn_weights l joint.second) (union y z) x 0 d.at) (term_value (weights_of m₂) (union y z) x 0 d.at)
      (keeps_term g ok l q is joint.second m₂ joint.second_fits f₂ b₂.folds joint.second_positive (union y z) x 0 d.at hs₂))))

  module _ (before : IsBefore q (has x) (λ v. has x v || has z v)) (x_low : (v : ℕ) → has x v ≡ true → v < q.vertices)
      (y_off_x : (v : ℕ) → has y v ≡ true → has x v ≡ false) (y_off_z : (v : ℕ) → has y v ≡ true → has z v ≡ false)
      (z_off_x : (v : ℕ) → has z v ≡ true → has x v ≡ false) where
    module _ (equal : (c : ℕ → ℕ) → IsAssignment (drawn_with_primes l joint.first x).vertices (drawn_with_primes l joint.first x).size c
        → IsEqual (drawn_among l joint.first x y z c) (drawn_among l joint.second x y z c)) where
      same_weights : (s : ℕ → ℕ) → IsAssignment m₁.vertices m₁.size s
          → weight_of m₁ (has x) (λ v. has y v || has z v) s * total m₂ ≡ weight_of m₂ (has x) (λ v. has y v || has z v) s * total m₁
      same_weights = names_fix_joint q (q_mixed g ok l q is) m₁ m₂ f₁ f₂ agreed x y z before x_low y_off_x y_off_z z_off_x (λ c hc.
          let hc₁ = back g ok l q is joint.first m₁ joint.first_fits f₁ b₁ x c hc in
          equal_trans (among m₁ x y z c) (drawn_among l joint.first x y z c) (among m₂ x y z c)
          (one_effect g ok l q is joint.first m₁ joint.first_fits f₁ b₁ x joint.first_positive y z c hc₁)
          (equal_trans (drawn_among l joint.first x y z c) (drawn_among l joint.second x y z c) (among m₂ x y z c) (equal c hc₁)
          (equal_sym (among m₂ x y z c) (drawn_among l joint.second x y z c)
          (one_effect g ok l q is joint.second m₂ joint.second_fits f₂ b₂ x joint.second_positive y z c (second_names c hc₁)))))

      -- so the joint effect is one, against what its two models show
      contradicts : ⊥
      contradicts = no_one_weight difference (same_weights difference.at (inside difference.at difference.within))

    lost : (f : PlainFormula) → FormulaNamesOnce q.vertices x f → ((m : FiniteModel) → Fits g m → IsObservedPositive l m → (s : ℕ → ℕ)
        → IsAssignment (drawn_with_primes l m x).vertices (drawn_with_primes l m x).size s
        → IsEqual (value_of (drawn_with_primes l m x) f s) (drawn_among l m x y z s)) → ⊥
    lost f once right = contradicts (λ c hc.
        let v₁ = value_of (drawn_with_primes l joint.first x) f c in
        let v₂ = value_of (drawn_with_primes l joint.second x) f c in
        let e₁ = drawn_among l joint.first x y z c in
        let e₂ = drawn_among l joint.second x y z c in
        equal_trans e₁ v₁ e₂ (equal_sym v₁ e₁ (right joint.first joint.first_fits joint.first_positive c hc))
        (equal_trans v₁ v₂ e₂ (one_formula f once c hc) (right joint.second joint.second_fits joint.second_positive c (second_names c hc))))

-- it can't be that x and z don't come after x, and no set shows it: their ancestors do
before_tested : (q : MixedGraph) → IsMixedGraph q → (x y z : ℕ) → IsAsked q x y z → (IsBefore q (has x) (λ v. has x v || has z v) → ⊥) → ⊥
before_tested q ok x y z asked none = tested (IsAncestor q (λ v. has x v || has z v)) q.vertices (λ t. none (record {
  past = t.test;
  holds = λ v e.
      let low : v < q.vertices = either (has x v) (has z v) (v < q.vertices) e (asked.x_low v) (asked.z_low v) in
      t.complete v low (record { vertex = low; path = []; end = v; leads = refl; inside = e });
  closed = λ p v arrow e.
      let k = t.sound v e in
      let low = ok.tail_below p v arrow in
      t.complete p low (record { vertex = low; path = v ∷ k.path; end = k.end; leads = (arrow, k.leads); inside = k.inside });
  untouched = λ p v arrow e. false_from_ne_true (has x p) (λ h.
      let k = t.sound v e in
      asked.before p v k.path k.end h (arrow, k.leads) k.inside);
}))

pub joint_lost_is_drawn : JointLostIsDrawn
joint_lost_is_drawn = λ g ok l q is x y z asked joint.
    let h₁ = each_has_both_folded g ok l q is joint.first joint.first_fits in
    let h₂ = each_has_both_folded g ok l q is joint.second joint.second_fits in
    record {
      joint = joint;
      differ = λ equal. before_tested q (q_mixed g ok l q is) x y z asked (λ before.
          contradicts g ok l q is x y z joint h₁.folded h₂.folded h₁.fits h₂.fits h₁.folds h₂.folds before asked.x_low asked.y_off_x asked.y_off_z
          asked.z_off_x equal);
      no_formula = λ f once right. before_tested q (q_mixed g ok l q is) x y z asked (λ before.
          lost g ok l q is x y z joint h₁.folded h₂.folded h₁.fits h₂.fits h₁.folds h₂.folds before asked.x_low asked.y_off_x asked.y_off_z asked.z_off_x
          f once right);
    }
