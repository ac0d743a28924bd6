-- Two models of the observed graph that differ on the effect among the treated come from two of the diagram as drawn that do.
use Rattle.std.proofs.Common.{ℕ, ◌≡◌, ◌<◌, Bool, true, ◌||◌}
use Rattle.mixed_graph.specs.Vocabulary.{has, MixedGraph, IsMixedGraph}
use Rattle.fractions.specs.Vocabulary.{IsEqual}
use Rattle.fractions.proofs.FractionLaws.{equal_sym, equal_trans}
use Rattle.finite_models.specs.Vocabulary.{FiniteModel, Fits, IsAssignment}
use Rattle.latent_projection.specs.Vocabulary.{IsObserved}
use Rattle.prob_expr.specs.Vocabulary.{PlainFormula, value_of}
use Rattle.hidden_models.specs.Vocabulary.{IsObservedPositive, IsFoldedFrom}
use Rattle.hidden_models.proofs.Drawing.{agree_drawn, unfolded_is_positive}
use Rattle.treated_models.specs.Vocabulary.{FormulaNamesOnce, DifferAmong, with_primes}
use Rattle.treated_models.proofs.NamedOnce.{names_in_second, observed_fixes_named}
use Rattle.treated_models.proofs.NoFormula.{among, point, point_within, differ_there}
use Rattle.treated_drawn.specs.Drawn.{drawn_with_primes, drawn_among, DifferAmongAsDrawn, EqualsAmongAsDrawn}
use Rattle.treated_drawn.specs.Laws.{IsBothFoldedFrom, DifferingIsDrawn}
use Rattle.treated_drawn.proofs.Among.{q_mixed, into, back, one_value, one_effect}
use Rattle.treated_drawn.proofs.Unfolding.{each_is_both_folded}

module _ (g : MixedGraph) (ok : IsMixedGraph g) (l : ℕ → Bool) (q : MixedGraph) (is : IsObserved g l q) (x y z : ℕ)
    (low : (v : ℕ) → has x v ≡ true → v < q.vertices) (d : DifferAmong q x y z) (u₁ : IsBothFoldedFrom g l d.first) (u₂ : IsBothFoldedFrom g l d.second) where
  pub positive₁ : IsObservedPositive l u₁.drawn
  positive₁ = unfolded_is_positive g ok l q is u₁.drawn d.first u₁.fits d.first_fits u₁.folds.folds d.first_positive

  pub positive₂ : IsObservedPositive l u₂.drawn
  positive₂ = unfolded_is_positive g ok l q is u₂.drawn d.second u₂.fits d.second_fits u₂.folds.folds d.second_positive

  -- values of names are so in the second model
  second_names : (c : ℕ → ℕ) → IsAssignment (drawn_with_primes l u₁.drawn x).vertices (drawn_with_primes l u₁.drawn x).size c
      → IsAssignment (drawn_with_primes l u₂.drawn x).vertices (drawn_with_primes l u₂.drawn x).size c
  second_names c hc = back g ok l q is u₂.drawn d.second u₂.fits d.second_fits u₂.folds x c
      (names_in_second d.first d.second d.observed.vertices d.observed.sizes x c
      (into g ok l q is u₁.drawn d.first u₁.fits d.first_fits u₁.folds x c hc))

  -- the effect isn't one in both
  pub differ_drawn : DifferAmongAsDrawn l u₁.drawn u₂.drawn x y z
  differ_drawn equal =
      let c = point q x y z low d in
      let hc = back g ok l q is u₁.drawn d.first u₁.fits d.first_fits u₁.folds x c (point_within q x y z low d) in
      let e₁ = drawn_among l u₁.drawn x y z c in
      let e₂ = drawn_among l u₂.drawn x y z c in
      differ_there q x y z low d (equal_trans (among d.first x y z c) e₁ (among d.second x y z c)
      (one_effect g ok l q is u₁.drawn d.first u₁.fits d.first_fits u₁.folds x positive₁ y z c hc)
      (equal_trans e₁ e₂ (among d.second x y z c) (equal c hc)
      (equal_sym (among d.second x y z c) e₂
      (one_effect g ok l q is u₂.drawn d.second u₂.fits d.second_fits u₂.folds x positive₂ y z c (second_names c hc)))))

  -- a formula whose terms are observed has one value in both
  one_formula : (f : PlainFormula) → FormulaNamesOnce q.vertices x f → (c : ℕ → ℕ)
      → IsAssignment (drawn_with_primes l u₁.drawn x).vertices (drawn_with_primes l u₁.drawn x).size c
      → IsEqual (value_of (drawn_with_primes l u₁.drawn x) f c) (value_of (drawn_with_primes l u₂.drawn x) f c)
  one_formula f once c hc =
      let v₁ = value_of (drawn_with_primes l u₁.drawn x) f c in
      let v₂ = value_of (drawn_with_primes l u₂.drawn x) f c in
      let w₁ = value_of (with_primes d.first x) f c in
      let w₂ = value_of (with_primes d.second x) f c in
      equal_trans v₁ w₁ v₂ (one_value g ok l q is u₁.drawn d.first u₁.fits d.first_fits u₁.folds x positive₁ f once c hc)
      (equal_trans w₁ w₂ v₂ (observed_fixes_named q (q_mixed g ok l q is) d.first d.second d.first_fits d.second_fits d.first_positive d.second_positive
      d.observed x f once c (into g ok l q is u₁.drawn d.first u₁.fits d.first_fits u₁.folds x c hc))
      (equal_sym v₂ w₂ (one_value g ok l q is u₂.drawn d.second u₂.fits d.second_fits u₂.folds x positive₂ f once c (second_names c hc))))

  pub none_drawn : (f : PlainFormula) → FormulaNamesOnce q.vertices x f → EqualsAmongAsDrawn g l x y z f → ⊥
  none_drawn f once right = differ_drawn (λ c hc.
      let v₁ = value_of (drawn_with_primes l u₁.drawn x) f c in
      let v₂ = value_of (drawn_with_primes l u₂.drawn x) f c in
      let e₁ = drawn_among l u₁.drawn x y z c in
      let e₂ = drawn_among l u₂.drawn x y z c in
      equal_trans e₁ v₁ e₂ (equal_sym v₁ e₁ (right u₁.drawn u₁.fits positive₁ c hc))
      (equal_trans v₁ v₂ e₂ (one_formula f once c hc) (right u₂.drawn u₂.fits positive₂ c (second_names c hc))))

pub differing_is_drawn : DifferingIsDrawn
differing_is_drawn = λ g ok l q is x y z low d.
    let u₁ = each_is_both_folded g ok l q is d.first d.first_fits d.first_two in
    let u₂ = each_is_both_folded g ok l q is d.second d.second_fits d.second_two in
    record {
      first = u₁.drawn;
      second = u₂.drawn;
      first_fits = u₁.fits;
      second_fits = u₂.fits;
      first_positive = positive₁ g ok l q is x y z low d u₁ u₂;
      second_positive = positive₂ g ok l q is x y z low d u₁ u₂;
      observed = agree_drawn g ok l q is d.first d.second d.first_fits d.second_fits d.first_positive d.second_positive d.observed
          (record { drawn = u₁.drawn; fits = u₁.fits; folds = u₁.folds.folds; shares = u₁.shares }) (record { drawn = u₂.drawn; fits = u₂.fits; folds = u₂.folds.folds; shares = u₂.shares });
      differ = differ_drawn g ok l q is x y z low d u₁ u₂;
      no_formula = none_drawn g ok l q is x y z low d u₁ u₂;
    }
