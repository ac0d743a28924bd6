-- Two models of the observed graph that differ on a nested effect show it of the diagram as drawn.
use Rattle.std.proofs.Common.{ℕ, ◌≡◌, ◌<◌, Bool, true, sym, subst}
use Rattle.mixed_graph.specs.Vocabulary.{has, MixedGraph, IsMixedGraph}
use Rattle.fractions.proofs.FractionLaws.{equal_sym, equal_trans}
use Rattle.finite_models.specs.Vocabulary.{FiniteModel, Fits, IsAssignment, IsPositiveModel}
use Rattle.latent_projection.specs.Vocabulary.{IsObserved}
use Rattle.prob_expr.specs.Vocabulary.{PlainFormula, value_of}
use Rattle.prob_expr.proofs.Allowed.{in_second}
use Rattle.hidden_models.specs.Vocabulary.{IsObservedPositive, drawn_weights, IsFoldedFrom, AgreeAsDrawn}
use Rattle.hidden_models.proofs.Drawing.{each_is_folded, unfolded_is_positive, agree_drawn}
use Rattle.treated_models.specs.Vocabulary.{FormulaNamesOnce, as_observed, with_primes}
use Rattle.treated_drawn.specs.Vocabulary.{observed_count, drawn_with_primes}
use Rattle.treated_drawn.proofs.Among.{q_mixed, back, one_value}
use Rattle.nested_models.specs.Vocabulary.{nested_effect}
use Rattle.nested_models.proofs.NoFormula.{EqualsIn, not_in_both}
use Rattle.twisted_models.specs.Vocabulary.{DifferOnNested}
use Rattle.natural_drawn.specs.Drawn.{FoldsNested, drawn_nested_effect, EqualsNestedAsDrawn, HasNoFormulaNestedAsDrawn, DifferNestedAsDrawn}
use Rattle.natural_drawn.specs.Laws.{NestedDifferenceIsDrawn}
use Rattle.natural_drawn.proofs.Carried.{one_nested, one_named}
use Rattle.natural_drawn.proofs.Shared.{shared_folds}

module _ (g : MixedGraph) (ok : IsMixedGraph g) (l : ℕ → Bool) (q : MixedGraph) (is : IsObserved g l q) where
  -- ---- a positive model of the observed graph, and one of the diagram as drawn that it folds
  module _ (w : FiniteModel) (fit : Fits q w) (positive : IsPositiveModel w) (d : IsFoldedFrom g l w) where
    observed : IsObservedPositive l d.drawn
    observed = unfolded_is_positive g ok l q is d.drawn w d.fits fit d.folds positive

    folds : FoldsNested l d.drawn w
    folds = shared_folds g ok l q d.drawn w d.fits fit d.folds d.shares

    out : (s : ℕ → ℕ) → IsAssignment w.vertices w.size s → IsAssignment (drawn_weights l d.drawn).vertices (drawn_weights l d.drawn).size s
    out s hs k kl = let kl' = subst (λ n. k < n) (sym d.folds.vertices) kl in subst (λ n. s k < n) (d.folds.sizes k kl') (hs k kl')

    -- a formula that equals the nested effect as drawn equals it here
    equals_in : (x m y z : ℕ) (f : PlainFormula) → FormulaNamesOnce q.vertices x f → EqualsNestedAsDrawn g l x m y z f → EqualsIn w x m y z f
    equals_in x m y z f once right c hc =
        let hc' = back g ok l q is d.drawn w d.fits fit folds.both x c hc in
        let v = value_of (with_primes w x) f c in
        let v' = value_of (drawn_with_primes l d.drawn x) f c in
        let e = nested_effect w (has x) (has m) (has y) (has z) c (as_observed w.vertices x c) in
        let e' = drawn_nested_effect l d.drawn x m y z c (as_observed (observed_count l d.drawn) x c) in
        equal_trans v v' e (equal_sym v' v (one_value g ok l q is d.drawn w d.fits fit folds.both x observed f once c hc'))
        (equal_trans v' e' e (right d.drawn d.fits observed c hc')
        (equal_sym e e' (one_named g ok l q is d.drawn w d.fits fit folds observed x m y z c hc')))

  module _ (x m y z : ℕ) (x_low : (v : ℕ) → has x v ≡ true → v < q.vertices) (p : DifferOnNested q x m y z) where
    one : IsFoldedFrom g l p.first
    one = each_is_folded g ok l q is p.first p.first_fits p.first_two

    other : IsFoldedFrom g l p.second
    other = each_is_folded g ok l q is p.second p.second_fits p.second_two

    positive₁ : IsObservedPositive l one.drawn
    positive₁ = observed p.first p.first_fits p.first_positive one

    positive₂ : IsObservedPositive l other.drawn
    positive₂ = observed p.second p.second_fits p.second_positive other

    agree : AgreeAsDrawn l one.drawn other.drawn
    agree = agree_drawn g ok l q is p.first p.second p.first_fits p.second_fits p.first_positive p.second_positive p.agree one other

    differ : DifferNestedAsDrawn l one.drawn other.drawn x m y z
    differ = record {
      first = p.s;
      second = p.t;
      first_within = out p.first p.first_fits p.first_positive one p.s p.s_values;
      second_within = out p.first p.first_fits p.first_positive one p.t p.t_values;
      unequal = λ e.
          let e₁ = nested_effect p.first (has x) (has m) (has y) (has z) p.s p.t in
          let e₂ = nested_effect p.second (has x) (has m) (has y) (has z) p.s p.t in
          let d₁ = drawn_nested_effect l one.drawn x m y z p.s p.t in
          let d₂ = drawn_nested_effect l other.drawn x m y z p.s p.t in
          p.differ (equal_trans e₁ d₁ e₂
          (one_nested g ok l q is one.drawn p.first one.fits p.first_fits (folds p.first p.first_fits p.first_positive one) positive₁ x m y z p.s p.t p.s_values
          p.t_values)
          (equal_trans d₁ d₂ e₂ e (equal_sym e₂ d₂
          (one_nested g ok l q is other.drawn p.second other.fits p.second_fits (folds p.second p.second_fits p.second_positive other) positive₂ x m y z p.s p.t
          (in_second p.first p.second p.agree.vertices p.agree.sizes p.s p.s_values)
          (in_second p.first p.second p.agree.vertices p.agree.sizes p.t p.t_values)))));
    }

    no_formula : HasNoFormulaNestedAsDrawn g l q.vertices x m y z
    no_formula f once right =
        not_in_both q (q_mixed g ok l q is) p.first p.second p.first_fits p.second_fits p.first_positive p.second_positive p.agree x m y z x_low p.s p.t
        p.s_values p.t_values p.differ f once
        (equals_in p.first p.first_fits p.first_positive one x m y z f once right)
        (equals_in p.second p.second_fits p.second_positive other x m y z f once right)

pub nested_difference_is_drawn : NestedDifferenceIsDrawn
nested_difference_is_drawn g ok l q is x m y z x_low p = record {
  first = (one g ok l q is x m y z x_low p).drawn;
  second = (other g ok l q is x m y z x_low p).drawn;
  first_fits = (one g ok l q is x m y z x_low p).fits;
  second_fits = (other g ok l q is x m y z x_low p).fits;
  first_positive = positive₁ g ok l q is x m y z x_low p;
  second_positive = positive₂ g ok l q is x m y z x_low p;
  observed = agree g ok l q is x m y z x_low p;
  differ = differ g ok l q is x m y z x_low p;
  no_formula = no_formula g ok l q is x m y z x_low p;
}
