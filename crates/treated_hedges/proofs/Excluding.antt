-- From the two models of a hedge to no formula among the treated.
use Rattle.std.proofs.Common.{ℕ, ◌*◌, ◌≡◌, ◌≢◌, ◌<◌, Bool, true, false, refl, ◌∙◌, ◌||◌, subst}
use mathlib.Core.Path.{fun_ext}
use Rattle.mixed_graph.specs.Vocabulary.{has, union}
use Rattle.mixed_graph.proofs.MaskLaws.{has_join}
use Rattle.finite_models.specs.Vocabulary.{meaning, weight_of, total}
use Rattle.finite_models.proofs.Bools.{either, not_both}
use Rattle.treated_models.specs.Vocabulary.{IsBefore}
use Rattle.treated_models.proofs.NoFormula.{difference_excludes_among}
use Rattle.treated_id.proofs.Ancestors.{ancestors_parents, ancestors_own, untouched}
use Rattle.treated_hedges.specs.Excluded.{CounterModelsExcludeAmong}

pub counter_models_exclude_among : CounterModelsExcludeAmong
counter_models_exclude_among g ok x y z target c are pair models =
    difference_excludes_among g ok (meaning g pair.first) (meaning g pair.second) models.first.fits models.second.fits models.first.positive
    models.second.positive models.observed x y z before target.x_low (λ v e. turned (has x v) (has y v) e (target.x_off_y v))
    (λ v e. turned (has z v) (has y v) e (target.z_off_y v)) (λ v e. turned (has x v) (has z v) e (target.x_off_z v))
    models.effects.at models.effects.within
    (subst (λ (a : ℕ → Bool). weight_of (meaning g pair.first) (has x) a models.effects.at * total (meaning g pair.second)
    ≢ weight_of (meaning g pair.second) (has x) a models.effects.at * total (meaning g pair.first)) (fun_ext (λ v. has_join y z v)) models.effects.unequal)
  where
    -- where the second isn't beside the first, the first isn't beside the second
    turned : (p q : Bool) → q ≡ true → (p ≡ true → q ≡ false) → p ≡ false
    turned true q h k = absurd (not_both q h (k refl))
    turned false q h k = refl

    before : IsBefore g (has x) (λ v. has x v || has z v)
    before = record {
      past = has c;
      holds = λ v e. ancestors_own g ok c (has (union x z)) are v (either (has x v) (has z v) (v < g.vertices) e (target.x_low v) (target.z_low v))
          (has_join x z v ∙ e);
      closed = ancestors_parents g ok c (has (union x z)) are;
      untouched = untouched g x z c target.before are;
    }
