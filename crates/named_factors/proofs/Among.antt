-- Factors over counts cover the effect among the treated.
use Rattle.std.proofs.Common.{◌≡◌, ◌||◌, true, subst}
use Rattle.mixed_graph.specs.Vocabulary.{has}
use Rattle.fractions.specs.Vocabulary.{Fraction}
use Rattle.finite_models.specs.Vocabulary.{IsAssignment}
use Rattle.quantity.specs.Kinds.{Pair}
use Rattle.quantity.specs.Vocabulary.{Kind, IsLawful}
use Rattle.treated_models.specs.Vocabulary.{as_observed, effect_among}
use Rattle.treated_models.proofs.Primes.{plain_within, observed_within}
use Rattle.factor_values.proofs.Matching.{matched_covers_factors}
use Rattle.named_factors.specs.Covers.{alone, FactorsCoverAmong}
use Rattle.named_factors.proofs.Naming.{factors_equal_named}

pub factors_cover_among : (kind : Kind) (covers : Pair → Fraction → Type 0) → IsLawful kind covers → FactorsCoverAmong kind covers
factors_cover_among kind covers lawful g ok m fit positive used w all matched x y z e are observed s within c is =
    matched_covers_factors kind covers lawful g ok m fit positive used w all matched e observed s (as_observed g.vertices x s)
    (plain_within m.vertices x m.size s within)
    (subst (λ n. IsAssignment m.vertices m.size (as_observed n x s)) fit.vertices (observed_within m.vertices x m.size s within))
    c is (effect_among m (has x) (has y) (λ v. has x v || has z v) s (as_observed m.vertices x s))
    (factors_equal_named g ok m fit positive x (alone are.main) are.once e are.factors
    (λ v i. (are.over.others v (subst (λ u. has u v ≡ true) are.factors.summed i)).low)
    (λ v i. (are.over.others v (subst (λ u. has u v ≡ true) are.factors.summed i)).outside)
    s within (effect_among m (has x) (has y) (λ v. has x v || has z v) s (as_observed m.vertices x s)) (are.equals m fit positive s within))
