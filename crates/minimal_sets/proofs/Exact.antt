-- Minimal admissible sets are those whose formula is the effect.
use Rattle.std.proofs.Common.{ℕ, ◌≡◌, ◌<◌, Bool, true, false, ◌&&◌, nat_lt, refl, sym, ◌∙◌, subst, arith}
use mathlib.Core.Path.{fun_ext}
use Rattle.std.proofs.lemmas.Bool.{false_from_ne_true}
use Rattle.mixed_graph.specs.Vocabulary.{has, MixedGraph, IsMixedGraph, Within, Apart}
use Rattle.finite_models.specs.Vocabulary.{mask_of}
use Rattle.finite_models.proofs.Packed.{has-mask}
use Rattle.finite_models.proofs.Bools.{not_both}
use Rattle.do_rules.specs.Vocabulary.{AreThreeSets}
use Rattle.adjustment.specs.Vocabulary.{IsAdmissible}
use Rattle.adjustment.proofs.Effects.{admissible_adjusts}
use Rattle.adjustment.proofs.FaultWalks.{adjusts_exactly}
use Rattle.minimal_sets.specs.Separators.{IsPart}
use Rattle.minimal_sets.specs.MinimalSets.{IsMinimalSet, IsMinimalAdjustment, MinimalIsExact}

-- a part of the vertices has a mask
masked : (n : ℕ) (p : ℕ → Bool) → Within n p → has (mask_of p n) ≡ p
masked n p within = fun_ext (λ v. has-mask p n v ∙ go v (p v) (within v))
  where
    low : (v : ℕ) → v < n → (true && nat_lt v n) ≡ true
    low v lt = grind (arith, lt)

    go : (v : ℕ) (b : Bool) → (b ≡ true → v < n) → (b && nat_lt v n) ≡ b
    go v true w = low v (w refl)
    go v false w = refl

module _ (g : MixedGraph) (ok : IsMixedGraph g) (x y z : ℕ) (x_within : Within g.vertices (has x)) (y_within : Within g.vertices (has y))
    (apart : Apart (has x) (has y)) where
  module _ (within : Within g.vertices (has z)) (x_apart : Apart (has z) (has x)) (y_apart : Apart (has z) (has y)) where
    sets : (p : ℕ → Bool) → IsPart p (has z) → AreThreeSets g.vertices (has x) (has y) p
    sets p part = record {
      x_within = x_within;
      y_within = y_within;
      w_within = λ v e. within v (part v e);
      x_y = apart;
      x_w = λ v e. false_from_ne_true (p v) (λ i. not_both (has x v) e (x_apart v (part v i)));
      y_w = λ v e. false_from_ne_true (p v) (λ i. not_both (has y v) e (y_apart v (part v i)));
    }

  minimal_effect : IsMinimalSet g (has x) (has y) (has z) → IsMinimalAdjustment g x y z
  minimal_effect k = record {
    within = k.within;
    x_apart = k.x_apart;
    y_apart = k.y_apart;
    effect = admissible_adjusts g ok x y z (sets k.within k.x_apart k.y_apart (has z) (λ v e. e)) k.admissible;
    minimal = λ p part all. k.minimal (has p) part ((adjusts_exactly g ok x y p (sets k.within k.x_apart k.y_apart (has p) part)).1 all);
  }

  minimal_set : IsMinimalAdjustment g x y z → IsMinimalSet g (has x) (has y) (has z)
  minimal_set k = record {
    within = k.within;
    x_apart = k.x_apart;
    y_apart = k.y_apart;
    admissible = (adjusts_exactly g ok x y z (sets k.within k.x_apart k.y_apart (has z) (λ v e. e))).1 k.effect;
    minimal = λ p part a.
        let same = masked g.vertices p (λ v e. k.within v (part v e)) in
        subst (IsPart (has z)) same (k.minimal (mask_of p g.vertices) (subst (λ q. IsPart q (has z)) (sym same) part)
        (admissible_adjusts g ok x y (mask_of p g.vertices)
        (subst (AreThreeSets g.vertices (has x) (has y)) (sym same) (sets k.within k.x_apart k.y_apart p part))
        (subst (IsAdmissible g (has x) (has y)) (sym same) a)));
  }

pub minimal_is_exact : MinimalIsExact
minimal_is_exact = λ g ok x y z x_within y_within apart. (minimal_effect g ok x y z x_within y_within apart, minimal_set g ok x y z x_within y_within apart)
