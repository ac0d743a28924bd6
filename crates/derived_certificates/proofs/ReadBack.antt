-- The certificate of parts that are accepted and well made is read back.
use Rattle.std.proofs.Common.{ℕ, ◌≡◌, ◌<◌, ◌∙◌, ◌||◌, Bool, true, false, not, List, refl, sym, subst, arith}
use Rattle.mixed_graph.specs.Vocabulary.{has, Apart, MixedGraph, IsMixedGraph, is_empty, union}
use Rattle.mixed_graph.proofs.MaskLaws.{apart_from, below_from, has_join, not_empty}
use Rattle.finite_models.proofs.Bools.{either}
use Rattle.do_rules.specs.Vocabulary.{AreFourSets, AreThreeSets}
use Rattle.do_derivation.proofs.TermSets.{apart_back}
use Rattle.prob_expr.specs.Vocabulary.{PlainTarget}
use Rattle.derived_parts.specs.Vocabulary.{PlainDerivedPart}
use Rattle.treated_id.specs.Vocabulary.{IsTreatedTarget}
use Rattle.certificate.specs.Vocabulary.{natural, treated}
use Rattle.certificate_json.specs.Vocabulary.{IsPartTarget, IsPartWritable, are_parts_short}
use Rattle.certificate_json.proofs.PartsBack.{part_text_back}
use Rattle.effect_answers.proofs.Writing.{target_within}
use Rattle.part_checks.specs.Vocabulary.{AreAcceptedAmong, AreNaturallyAccepted, AreWellMade}
use Rattle.derived_certificates.specs.Certificates.{IsPartReadBack}
use Rattle.derived_certificates.proofs.Within.{parts_shallow, parts_within}

-- the sets of an effect
abbrev pub sets_of : (x y z : ℕ) → PlainTarget
sets_of x y z = record { x = x; y = y; given = z }

neither : (a b : Bool) → a ≡ false → b ≡ false → (a || b) ≡ false
neither a b e f = rw (e, f) refl

-- a set with a member isn't empty
filled : (a : ℕ) → 0 < a → not (is_empty a) ≡ true
filled a some = not_empty a (λ none. absurd (omega (arith, some, none)))

target_in : (n x y z : ℕ) → AreThreeSets n (has x) (has y) (has z) → 0 < x → 0 < y → IsPartTarget n (sets_of x y z)
target_in n x y z sets some_x some_y = record { sets = target_within n (sets_of x y z) sets some_y; some = filled x some_x }

-- the sets of an effect among the treated
three_sets : (g : MixedGraph) (x y z : ℕ) → IsTreatedTarget g x y z → AreThreeSets g.vertices (has x) (has y) (has z)
three_sets g x y z t = record {
  x_within = t.x_low;
  y_within = t.y_low;
  w_within = t.z_low;
  x_y = t.x_off_y;
  x_w = t.x_off_z;
  y_w = apart_back (has z) (has y) t.z_off_y;
}

-- that of an effect among the treated
pub treated_back : (g : MixedGraph) → IsMixedGraph g → (x y z : ℕ) (ps : List PlainDerivedPart) → IsTreatedTarget g x y z → 0 < y → AreAcceptedAmong g x y z ps
    → AreWellMade g.vertices ps → are_parts_short ps ≡ true → 0 < x → IsPartReadBack g.vertices (treated (sets_of x y z) ps)
treated_back g ok x y z ps target some_y accepted made short some_x = λ names are sized. part_text_back names (treated (sets_of x y z) ps) are
    (subst (λ n. IsPartWritable n (treated (sets_of x y z) ps)) (sym sized)
    (target_in g.vertices x y z (three_sets g x y z target) some_x some_y, parts_within g ok accepted.sets ps accepted.accepted made))
    short (parts_shallow g.vertices ps made)

module _ (n x y m z : ℕ) (s : AreFourSets n (has x) (has y) (has m) (has z)) where
  -- the sets of a nested effect without its mediators
  other_sets : AreThreeSets n (has x) (has y) (has z)
  other_sets = record { x_within = s.x_within; y_within = s.y_within; w_within = s.w_within; x_y = s.x_y; x_w = s.x_w; y_w = s.y_w }

  -- the mediators are none of these
  off_mediators : (v : ℕ) → has (union (union x y) z) v ≡ true → has m v ≡ false
  off_mediators v h = either (has (union x y) v) (has z v) (has m v ≡ false) (sym (has_join (union x y) z v) ∙ h)
      (λ i. either (has x v) (has y v) (has m v ≡ false) (sym (has_join x y v) ∙ i) (s.x_z v) (s.y_z v))
      (apart_back (has m) (has z) s.z_w v)

  -- what is asked and observed is apart from x
  pub joint_apart : Apart (has x) (has (union y z))
  joint_apart v h = has_join y z v ∙ neither (has y v) (has z v) (s.x_y v h) (s.x_w v h)

-- and that of a nested effect
pub natural_back : (g : MixedGraph) → IsMixedGraph g → (x m y z : ℕ) (ps : List PlainDerivedPart) → AreFourSets g.vertices (has x) (has y) (has m) (has z)
    → 0 < x → 0 < y → 0 < m → AreNaturallyAccepted g x y z ps → AreWellMade g.vertices ps → are_parts_short ps ≡ true
    → IsPartReadBack g.vertices (natural (sets_of x y z) m ps)
natural_back g ok x m y z ps sets some_x some_y some_m accepted made short = λ names are sized. part_text_back names (natural (sets_of x y z) m ps) are
    (subst (λ n. IsPartWritable n (natural (sets_of x y z) m ps)) (sym sized) (
      target_in g.vertices x y z (other_sets g.vertices x y m z sets) some_x some_y,
      below_from g.vertices m sets.z_within,
      apart_from (union (union x y) z) m (off_mediators g.vertices x y m z sets),
      filled m some_m,
      parts_within g ok accepted.sets ps accepted.accepted made,
    ))
    short (parts_shallow g.vertices ps made)
