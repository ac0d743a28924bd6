-- What the sets that lists name have.
use Rattle.std.proofs.Common.{◌≡◌, ◌<◌, ◌||◌, ℕ, zero, suc, Bool, true, false, refl, length, sym, ◌∙◌, arith}
use Rattle.mixed_graph.specs.Vocabulary.{has, MixedGraph, union, Within, Apart}
use Rattle.mixed_graph.proofs.MaskLaws.{has_join, join_filled}
use Rattle.finite_models.proofs.Bools.{either, not_both}
use Rattle.do_rules.specs.Vocabulary.{AreThreeSets}
use Rattle.targets.specs.Vocabulary.{Lists, AreListedSets}
use Rattle.targets.proofs.Disjoint.{disjoint_listed_sets}
use Rattle.treated_id.specs.Vocabulary.{IsTreatedTarget, AreBefore}

-- they are within the observed vertices, and no two of them meet
pub three_sets : (l : Lists) (n x y given : ℕ) → length l.observed ≡ n → AreListedSets l x y given → AreThreeSets n (has x) (has y) (has given)
three_sets l n x y given e s =
    let d = disjoint_listed_sets l n x y given e s in
    record { x_within = d.x_within; y_within = d.y_within; w_within = d.w_within; x_y = d.x_y; x_w = d.x_w; y_w = d.y_w }

positive : (k : ℕ) → (k ≡ 0 → ⊥) → 0 < k
positive zero h = absurd (h refl)
positive (suc k) h = omega arith

neither : (a b : Bool) → a ≡ false → b ≡ false → (a || b) ≡ false
neither a b e f = rw (e, f) refl

-- where the second isn't beside the first, the first isn't beside the second
pub turned : (p q : Bool) → q ≡ true → (p ≡ true → q ≡ false) → p ≡ false
turned true q h k = absurd (not_both q h (k refl))
turned false q h k = refl

module _ (n x y z : ℕ) (sets : AreThreeSets n (has x) (has y) (has z)) where
  -- x and z are a set of vertices
  pub observed_within : Within n (has (union x z))
  observed_within v h = either (has x v) (has z v) (v < n) (sym (has_join x z v) ∙ h) (sets.x_within v) (sets.w_within v)

  -- so are y and z
  pub joint_within : Within n (has (union y z))
  joint_within v h = either (has y v) (has z v) (v < n) (sym (has_join y z v) ∙ h) (sets.y_within v) (sets.w_within v)

  -- apart from x
  pub joint_apart : Apart (has x) (has (union y z))
  joint_apart v h = has_join y z v ∙ neither (has y v) (has z v) (sets.x_y v h) (sets.x_w v h)

  -- with a member
  pub joint_some : 0 < y → 0 < union y z
  joint_some some = let filled = join_filled y z (λ e. absurd (omega (arith, some, e))) in positive (union y z) filled

-- the sets of an effect among the treated
pub target_of : (g : MixedGraph) (x y z : ℕ) → AreThreeSets g.vertices (has x) (has y) (has z) → AreBefore g x z → IsTreatedTarget g x y z
target_of g x y z sets before = record {
  x_low = sets.x_within;
  y_low = sets.y_within;
  z_low = sets.w_within;
  x_off_y = sets.x_y;
  z_off_y = λ v e. turned (has y v) (has z v) e (sets.y_w v);
  x_off_z = sets.x_w;
  before = before;
}
