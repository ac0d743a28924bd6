-- The ways that lead from x to y, and the sets of a question.
use Rattle.std.proofs.Common.{◌≡◌, ◌<◌, ◌^◌, ◌↔◌, ℕ, Bool, true, false, not, ◌&&◌, ap, ◌∙◌, arith}
use Rattle.mixed_graph.specs.Vocabulary.{has, MixedGraph}
use Rattle.mixed_graph.proofs.Masks.{has-zero, some_member}
use Rattle.hedge.specs.Vocabulary.{IsSetOf}
use Rattle.do_rules.specs.Vocabulary.{AreFourSets}
use Rattle.natural_id.specs.Vocabulary.{IsNaturalTarget}
use Rattle.natural_command.specs.declared.asking.Question.{Question}
use Rattle.natural_command.specs.Right.{AreBefore}
use Rattle.natural_command.proofs.Naming.{turned}

-- children of x in a set
module _ (g : MixedGraph) (x children set both : ℕ) (P : ℕ → Type 0) (is : IsSetOf set P)
    (are_children : (v : ℕ) → (has children v ≡ true) ↔ ((p : ℕ) × (has x p ≡ true) × (g.arrow p v ≡ true)))
    (members : (v : ℕ) → has both v ≡ (has children v && has set v)) where
  -- there are some
  pub some_way : (both ≡ 0 → ⊥) → both < 2 ^ 64 → ((p c : ℕ) → g.arrow p c ≡ true → has x p ≡ true → P c → ⊥) → ⊥
  some_way some low none =
      let v = some_member both some low in
      let pair = members v.0 in
      let c = (are_children v.0).0 (first (has children v.0) (has set v.0) (has both v.0) pair v.1) in
      none c.0 v.0 c.2 c.1 (is.sound v.0 (second (has children v.0) (has set v.0) (has both v.0) pair v.1))
    where
      first : (a b c : Bool) → c ≡ (a && b) → c ≡ true → a ≡ true
      first a b c h i = grind (arith, h, i)

      second : (a b c : Bool) → c ≡ (a && b) → c ≡ true → b ≡ true
      second a b c h i = grind (arith, h, i)

  -- there are none
  pub no_way : both ≡ 0 → (p c : ℕ) → g.arrow p c ≡ true → has x p ≡ true → P c → ⊥
  no_way zero p c a i h = bools (has children c) (has set c) (has both c) (members c) ((are_children c).1 (p, i, a)) (is.complete c h)
      (ap (λ n. has n c) zero ∙ has-zero c)
    where
      bools : (a b c : Bool) → c ≡ (a && b) → a ≡ true → b ≡ true → c ≡ false → ⊥
      bools a b c h i j k = absurd (grind (arith, h, i, j, k))

-- what a test for none says of the set
pub some_flag : (e : Bool) (set : ℕ) → ((e ≡ true) ↔ (set ≡ 0)) → not e ≡ true → set ≡ 0 → ⊥
some_flag e set is flag zero = bools e (is.1 zero) flag
  where
    bools : (e : Bool) → e ≡ true → not e ≡ true → ⊥
    bools e h k = absurd (grind (arith, h, k))

pub no_flag : (e : Bool) (set : ℕ) → ((e ≡ true) ↔ (set ≡ 0)) → not e ≡ false → set ≡ 0
no_flag e set is flag = is.0 (bools e flag)
  where
    bools : (e : Bool) → not e ≡ false → e ≡ true
    bools e h = grind (arith, h)

-- the sets of a nested effect
pub target_of : (g : MixedGraph) (q : Question) → AreFourSets g.vertices (has q.x.bits) (has q.y.bits) (has q.through.bits) (has q.given.bits) → AreBefore g q
    → IsNaturalTarget g q.x.bits q.through.bits q.y.bits q.given.bits
target_of g q sets before = record {
  x_low = sets.x_within;
  y_low = sets.y_within;
  z_low = sets.w_within;
  asked = record {
    m_x = turned (has q.x.bits) (has q.through.bits) sets.x_z;
    y_x = turned (has q.x.bits) (has q.y.bits) sets.x_y;
    z_x = turned (has q.x.bits) (has q.given.bits) sets.x_w;
    y_m = sets.y_z;
    y_z = sets.y_w;
    before = before;
  };
}
