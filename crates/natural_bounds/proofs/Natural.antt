-- The natural bounds hold in every model that fits the graph.
use Rattle.std.proofs.Common.{ℕ, ◌+◌, ◌-◌, ◌*◌, ◌≡◌, ◌<◌, ◌≤◌, Bool, true, false, cond, not, refl, sym, ap, ◌∙◌, ◌||◌, arith}
use Rattle.std.proofs.lemmas.Bool.{false_from_ne_true, or_left, or_right, or_from}
use Rattle.mixed_graph.specs.Vocabulary.{MixedGraph, IsMixedGraph}
use Rattle.finite_models.specs.Vocabulary.{FiniteModel, Fits, IsAssignment, solution, agree, world_weight, intervene, weight_of}
use Rattle.finite_models.proofs.Bools.{and_first, either, not_both}
use Rattle.finite_models.proofs.Following.{Follows, follows_of}
use Rattle.finite_models.proofs.Positive.{over-mono}
use Rattle.finite_models.proofs.Ranks.{with_rank}
use Rattle.finite_models.proofs.Solutions.{IsRanked, agree_gives, agree_from}
use Rattle.finite_models.proofs.SumLaws.{over-add}
use Rattle.do_rules.proofs.TwoRules.{rule_1, further}
use Rattle.natural_bounds.specs.Instruments.{IsInstrument}
use Rattle.natural_bounds.specs.Natural.{nothing, NaturalLower, NaturalUpper}
use Rattle.natural_bounds.proofs.Before.{Before, with_before}
use Rattle.natural_bounds.proofs.Orders.{times-le}
use Rattle.natural_bounds.proofs.Worlds.{consistent, alike}

cond-le : (p q : Bool) (n : ℕ) → (p ≡ true → q ≡ true) → cond p n 0 ≤ cond q n 0
cond-le true q n h = rw (h refl) (omega arith)
cond-le false q n h = omega arith

-- p and q together count no more than r and t
cond-two : (p q r t : Bool) (n : ℕ) → (p ≡ true → t ≡ true) → (q ≡ true → t ≡ true) → (p ≡ true → q ≡ true → r ≡ true) → cond p n 0 + cond q n 0
    ≤ cond r n 0 + cond t n 0
cond-two true true r t n a b c = rw (a refl, c refl refl) (omega arith)
cond-two true false r t n a b c = rw (a refl) (omega arith)
cond-two false true r t n a b c = rw (b refl) (omega arith)
cond-two false false r t n a b c = omega arith

-- j <= y and y * w = x * e give j * w <= x * e
below : (j y w x e : ℕ) → j ≤ y → y * w ≡ x * e → j * w ≤ x * e
below j y w x e le h = let k = times-le j y w le in rw (sym h) k

-- y + q <= j + e and y * w = x * e give x * e + q * w <= j * w + e * w
together : (y q j e w x : ℕ) → y + q ≤ j + e → y * w ≡ x * e → x * e + q * w ≤ j * w + e * w
together y q j e w x le h =
    let k = times-le (y + q) (j + e) w le in
    let a : (y + q) * w ≡ y * w + q * w = omega arith in
    let b : (j + e) * w ≡ j * w + e * w = omega arith in
    omega (arith, k, a, b, h)

flip : (s t : ℕ → Bool) → ((v : ℕ) → s v ≡ true → t v ≡ false) → (v : ℕ) → t v ≡ true → s v ≡ false
flip s t h v e = false_from_ne_true (s v) (λ k. not_both (t v) e (h v k))

module _ (g : MixedGraph) (ok : IsMixedGraph g) (x y z w : ℕ → Bool) (e : IsInstrument g x y z w) (b : Before g x z w)
    (m : FiniteModel) (follows : Follows g m) (s : ℕ → ℕ)
    (within : IsAssignment m.vertices m.size s) (rank : ℕ → ℕ) (ranked : IsRanked g rank) where
  -- ---- one world
  -- a world with the values of s on a, which has x, is as under do(x)
  same : (a : ℕ → Bool) (u : ℕ → ℕ) → ((v : ℕ) → x v ≡ true → a v ≡ true) → agree m.vertices a (solution (intervene m nothing s) u) s ≡ true
      → (v : ℕ) → v < m.vertices → solution (intervene m nothing s) u v ≡ solution (intervene m x s) u v
  same a u has_x h = consistent g m rank ranked follows s within x u
      (λ v il i. agree_gives m.vertices a (solution (intervene m nothing s) u) s h v il (has_x v i))

  in_zw : (v : ℕ) → (z v || w v) ≡ true → b.before v ≡ true
  in_zw v i = either (z v) (w v) (b.before v ≡ true) i (b.has_z v) (b.has_w v)

  -- what is seen, with x, is so under do(x)
  shown : (u : ℕ → ℕ) → agree m.vertices (λ v. x v || (y v || (z v || w v))) (solution (intervene m nothing s) u) s ≡ true
      → agree m.vertices (λ v. y v || (z v || w v)) (solution (intervene m x s) u) s ≡ true
  shown u h = agree_from m.vertices (λ v. y v || (z v || w v)) (solution (intervene m x s) u) s
      (λ v il i. sym (same (λ v. x v || (y v || (z v || w v))) u (λ q k. or_left (x q) (y q || (z q || w q)) k) h v il)
      ∙ agree_gives m.vertices (λ v. x v || (y v || (z v || w v))) (solution (intervene m nothing s) u) s h v il (or_right (x v) (y v || (z v || w v)) i))

  -- z and w have under do(x) the values that they have
  kept : (u : ℕ → ℕ) → agree m.vertices (λ v. y v || (z v || w v)) (solution (intervene m x s) u) s ≡ true
      → agree m.vertices (λ v. z v || w v) (solution (intervene m nothing s) u) s ≡ true
  kept u h = agree_from m.vertices (λ v. z v || w v) (solution (intervene m nothing s) u) s
      (λ v il i. sym (alike g m rank ranked follows s within x b.before b.closed b.no_x u v il (in_zw v i))
      ∙ agree_gives m.vertices (λ v. y v || (z v || w v)) (solution (intervene m x s) u) s h v il (or_right (y v) (z v || w v) i))

  fewer : (u : ℕ → ℕ) → agree m.vertices (λ v. x v || (z v || w v)) (solution (intervene m nothing s) u) s ≡ true
      → agree m.vertices (λ v. z v || w v) (solution (intervene m nothing s) u) s ≡ true
  fewer u h = agree_from m.vertices (λ v. z v || w v) (solution (intervene m nothing s) u) s
      (λ v il i. agree_gives m.vertices (λ v. x v || (z v || w v)) (solution (intervene m nothing s) u) s h v il (or_right (x v) (z v || w v) i))

  -- what is so under do(x) is seen where x is
  joined : (u : ℕ → ℕ) → agree m.vertices (λ v. y v || (z v || w v)) (solution (intervene m x s) u) s ≡ true
      → agree m.vertices (λ v. x v || (z v || w v)) (solution (intervene m nothing s) u) s ≡ true
      → agree m.vertices (λ v. x v || (y v || (z v || w v))) (solution (intervene m nothing s) u) s ≡ true
  joined u h k = agree_from m.vertices (λ v. x v || (y v || (z v || w v))) (solution (intervene m nothing s) u) s
      (λ v il i. either (x v) (y v || (z v || w v)) (solution (intervene m nothing s) u v ≡ s v) i
      (λ a. agree_gives m.vertices (λ v. x v || (z v || w v)) (solution (intervene m nothing s) u) s k v il (or_left (x v) (z v || w v) a))
      (λ b. same (λ v. x v || (z v || w v)) u (λ q c. or_left (x q) (z q || w q) c) k v il
      ∙ agree_gives m.vertices (λ v. y v || (z v || w v)) (solution (intervene m x s) u) s h v il b))

  -- ---- all worlds
  lower_worlds : weight_of m nothing (λ v. x v || (y v || (z v || w v))) s ≤ weight_of m x (λ v. y v || (z v || w v)) s
  lower_worlds =
      over-mono (λ j. true) m.values m.causes
      (λ u. cond (agree m.vertices (λ v. x v || (y v || (z v || w v))) (solution (intervene m nothing s) u) s) (world_weight m u) 0)
      (λ u. cond (agree m.vertices (λ v. y v || (z v || w v)) (solution (intervene m x s) u) s) (world_weight m u) 0) (λ j. 0)
      (λ u. cond-le (agree m.vertices (λ v. x v || (y v || (z v || w v))) (solution (intervene m nothing s) u) s)
      (agree m.vertices (λ v. y v || (z v || w v)) (solution (intervene m x s) u) s) (world_weight m u) (shown u))

  upper_worlds : weight_of m x (λ v. y v || (z v || w v)) s + weight_of m nothing (λ v. x v || (z v || w v)) s
      ≤ weight_of m nothing (λ v. x v || (y v || (z v || w v))) s + weight_of m nothing (λ v. z v || w v) s
  upper_worlds =
      let le = over-mono (λ j. true) m.values m.causes
      (λ u. cond (agree m.vertices (λ v. y v || (z v || w v)) (solution (intervene m x s) u) s) (world_weight m u) 0
      + cond (agree m.vertices (λ v. x v || (z v || w v)) (solution (intervene m nothing s) u) s) (world_weight m u) 0)
      (λ u. cond (agree m.vertices (λ v. x v || (y v || (z v || w v))) (solution (intervene m nothing s) u) s) (world_weight m u) 0
      + cond (agree m.vertices (λ v. z v || w v) (solution (intervene m nothing s) u) s) (world_weight m u) 0) (λ j. 0)
      (λ u. cond-two (agree m.vertices (λ v. y v || (z v || w v)) (solution (intervene m x s) u) s)
      (agree m.vertices (λ v. x v || (z v || w v)) (solution (intervene m nothing s) u) s)
      (agree m.vertices (λ v. x v || (y v || (z v || w v))) (solution (intervene m nothing s) u) s)
      (agree m.vertices (λ v. z v || w v) (solution (intervene m nothing s) u) s) (world_weight m u) (kept u) (fewer u) (joined u)) in
      let a = over-add (λ j. true) m.values m.causes
      (λ u. cond (agree m.vertices (λ v. y v || (z v || w v)) (solution (intervene m x s) u) s) (world_weight m u) 0)
      (λ u. cond (agree m.vertices (λ v. x v || (z v || w v)) (solution (intervene m nothing s) u) s) (world_weight m u) 0) (λ j. 0) in
      let b = over-add (λ j. true) m.values m.causes
      (λ u. cond (agree m.vertices (λ v. x v || (y v || (z v || w v))) (solution (intervene m nothing s) u) s) (world_weight m u) 0)
      (λ u. cond (agree m.vertices (λ v. z v || w v) (solution (intervene m nothing s) u) s) (world_weight m u) 0) (λ j. 0) in
      rw (sym a, sym b) le

  -- ---- the instrument
  unmoved : (a : ℕ → Bool) → ((v : ℕ) → a v ≡ true → b.before v ≡ true) → weight_of m x a s ≡ weight_of m nothing a s
  unmoved a inside = further g m rank ok ranked follows s within nothing x b.before a
      (λ p q i c. b.closed p q (and_first (g.arrow p q) (not (nothing q)) i) c) b.no_x inside

  parted : weight_of m x (λ v. y v || (z v || w v)) s * weight_of m x w s ≡ weight_of m x (λ v. y v || w v) s * weight_of m x (λ v. z v || w v) s
  parted = rule_1 g m rank ok ranked follows s within x y z w e.sets.x_within e.sets.y_within e.sets.z_within e.sets.w_within
      (λ v i. or_from (x v) (w v) (flip x y e.sets.x_y v i) (e.sets.y_w v i))
      (λ v i. or_from (x v) (w v) (flip x z e.sets.x_z v i) (e.sets.z_w v i)) e.separated

  seen : weight_of m x (λ v. y v || (z v || w v)) s * weight_of m nothing w s ≡ weight_of m x (λ v. y v || w v) s * weight_of m nothing (λ v. z v || w v) s
  seen = ap (λ n. weight_of m x (λ v. y v || (z v || w v)) s * n) (sym (unmoved w b.has_w)) ∙ parted
      ∙ ap (λ n. weight_of m x (λ v. y v || w v) s * n) (unmoved (λ v. z v || w v) in_zw)

  lower_here : weight_of m nothing (λ v. x v || (y v || (z v || w v))) s * weight_of m nothing w s
      ≤ weight_of m x (λ v. y v || w v) s * weight_of m nothing (λ v. z v || w v) s
  lower_here = below (weight_of m nothing (λ v. x v || (y v || (z v || w v))) s) (weight_of m x (λ v. y v || (z v || w v)) s) (weight_of m nothing w s)
      (weight_of m x (λ v. y v || w v) s) (weight_of m nothing (λ v. z v || w v) s) lower_worlds seen

  upper_here : weight_of m x (λ v. y v || w v) s * weight_of m nothing (λ v. z v || w v) s
      + weight_of m nothing (λ v. x v || (z v || w v)) s * weight_of m nothing w s
      ≤ weight_of m nothing (λ v. x v || (y v || (z v || w v))) s * weight_of m nothing w s
      + weight_of m nothing (λ v. z v || w v) s * weight_of m nothing w s
  upper_here = together (weight_of m x (λ v. y v || (z v || w v)) s) (weight_of m nothing (λ v. x v || (z v || w v)) s)
      (weight_of m nothing (λ v. x v || (y v || (z v || w v))) s) (weight_of m nothing (λ v. z v || w v) s) (weight_of m nothing w s)
      (weight_of m x (λ v. y v || w v) s) upper_worlds seen

-- an inequality of numbers may be proved as if the graph had a rank, and what x moves a test
ranked_le : (g : MixedGraph) → IsMixedGraph g → (x y z w : ℕ → Bool) → IsInstrument g x y z w → (a b : ℕ)
    → ((rank : ℕ → ℕ) → IsRanked g rank → Before g x z w → a ≤ b) → a ≤ b
ranked_le g ok x y z w e a b h =
    let same : a - b ≡ 0 = with_before g ok x y z w e (a - b) 0
    (λ before. with_rank g ok (a - b) 0 (λ rank ranked. let le = h rank ranked before in omega arith)) in
    omega arith

pub natural_lower : NaturalLower
natural_lower g ok x y z w e m fit s within =
    ranked_le g ok x y z w e (weight_of m nothing (λ v. x v || (y v || (z v || w v))) s * weight_of m nothing w s)
    (weight_of m x (λ v. y v || w v) s * weight_of m nothing (λ v. z v || w v) s)
    (λ rank ranked before. lower_here g ok x y z w e before m (follows_of g m fit) s within rank ranked)

pub natural_upper : NaturalUpper
natural_upper g ok x y z w e m fit s within =
    ranked_le g ok x y z w e (weight_of m x (λ v. y v || w v) s * weight_of m nothing (λ v. z v || w v) s
    + weight_of m nothing (λ v. x v || (z v || w v)) s * weight_of m nothing w s)
    (weight_of m nothing (λ v. x v || (y v || (z v || w v))) s * weight_of m nothing w s
    + weight_of m nothing (λ v. z v || w v) s * weight_of m nothing w s)
    (λ rank ranked before. upper_here g ok x y z w e before m (follows_of g m fit) s within rank ranked)

-- an event on z and w has under do(x) the weight that it has
pub unmoved_weight : (g : MixedGraph) → IsMixedGraph g → (x y z w : ℕ → Bool) → IsInstrument g x y z w → (m : FiniteModel) → Fits g m → (s : ℕ → ℕ)
    → IsAssignment m.vertices m.size s → (a : ℕ → Bool) → ((v : ℕ) → a v ≡ true → (z v || w v) ≡ true)
    → weight_of m x a s ≡ weight_of m nothing a s
unmoved_weight g ok x y z w e m fit s within a inside =
    with_before g ok x y z w e (weight_of m x a s) (weight_of m nothing a s)
    (λ before. with_rank g ok (weight_of m x a s) (weight_of m nothing a s)
    (λ rank ranked. unmoved g ok x y z w e before m (follows_of g m fit) s within rank ranked a
    (λ v i. in_zw g ok x y z w e before m (follows_of g m fit) s within rank ranked v (inside v i))))

-- an event with fewer vertices has no less weight
pub wider : (m : FiniteModel) (x a b : ℕ → Bool) (s : ℕ → ℕ) → ((v : ℕ) → b v ≡ true → a v ≡ true) → weight_of m x a s ≤ weight_of m x b s
wider m x a b s inside =
    over-mono (λ j. true) m.values m.causes (λ u. cond (agree m.vertices a (solution (intervene m x s) u) s) (world_weight m u) 0)
    (λ u. cond (agree m.vertices b (solution (intervene m x s) u) s) (world_weight m u) 0) (λ j. 0)
    (λ u. cond-le (agree m.vertices a (solution (intervene m x s) u) s) (agree m.vertices b (solution (intervene m x s) u) s) (world_weight m u)
    (λ h. agree_from m.vertices b (solution (intervene m x s) u) s
    (λ v il i. agree_gives m.vertices a (solution (intervene m x s) u) s h v il (inside v i))))
