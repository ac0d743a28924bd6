-- The vertices that carry the roots' bits to y, with their children, as terms.
use Rattle.std.proofs.Common.{ℕ, zero, suc, ◌+◌, ◌≡◌, ◌<◌, ◌≤◌, ◌⊎◌, Bool, true, false, cond, not, ◌==◌, ◌&&◌, ◌||◌, nat_lt, inl, inr, refl, sym, ap}
use Rattle.std.proofs.Common.{subst, ◌∙◌, List, map, length, get_or, IsTrue, arith}
use Rattle.std.specs.List.{range_with_len}
use Rattle.std.proofs.lemmas.Bool.{cases_lt, and_parts, and_from, or_left, or_right, or_cases}
use Rattle.std.proofs.lemmas.List.{get_or_past}
use Rattle.std.proofs.lemmas.List.FromFn.{get_or-map-range_with_len, length-map-range_with_len}
use Rattle.mixed_graph.specs.Vocabulary.{has, MixedGraph, IsMixedGraph, induced}
use Rattle.finite_models.proofs.Factors.{any_below, any_below_from, any_below_gives}
use Rattle.hedge.specs.Vocabulary.{Reaches}
use Rattle.counter_models.specs.Kept.{free, CarriesTo, IsCarrier, AreCarriers}
use Rattle.counter_models.specs.Kept.IsCarrier.{root, next}
use Rattle.counter_models.proofs.Choosing.{same_child, reaches, kept_low}
use Rattle.counter_models.proofs.Distances.{leads_within, by_route, leads_further, nearer, child_within, child_is}
use Rattle.finite_models.specs.Vocabulary.{mask_of}
use Rattle.finite_models.proofs.Packed.{has-mask}

clash : (b : Bool) → b ≡ true → b ≡ false → ⊥
clash b e f = absurd (grind (arith, e, f))

module _ (g : MixedGraph) (graph : IsMixedGraph g) (small : g.vertices ≤ 64) (x y roots : ℕ) (reach : (v : ℕ) → IsTrue (has roots v) → Reaches g x y v) where
  abbrev outside_x : MixedGraph
  outside_x = induced g (free g x)

  heads : (u v : ℕ) → IsTrue (outside_x.arrow u v) → v < g.vertices
  heads u v a = graph.head_below u v (and_parts (g.arrow u v) (free g x u && free g x v) a).0

  abbrev leads : ℕ → ℕ → Bool
  leads = leads_within outside_x (has y)

  -- so many arrows are enough from each root below n
  enough : (n : ℕ) → (k : ℕ) × ((v : ℕ) → v < n → has roots v ≡ true → leads k v ≡ true)
  enough zero = (0, λ v lt i. absurd (omega arith))
  enough (suc n) = go (has roots n) refl (enough n)
    where
      go : (b : Bool) → has roots n ≡ b → (k : ℕ) × ((v : ℕ) → v < n → has roots v ≡ true → leads k v ≡ true) → (k : ℕ)
          × ((v : ℕ) → v < suc n → has roots v ≡ true → leads k v ≡ true)
      go true i e =
          let r = reaches g graph small x y roots reach n (root i) in (
            e.0 + length r.path,
            λ v lt j. elim (cases_lt v n) [
              | inl l ↦ leads_further outside_x (has y) heads e.0 (e.0 + length r.path) v (omega arith) (e.1 v l j)
              | inr ge ↦ let q : n ≡ v = omega arith in subst (λ w. leads (e.0 + length r.path) w ≡ true) q
                  (by_route outside_x (has y) heads (e.0 + length r.path) n r.path r.end r.leads r.inside (omega arith))
            ],
          )
      go false o e = (
        e.0,
        λ v lt j. elim (cases_lt v n) [
          | inl l ↦ e.1 v l j
          | inr ge ↦ absurd (let q : v ≡ n = omega arith in clash (has roots n) (ap (has roots) (sym q) ∙ j) o)
        ],
      )

  abbrev most : ℕ
  most = (enough 64).0

  abbrev child : ℕ → ℕ
  child = child_within outside_x (has y) heads small most

  -- whether k times carrying on from the roots comes to v
  abbrev comes : ℕ → ℕ → Bool
  comes zero v = has roots v
  comes (suc k) v = comes k v || any_below 64 (λ u. (comes k u && not (has y u)) && (child u == v))

  pub kept_mask : ℕ
  kept_mask = mask_of (comes most) 64

  pub carry_list : List ℕ
  carry_list = map (λ v. cond (comes most v && not (has y v)) (child v) 64) (range_with_len 0 64)

  root_leads : (v : ℕ) → has roots v ≡ true → leads most v ≡ true
  root_leads v i = (enough 64).1 v (kept_low g graph small x y roots reach v (root i)) i

  carries : (v : ℕ) → leads most v ≡ true → has y v ≡ false → CarriesTo g x y v (child v)
  carries v e o = child_is outside_x (has y) heads small most v e o

  -- where k times carrying on come to v, by fewer steps or by one more
  comes_more : (k m v : ℕ) → comes k v ≡ true → comes (k + m) v ≡ true
  comes_more k zero v e = let z : k + 0 ≡ k = omega arith in rw z e
  comes_more k (suc m) v e = let z : k + suc m ≡ suc (k + m) = omega arith in
      rw z (or_left (comes (k + m) v) (any_below 64 (λ u. (comes (k + m) u && not (has y u)) && (child u == v))) (comes_more k m v e))

  -- a kept vertex, so many times carried on, with the arrows that it needs
  record Arrived (v : ℕ) : Type 0 where
    steps : ℕ
    left : ℕ
    all : steps + left ≡ most
    here : comes steps v ≡ true
    near : leads left v ≡ true

  carried_on : (u v steps left : ℕ) → steps + left ≡ most → comes steps u ≡ true → leads left u ≡ true → leads most u ≡ true → u < 64 → has y u ≡ false
      → CarriesTo g x y u v → Arrived v
  carried_on u v steps zero all here near by low o c = absurd (clash (has y u) near o)
  carried_on u v steps (suc left) all here near by low o c = record {
    steps = suc steps;
    left = left;
    all = omega arith;
    here = or_right (comes steps v) (any_below 64 (λ w. (comes steps w && not (has y w)) && (child w == v)))
        (any_below_from 64 (λ w. (comes steps w && not (has y w)) && (child w == v)) u low
        (and_from (comes steps u && not (has y u)) (child u == v) (and_from (comes steps u) (not (has y u)) here (ap not o))
        (same (child u) v (same_child g x y u (child u) v (carries u by o) c))));
    near = nearer outside_x (has y) heads left u v near o c;
  }
    where
      same : (a b : ℕ) → a ≡ b → (a == b) ≡ true
      same a b e = grind (arith, e)

  arrived : (v : ℕ) → IsCarrier g x y roots v → Arrived v
  arrived v (root i) = record { steps = 0; left = most; all = omega arith; here = i; near = root_leads v i }
  arrived v (next {u} k o c) = let a = arrived u k in
      carried_on u v a.steps a.left a.all a.here a.near (leads_further outside_x (has y) heads a.left most u (let e = a.all in omega arith) a.near)
      (kept_low g graph small x y roots reach u k) o c

  kept_comes : (v : ℕ) → IsCarrier g x y roots v → comes most v ≡ true
  kept_comes v k = let a = arrived v k in subst (λ n. comes n v ≡ true) a.all (comes_more a.steps a.left v a.here)

  kept_leads : (v : ℕ) → IsCarrier g x y roots v → leads most v ≡ true
  kept_leads v k = let a = arrived v k in leads_further outside_x (has y) heads a.left most v (let e = a.all in omega arith) a.near

  comes_kept : (k v : ℕ) → comes k v ≡ true → IsCarrier g x y roots v
  comes_kept zero v e = root e
  comes_kept (suc k) v e = elim (or_cases (comes k v) (any_below 64 (λ u. (comes k u && not (has y u)) && (child u == v))) e) [
    | inl i ↦ comes_kept k v i
    | inr a ↦
        let u = any_below_gives 64 (λ u. (comes k u && not (has y u)) && (child u == v)) a in
        let p = and_parts (comes k u.0 && not (has y u.0)) (child u.0 == v) u.2 in
        let q = and_parts (comes k u.0) (not (has y u.0)) p.0 in
        let at = comes_kept k u.0 q.0 in
        let o = off (has y u.0) q.1 in
        subst (IsCarrier g x y roots) (same (child u.0) v p.1) (next at o (carries u.0 (kept_leads u.0 at) o))
  ]
    where
      off : (b : Bool) → not b ≡ true → b ≡ false
      off b e = grind (arith, e)

      same : (a b : ℕ) → (a == b) ≡ true → a ≡ b
      same a b e = grind (arith, e)

  carry_at : (v : ℕ) → v < 64 → get_or carry_list v 0 ≡ cond (comes most v && not (has y v)) (child v) 64
  unfolding carry_list
  carry_at v lt = get_or-map-range_with_len (λ v. cond (comes most v && not (has y v)) (child v) 64) 0 64 v v 0 lt (omega arith)

  pub carry_low : (v : ℕ) → get_or carry_list v 0 ≤ 64
  unfolding carry_list
  carry_low v = elim (cases_lt v 64) [
    | inl lt ↦ (let e = carry_at v lt in let c = at_most (comes most v && not (has y v)) in omega arith)
    | inr ge ↦ (let e = past v ge in omega arith)
  ]
    where
      at_most : (b : Bool) → cond b (child v) 64 ≤ 64
      at_most true = omega arith
      at_most false = omega arith

      past : (v : ℕ) → 64 ≤ v → get_or carry_list v 0 ≡ 0
      past v ge = get_or_past (map (λ v. cond (comes most v && not (has y v)) (child v) 64) (range_with_len 0 64)) v 0
          (let l = length-map-range_with_len (λ v. cond (comes most v && not (has y v)) (child v) 64) 0 64 in omega arith)

  kept_has : (v : ℕ) → has kept_mask v ≡ (comes most v && nat_lt v 64)
  unfolding kept_mask
  kept_has v = has-mask (comes most) 64 v

  pub are_carried : AreCarriers g x y roots kept_mask carry_list
  are_carried = record {
    sound = λ v i. comes_kept most v (inside v i);
    complete = λ v k. kept_has v ∙ and_from (comes most v) (nat_lt v 64) (kept_comes v k) (below v 64 (kept_low g graph small x y roots reach v k));
    carries = λ v i o. let c = inside v i in let k = comes_kept most v c in
        subst (CarriesTo g x y v) (sym (carry_at v (kept_low g graph small x y roots reach v k)
        ∙ ap (λ b. cond b (child v) 64) (and_from (comes most v) (not (has y v)) c (ap not o)))) (carries v (kept_leads v k) o);
    others = λ v lt h. carry_at v lt ∙ ap (λ b. cond b (child v) 64) (stays v lt h);
  }
    where
      below : (a b : ℕ) → a < b → nat_lt a b ≡ true
      below a b lt = grind (arith, lt)

      inside : (v : ℕ) → has kept_mask v ≡ true → comes most v ≡ true
      inside v i = (and_parts (comes most v) (nat_lt v 64) (sym (kept_has v) ∙ i)).0

      none : (a b : Bool) → (a ≡ false) ⊎ (b ≡ true) → (a && not b) ≡ false
      none a b (inl e) = rw e refl
      none true b (inr e) = rw e refl
      none false b (inr e) = refl

      out : (a l : Bool) → (a && l) ≡ false → l ≡ true → a ≡ false
      out a l e t = grind (arith, e, t)

      stays : (v : ℕ) → v < 64 → (has kept_mask v ≡ false) ⊎ IsTrue (has y v) → (comes most v && not (has y v)) ≡ false
      stays v lt (inl o) = none (comes most v) (has y v) (inl (out (comes most v) (nat_lt v 64) (sym (kept_has v) ∙ o) (below v 64 lt)))
      stays v lt (inr i) = none (comes most v) (has y v) (inr i)
