-- Distances to a set as tests of numbers, and the nearest child, found among all of them.
use Rattle.std.proofs.Common.{ℕ, zero, suc, ◌+◌, ◌*◌, ◌/◌, ◌%◌, ◌≡◌, ◌<◌, ◌≤◌, ◌⊎◌, Bool, true, false, cond, ltb, ◌&&◌, ◌||◌, inl, inr, refl, ap, ◌∙◌}
use Rattle.std.proofs.Common.{List, [], ◌∷◌, length, IsTrue, arith, lt-ltb, le-ltb}
use Rattle.std.proofs.lemmas.Bool.{cases_Bool, cases_lt, and_parts, and_from, or_left, or_right, or_cases}
use Rattle.mixed_graph.specs.Vocabulary.{MixedGraph, IsDirectedPath}
use Rattle.finite_models.proofs.Factors.{any_below, any_below_from, any_below_gives}
use Rattle.hedge.specs.Vocabulary.{IsDistance, IsNearestChild}

clash : (b : Bool) → b ≡ true → b ≡ false → ⊥
clash b e f = absurd (grind (arith, e, f))

-- ---- the least number with a test
-- the least number below n that passes, or n
abbrev pub first : (ℕ → Bool) → ℕ → ℕ
first p zero = zero
first p (suc n) = cond (ltb (first p n) n) (first p n) (cond (p n) n (suc n))

pub record IsFirst (p : ℕ → Bool) (n k : ℕ) : Type 0 where
  pub most : k ≤ n
  pub passes : k < n → p k ≡ true
  pub none : (j : ℕ) → j < k → p j ≡ false

pub first_is : (p : ℕ → Bool) (n : ℕ) → IsFirst p n (first p n)
first_is p zero = record { most = omega arith; passes = λ lt. absurd (omega arith); none = λ j lt. absurd (omega arith) }
first_is p (suc n) = go (cases_lt (first p n) n) (first_is p n)
  where
    last : (b : Bool) → p n ≡ b → IsFirst p n n → IsFirst p (suc n) (cond b n (suc n))
    last true e i = record { most = omega arith; passes = λ lt. e; none = i.none }
    last false e i = record {
      most = omega arith;
      passes = λ lt. absurd (omega arith);
      none = λ j lt. elim (cases_lt j n) [ inl l ↦ i.none j l | inr ge ↦ (let q : j ≡ n = omega arith in ap p q ∙ e) ];
    }

    go : (first p n < n) ⊎ (n ≤ first p n) → IsFirst p n (first p n) → IsFirst p (suc n) (cond (ltb (first p n) n) (first p n) (cond (p n) n (suc n)))
    go (inl lt) i = rw (lt-ltb (first p n) n lt) (record { most = (let m = i.most in omega arith); passes = λ l. i.passes lt; none = i.none })
    go (inr ge) i = rw (le-ltb (first p n) n ge) (last (p n) refl (let q : first p n ≡ n = (let m = i.most in omega arith) in rw q at i))

pub first_found : (p : ℕ → Bool) (n m : ℕ) → m < n → p m ≡ true → (first p n ≤ m) × (p (first p n) ≡ true)
first_found p n m lt e = (le (cases_lt m (first p n)), (first_is p n).passes (let l = le (cases_lt m (first p n)) in omega arith))
  where
    le : (m < first p n) ⊎ (first p n ≤ m) → first p n ≤ m
    le (inl l) = absurd (clash (p m) e ((first_is p n).none m l))
    le (inr ge) = ge

-- ---- paths to a set
module _ (g : MixedGraph) (s : ℕ → Bool) where
  -- a directed path of at most k arrows leads from v to a member of s
  abbrev pub leads_within : ℕ → ℕ → Bool
  leads_within zero v = s v
  leads_within (suc k) v = s v || any_below g.vertices (λ c. g.arrow v c && leads_within k c)

  pub record Route (v most : ℕ) : Type 0 where
    pub path : List ℕ
    pub end : ℕ
    pub leads : IsDirectedPath g v path end
    pub inside : IsTrue (s end)
    pub long : length path ≤ most

  pub route_of : (k v : ℕ) → leads_within k v ≡ true → Route v k
  route_of zero v e = record { path = []; end = v; leads = refl; inside = e; long = omega arith }
  route_of (suc k) v e = elim (or_cases (s v) (any_below g.vertices (λ c. g.arrow v c && leads_within k c)) e) [
    | inl i ↦ record { path = []; end = v; leads = refl; inside = i; long = omega arith }
    | inr a ↦
        let c = any_below_gives g.vertices (λ c. g.arrow v c && leads_within k c) a in
        let p = and_parts (g.arrow v c.0) (leads_within k c.0) c.2 in
        let r = route_of k c.0 p.1 in
        record { path = c.0 ∷ r.path; end = r.end; leads = (p.0, r.leads); inside = r.inside; long = (let l = r.long in omega arith) }
  ]

  module _ (heads : (u v : ℕ) → IsTrue (g.arrow u v) → v < g.vertices) where
    pub by_route : (k v : ℕ) (path : List ℕ) (end : ℕ) → IsDirectedPath g v path end → IsTrue (s end) → length path ≤ k → leads_within k v ≡ true
    by_route zero v [] end e i l = ap s e ∙ i
    by_route zero v (c ∷ rest) end p i l = absurd (omega arith)
    by_route (suc k) v [] end e i l = or_left (s v) (any_below g.vertices (λ c. g.arrow v c && leads_within k c)) (ap s e ∙ i)
    by_route (suc k) v (c ∷ rest) end p i l = or_right (s v) (any_below g.vertices (λ c. g.arrow v c && leads_within k c))
        (any_below_from g.vertices (λ c. g.arrow v c && leads_within k c) c (heads v c p.0)
        (and_from (g.arrow v c) (leads_within k c) p.0 (by_route k c rest end p.1 i (omega arith))))

    pub leads_further : (k m v : ℕ) → k ≤ m → leads_within k v ≡ true → leads_within m v ≡ true
    leads_further k m v le e = let r = route_of k v e in by_route m v r.path r.end r.leads r.inside (let l = r.long in omega arith)

    -- the least such number is the distance
    distance_by : (k v : ℕ) → leads_within k v ≡ true → ((j : ℕ) → j < k → leads_within j v ≡ false) → IsDistance g s v k
    distance_by k v e none = record {
      path = r.path;
      end = r.end;
      leads = r.leads;
      inside = r.inside;
      long = (let l = r.long in let m = shortest r.path r.end r.leads r.inside in omega arith);
      least = shortest;
    }
      where
        r : Route v k
        r = route_of k v e

        shortest : (other : List ℕ) (u : ℕ) → IsDirectedPath g v other u → IsTrue (s u) → k ≤ length other
        shortest other u p i = elim (cases_lt (length other) k) [
          | inl lt ↦ absurd (clash (leads_within (length other) v) (by_route (length other) v other u p i (omega arith)) (none (length other) lt))
          | inr ge ↦ ge
        ]

    pub distance_of : (k v : ℕ) → leads_within k v ≡ true → (d : ℕ) × (d ≤ k) × IsDistance g s v d
    distance_of k v e =
        let f = first_found (λ j. leads_within j v) (suc k) k (omega arith) e in
        (first (λ j. leads_within j v) (suc k), f.0, distance_by (first (λ j. leads_within j v) (suc k)) v f.1 (first_is (λ j. leads_within j v) (suc k)).none)

    -- the nearest child has a shorter path
    pub nearer : (k u v : ℕ) → leads_within (suc k) u ≡ true → s u ≡ false → IsNearestChild g s u v → leads_within k v ≡ true
    nearer k u v e o c = elim (or_cases (s u) (any_below g.vertices (λ w. g.arrow u w && leads_within k w)) e) [
      | inl i ↦ absurd (clash (s u) i o)
      | inr a ↦
          let w = any_below_gives g.vertices (λ w. g.arrow u w && leads_within k w) a in
          let p = and_parts (g.arrow u w.0) (leads_within k w.0) w.2 in
          let d = distance_of k w.0 p.1 in
          let t = c.distance in
          by_route k v t.path t.end t.leads t.inside (let l = t.long in let le = d.1 in
          elim (c.nearest w.0 d.0 p.0 d.2) [ inl lt ↦ omega (arith, lt) | inr q ↦ omega (arith, q.0) ])
    ]

    -- ---- the nearest child: its distance first, and then its number
    module _ (few : g.vertices ≤ 64) where
      -- the child m % 64 leads to the set by at most m / 64 arrows
      abbrev pub ranks : ℕ → ℕ → Bool
      ranks v m = g.arrow v (m % 64) && leads_within (m / 64) (m % 64)

      ranks_at : (v k c : ℕ) → IsTrue (g.arrow v c) → leads_within k c ≡ true → ranks v (64 * k + c) ≡ true
      ranks_at v k c a e =
          let low : c < 64 = (let l = heads v c a in omega arith) in
          let rest : (64 * k + c) % 64 ≡ c = omega arith in
          let whole : (64 * k + c) / 64 ≡ k = omega arith in
          rw (rest, whole) (and_from (g.arrow v c) (leads_within k c) a e)

      nearest_by : (v m : ℕ) → ranks v m ≡ true → ((j : ℕ) → j < m → ranks v j ≡ false) → IsNearestChild g s v (m % 64)
      nearest_by v m e none = record {
        arrow = p.0;
        arrows = m / 64;
        distance = distance_by (m / 64) (m % 64) p.1 (λ j lt. not_shorter j lt (cases_Bool (leads_within j (m % 64))));
        nearest = λ u further a d. compare u further (heads v u a) (cases_lt (64 * further + u) m)
            (ranks_at v further u a (by_route further u d.path d.end d.leads d.inside (let l = d.long in omega arith)));
      }
        where
          p : IsTrue (g.arrow v (m % 64)) × (leads_within (m / 64) (m % 64) ≡ true)
          p = and_parts (g.arrow v (m % 64)) (leads_within (m / 64) (m % 64)) e

          not_shorter : (j : ℕ) → j < m / 64 → (leads_within j (m % 64) ≡ true) ⊎ (leads_within j (m % 64) ≡ false) → leads_within j (m % 64) ≡ false
          not_shorter j lt (inl t) = absurd (clash (ranks v (64 * j + m % 64)) (ranks_at v j (m % 64) p.0 t) (none (64 * j + m % 64) (omega arith)))
          not_shorter j lt (inr f) = f

          compare : (u further : ℕ) → u < g.vertices → (64 * further + u < m) ⊎ (m ≤ 64 * further + u) → ranks v (64 * further + u) ≡ true
              → (m / 64 < further) ⊎ ((m / 64 ≡ further) × (m % 64 ≤ u))
          compare u further low (inl lt) t = absurd (clash (ranks v (64 * further + u)) t (none (64 * further + u) lt))
          compare u further low (inr ge) t = elim (cases_lt (m / 64) further) [ inl l ↦ inl l | inr r ↦ inr (omega arith, omega arith) ]

      -- the nearest child of what leads to the set by at most k arrows
      abbrev pub child_within : ℕ → ℕ → ℕ
      child_within k v = first (ranks v) (64 * k) % 64

      pub child_is : (k v : ℕ) → leads_within k v ≡ true → s v ≡ false → IsNearestChild g s v (child_within k v)
      child_is zero v e o = absurd (clash (s v) e o)
      child_is (suc k) v e o = elim (or_cases (s v) (any_below g.vertices (λ w. g.arrow v w && leads_within k w)) e) [
        | inl i ↦ absurd (clash (s v) i o)
        | inr a ↦
            let w = any_below_gives g.vertices (λ w. g.arrow v w && leads_within k w) a in
            let p = and_parts (g.arrow v w.0) (leads_within k w.0) w.2 in
            let f = first_found (ranks v) (64 * suc k) (64 * k + w.0) (let l = w.1 in omega arith) (ranks_at v k w.0 p.0 p.1) in
            nearest_by v (first (ranks v) (64 * suc k)) f.1 (first_is (ranks v) (64 * suc k)).none
      ]
