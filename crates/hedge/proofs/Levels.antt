-- The vertices level by level, by their distance to a set, each with its nearest child.
use Rattle.std.proofs.Common.{◌≡◌, ℕ, suc, ◌+◌, ◌-◌, ◌*◌, ◌^◌, ◌<◌, ◌≤◌, ◌⊎◌, ◌↔◌, Bool, true, false, not, ◌&&◌, ◌||◌, List, [], ◌∷◌, length, get_or}
use Rattle.std.proofs.Common.{IsTrue, inl, inr, refl, sym, ap, ◌∙◌, subst, arith}
use Rattle.std.proofs.lemmas.Bool.{cases_Bool, cases_lt, cases_order, and_parts, and_from, or_left, or_right, or_cases}
use Rattle.mixed_graph.specs.Vocabulary.{has, MixedGraph, IsMixedGraph, IsDirectedPath, induced}
use Rattle.mixed_graph.proofs.Masks.{has-zero, zero_from_empty, le_from_subset}
use Rattle.mixed_graph.proofs.Paths.{held_along_path}
use Rattle.hedge.specs.Spanning.{IsLowest}
use Rattle.hedge.specs.Nearest.{IsDistance, IsNearestChild, Leads, IsChoiceOf}
use Rattle.hedge.proofs.Trees.{not_true}

-- after k levels: `seen` holds what is at most k arrows away, `front` what is k arrows away, and all but s have their choices
pub record Level (g : MixedGraph) (within s : ℕ → Bool) (seen front : ℕ) (next : List ℕ) (k : ℕ) : Type 0 where
  pub sized : length next ≡ 64
  pub started : (v : ℕ) → IsTrue (s v) → IsTrue (has seen v)
  pub away : (v : ℕ) → IsTrue (has front v) → IsDistance (induced g within) s v k
  pub complete : (v : ℕ) (path : List ℕ) (u : ℕ) → IsDirectedPath (induced g within) v path u → IsTrue (s u) → length path ≤ k → IsTrue (has seen v)
  pub closed : (u v : ℕ) → IsTrue (has seen v) → has front v ≡ false → IsTrue ((induced g within).arrow u v) → IsTrue (has seen u)
  pub chosen : (v : ℕ) → IsTrue (has seen v) → s v ≡ false → Leads g within s v × IsNearestChild (induced g within) s v (get_or next v 0)
  pub unset : (v : ℕ) → v < 64 → (has seen v ≡ false) ⊎ IsTrue (s v) → get_or next v 0 ≡ 64
  pub small : (v : ℕ) → get_or next v 0 ≤ 64

-- one level more
pub record NextLevel (g : MixedGraph) (within : ℕ → Bool) (seen front goal parents fresh seen' : ℕ) (next next' : List ℕ) : Type 0 where
  pub goal_is : (u : ℕ) → has goal u ≡ (has front u && within u)
  pub parents_are : (u : ℕ) → IsTrue (has parents u) ↔ ((c : ℕ) × IsTrue (has goal c) × IsTrue (g.arrow u c))
  pub fresh_is : (u : ℕ) → has fresh u ≡ ((has parents u && within u) && not (has seen u))
  pub seen_is : (u : ℕ) → has seen' u ≡ (has seen u || has fresh u)
  pub goal_small : (u : ℕ) → IsTrue (has goal u) → u < 64
  pub sized : length next' ≡ 64
  pub chosen : (v : ℕ) → IsTrue (has fresh v) → IsLowest (λ c. g.arrow v c && has goal c) (get_or next' v 0)
  pub others : (v : ℕ) → has fresh v ≡ false → get_or next' v 0 ≡ get_or next v 0

pub level_none : (g : MixedGraph) (within : ℕ → Bool) (start : ℕ) (next : List ℕ) → length next ≡ 64 → ((v : ℕ) → v < 64 → get_or next v 0 ≡ 64)
    → ((v : ℕ) → get_or next v 0 ≤ 64) →
    Level g within (has start) start start next 0
level_none g within start next sized unset small = record {
  sized = sized;
  started = λ v i. i;
  away = λ v i. record { path = []; end = v; leads = refl; inside = i; long = refl; least = λ other u p j. omega arith };
  complete = λ v path u p i l. nil v path u p i l;
  closed = λ u v i n a. absurd (cc);
  chosen = λ v i n. absurd (cc);
  unset = λ v h _. unset v h;
  small = small;
}
  where
    nil : (v : ℕ) (path : List ℕ) (u : ℕ) → IsDirectedPath (induced g within) v path u → IsTrue (has start u) → length path ≤ 0 → IsTrue (has start v)
    nil v [] u p i l = subst (λ w. has start w ≡ true) (sym p) i
    nil v (x ∷ xs) u p i l = absurd (omega arith)

module _ (g : MixedGraph) (valid : IsMixedGraph g) (within s : ℕ → Bool) (seen front goal parents fresh seen' : ℕ) (next next' : List ℕ) (k : ℕ)
    (step : NextLevel g within seen front goal parents fresh seen' next next') (before : Level g within s seen front next k) where
  -- a new vertex: it is inside, it wasn't seen, and it has a child on the front
  record New (v : ℕ) : Type 0 where
    inside : IsTrue (within v)
    unseen : has seen v ≡ false
    child : ℕ
    on_goal : IsTrue (has goal child)
    arrow : IsTrue (g.arrow v child)

  new_of : (v : ℕ) → IsTrue (has fresh v) → New v
  new_of v i =
      let a = and_parts _ _ (sym (step.fresh_is v) ∙ i) in
      let b = and_parts _ _ a.0 in
      let c = (step.parents_are v).0 b.0 in
      record { inside = b.1; unseen = not_true _ a.1; child = c.0; on_goal = c.1; arrow = c.2 }

  front_of : (c : ℕ) → IsTrue (has goal c) → IsTrue (has front c) × IsTrue (within c)
  front_of c i = and_parts _ _ (sym (step.goal_is c) ∙ i)

  inner : (v c : ℕ) → IsTrue (g.arrow v c) → IsTrue (within v) → IsTrue (within c) → IsTrue ((induced g within).arrow v c)
  inner v c a i j = and_from _ _ a (and_from _ _ i j)

  record Inner (v c : ℕ) : Type 0 where
    arrow : IsTrue (g.arrow v c)
    tail : IsTrue (within v)
    head : IsTrue (within c)

  inner_parts : (v c : ℕ) → IsTrue ((induced g within).arrow v c) → Inner v c
  inner_parts v c a = let p = and_parts (g.arrow v c) (within v && within c) a in let q = and_parts _ _ p.1 in record { arrow = p.0; tail = q.0; head = q.1 }

  kept : (v : ℕ) → IsTrue (has seen v) → IsTrue (has seen' v)
  kept v i = step.seen_is v ∙ or_left _ _ i

  gained : (v : ℕ) → IsTrue (has fresh v) → IsTrue (has seen' v)
  gained v i = step.seen_is v ∙ or_right _ _ i

  -- what has a child on the front is seen now
  by_front : (v c : ℕ) → IsTrue ((induced g within).arrow v c) → IsTrue (has front c) → IsTrue (has seen' v)
  by_front v c a f = elim (cases_Bool (has seen v)) [
    | inl i ↦ kept v i
    | inr n ↦
        let p = inner_parts v c a in
        let par = (step.parents_are v).1 (c, step.goal_is c ∙ and_from _ _ f p.head, p.arrow) in
        gained v (step.fresh_is v ∙ and_from _ _ (and_from _ _ par p.tail) (ap not n))
  ]

  by_seen : (v c : ℕ) → IsTrue ((induced g within).arrow v c) → IsTrue (has seen c) → IsTrue (has seen' v)
  by_seen v c a i = elim (cases_Bool (has front c)) [
    | inl f ↦ by_front v c a f
    | inr n ↦ kept v (before.closed v c i n a)
  ]

  further_away : (v : ℕ) → IsTrue (has fresh v) → IsDistance (induced g within) s v (suc k)
  further_away v i =
      let n = new_of v i in
      let f = front_of n.child n.on_goal in
      let d = before.away n.child f.0 in record {
        path = n.child ∷ d.path;
        end = d.end;
        leads = (inner v n.child n.arrow n.inside f.1, d.leads);
        inside = d.inside;
        long = ap suc d.long;
        least = λ other u p j. elim (cases_lt k (length other)) [
          | inl l ↦ omega arith
          | inr ge ↦ absurd (let t = before.complete v other u p j ge in let z = n.unseen in cc)
        ];
      }

  nearest : (v : ℕ) → IsTrue (has fresh v) → IsNearestChild (induced g within) s v (get_or next' v 0)
  nearest v i =
      let n = new_of v i in
      let low = step.chosen v i in
      let m = and_parts _ _ low.member in
      let f = front_of _ m.1 in record {
        arrow = inner v (get_or next' v 0) m.0 n.inside f.1;
        arrows = k;
        distance = before.away (get_or next' v 0) f.0;
        nearest = λ u further a d. elim (cases_lt k further) [
          | inl l ↦ inl l
          | inr ge ↦
              let t = before.complete u d.path d.end d.leads d.inside (let e = d.long in omega arith) in
              elim (cases_Bool (has front u)) [
                | inl fu ↦
                    let e = before.away u fu in
                    let l : k ≤ length d.path = e.least d.path d.end d.leads d.inside in
                    let p = inner_parts v u a in
                    inr ((let q = d.long in omega arith), low.least u (and_from _ _ p.arrow (step.goal_is u ∙ and_from _ _ fu p.head)))
                | inr nf ↦ absurd (let z = before.closed v u t nf a in let o = n.unseen in cc)
              ]
        ];
      }

  leading : (v : ℕ) → IsTrue (has fresh v) → s v ≡ false → Leads g within s v
  leading v i out =
      let n = new_of v i in
      let d = further_away v i in
      record {
        member = n.inside;
        outside = out;
        reaches = record { vertex = valid.tail_below v n.child n.arrow; path = d.path; end = d.end; leads = d.leads; inside = d.inside };
      }

  on_goal : (v : ℕ) → IsTrue (has fresh v) → IsTrue (has goal (get_or next' v 0))
  on_goal v i = (and_parts _ _ (step.chosen v i).member).1

  not_fresh : (v : ℕ) → IsTrue (has seen v) → has fresh v ≡ false
  not_fresh v i = elim (cases_Bool (has fresh v)) [ inl t ↦ absurd (let z = (new_of v t).unseen in cc) | inr n ↦ n ]

  pub level_more : Level g within s seen' fresh next' (suc k)
  level_more = record {
    sized = step.sized;
    started = λ v i. kept v (before.started v i);
    away = further_away;
    complete = λ v path u p i l. along v path u p i l;
    closed = λ u v i n a. elim (or_cases _ _ (sym (step.seen_is v) ∙ i)) [
      | inl o ↦ by_seen u v a o
      | inr f ↦ absurd (cc)
    ];
    chosen = λ v i out. elim (cases_Bool (has fresh v)) [
      | inl f ↦ (leading v f out, nearest v f)
      | inr n ↦ elim (or_cases _ _ (sym (step.seen_is v) ∙ i)) [
        | inl o ↦ let c = before.chosen v o out in (c.0, subst (IsNearestChild (induced g within) s v) (sym (step.others v n)) c.1)
        | inr f ↦ absurd (cc)
      ]
    ];
    unset = λ v l o. elim o [
      | inl n ↦ let f = none_seen v n in step.others v f.1 ∙ before.unset v l (inl f.0)
      | inr t ↦ step.others v (not_fresh v (before.started v t)) ∙ before.unset v l (inr t)
    ];
    small = λ v. elim (cases_Bool (has fresh v)) [
      | inl f ↦ let b : get_or next' v 0 < 64 = step.goal_small (get_or next' v 0) (on_goal v f) in omega arith
      | inr n ↦ let e = step.others v n in let b = before.small v in omega arith
    ];
  }
    where
      along : (v : ℕ) (path : List ℕ) (u : ℕ) → IsDirectedPath (induced g within) v path u → IsTrue (s u) → length path ≤ suc k → IsTrue (has seen' v)
      along v [] u p i l = kept v (before.started v (subst (λ w. s w ≡ true) (sym p) i))
      along v (c ∷ rest) u p i l = by_seen v c p.0 (before.complete c rest u p.1 i (omega arith))

      none_seen : (v : ℕ) → has seen' v ≡ false → (has seen v ≡ false) × (has fresh v ≡ false)
      none_seen v n = let e = step.seen_is v in (neither (has seen v) (has fresh v) (sym e ∙ n))
        where
          neither : (x y : Bool) → (x || y) ≡ false → (x ≡ false) × (y ≡ false)
          neither false false e = (refl, refl)
          neither false true e = absurd (cc)
          neither true y e = absurd (cc)

  -- the number that falls: the room above what is seen, and then the front
  pub level_smaller : 0 < front → seen < 2 ^ 64 → seen' < 2 ^ 64 → front < 2 ^ 64 → fresh < 2 ^ 64 →
      (2 ^ 64 - seen') * 2 ^ 64 + fresh < (2 ^ 64 - seen) * 2 ^ 64 + front
  level_smaller some a b c d = elim (cases_order seen seen') [
    | inl same ↦
        let none : fresh ≡ 0 = zero_from_empty fresh (λ v. elim (cases_Bool (has fresh v)) [
          | inl f ↦ absurd (let t = gained v f in let n = (new_of v f).unseen in let e : has seen v ≡ has seen' v = ap (λ m. has m v) same in cc)
          | inr n ↦ n
        ]) in
        omega (arith, same, none)
    | inr (inl lt) ↦ omega (arith, lt, c, d)
    | inr (inr gt) ↦ absurd (let sub : seen ≤ seen' = le_from_subset seen seen' kept in omega (arith, sub, gt))
  ]

-- where the front is empty, the choices are made
pub choices_from : (g : MixedGraph) (within s : ℕ → Bool) (seen front : ℕ) (next : List ℕ) (k : ℕ) → front ≡ 0 → Level g within s seen front next k →
    (v : ℕ) → v < 64 → IsChoiceOf g within s v (get_or next v 0)
choices_from g within s seen front next k none l v below = elim (cases_Bool (s v)) [
  | inl i ↦ inr (λ h. absurd (let o = h.outside in cc), l.unset v below (inr i))
  | inr out ↦ elim (cases_Bool (has seen v)) [
    | inl i ↦ inl (l.chosen v i out)
    | inr n ↦ inr (
      λ h. absurd (let t = held_along_path (induced g within) (has seen) (λ u w i a. l.closed u w i (rw none (has-zero w)) a)
          v h.reaches.end h.reaches.path h.reaches.leads (l.started h.reaches.end h.reaches.inside) in cc),
      l.unset v below (inl n),
    )
  ]
]
