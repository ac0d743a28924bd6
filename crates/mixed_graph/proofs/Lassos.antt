use Rattle.std.proofs.Common.{◌≡◌, ◌≢◌, ℕ, ◌+◌, ◌-◌, ◌<◌, Bool, true, false, ◌||◌, ◌==◌, List, length, get_or, set, inl, inr, refl, sym, ap, ◌∙◌}
use Rattle.std.proofs.Common.{IsTrue, arith, subst, length-set}
use Rattle.std.proofs.lemmas.Bool.{cases_eq, eq-eqb, ne_eqb}
use Rattle.std.proofs.lemmas.List.{get_or-set_same, get_or-set_other}
use Rattle.mixed_graph.specs.Bits.{has, members_below}
use Rattle.mixed_graph.specs.Arrows.{IsLasso}
use Rattle.mixed_graph.proofs.Members.{length-members-lt, length-members-more, length-members-none, length-members-le}

-- a walk by arrows so far: the vertices in order, the place of each, and the next vertex v
pub record Walked (arrow : ℕ → ℕ → Bool) (list place : List ℕ) (count seen v : ℕ) : Type 0 where
  pub sized : length list ≡ 64
  pub placed : length place ≡ 64
  pub counted : count ≡ length (members_below (has seen) 64)
  pub place_below : (u : ℕ) → IsTrue (has seen u) → get_or place u 0 < count
  pub at_place : (u : ℕ) → IsTrue (has seen u) → get_or list (get_or place u 0) 0 ≡ u
  pub next : (i : ℕ) → i + 1 < count → IsTrue (arrow (get_or list i 0) (get_or list (i + 1) 0))
  pub last : 0 < count → IsTrue (arrow (get_or list (count - 1) 0) v)
  pub listed : (i : ℕ) → i < count → IsTrue (has seen (get_or list i 0))
  pub once : (i j : ℕ) → i < j → j < count → get_or list i 0 ≡ get_or list j 0 → ⊥

pub walked_room : (arrow : ℕ → ℕ → Bool) (list place : List ℕ) (count seen v : ℕ) → v < 64 → has seen v ≡ false → Walked arrow list place count seen v
    → count < 64
walked_room arrow list place count seen v below new s = omega (arith, s.counted, length-members-lt (has seen) 64 v below new)

pub walked_more : (arrow : ℕ → ℕ → Bool) (list place : List ℕ) (count seen v seen' v' : ℕ) → v < 64 → has seen v ≡ false →
    ((u : ℕ) → has seen' u ≡ (has seen u || (u == v))) → IsTrue (arrow v v') →
    Walked arrow list place count seen v → Walked arrow (set list count v) (set place v count) (count + 1) seen' v'
walked_more arrow list place count seen v seen' v' below new is edge s = record {
  sized = simp length-set s.sized;
  placed = simp length-set s.placed;
  counted = omega (arith, s.counted, length-members-more (has seen) (has seen') v 64 below new is);
  place_below = λ u h. elim (cases_eq u v) [
    | inl e ↦ rw e (rw (get_or-set_same place v count 0 in_place) (omega arith))
    | inr d ↦ rw (get_or-set_other place v u count 0 d) (omega (arith, s.place_below u (was u d h)))
  ];
  at_place = λ u h. elim (cases_eq u v) [
    | inl e ↦ rw e (rw (get_or-set_same place v count 0 in_place) (get_or-set_same list count v 0 in_list))
    | inr d ↦ rw (get_or-set_other place v u count 0 d)
        (get_or-set_other list count (get_or place u 0) v 0 (omega (arith, s.place_below u (was u d h))) ∙ s.at_place u (was u d h))
  ];
  next = λ i h. elim (cases_eq (i + 1) count) [
    | inl e ↦
        let here : get_or (set list count v) (i + 1) 0 ≡ v = ap (λ j. get_or (set list count v) j 0) e ∙ get_or-set_same list count v 0 in_list in
        let before : get_or (set list count v) i 0 ≡ get_or list (count - 1) 0 =
        get_or-set_other list count i v 0 (omega arith) ∙ ap (λ j. get_or list j 0) (omega arith) in
        rw (before, here) (s.last (omega arith))
    | inr d ↦ rw (get_or-set_other list count i v 0 (omega arith), get_or-set_other list count (i + 1) v 0 d) (s.next i (omega arith))
  ];
  last = λ _.
      let here : get_or (set list count v) (count + 1 - 1) 0 ≡ v = ap (λ j. get_or (set list count v) j 0) (omega arith)
      ∙ get_or-set_same list count v 0 in_list in
      rw here edge;
  listed = λ i h. elim (cases_eq i count) [
    | inl e ↦ subst (λ u. has seen' u ≡ true) (sym (ap (λ j. get_or (set list count v) j 0) e ∙ here_is))
        (is v ∙ or_right (has seen v) (v == v) (eq-eqb v v refl))
    | inr d ↦ subst (λ u. has seen' u ≡ true) (sym (get_or-set_other list count i v 0 d))
        (is (get_or list i 0) ∙ or_left (has seen (get_or list i 0)) (get_or list i 0 == v) (s.listed i (omega arith)))
  ];
  once = λ i j lt below' same. elim (cases_eq j count) [
    | inl e ↦
        let old : get_or (set list count v) i 0 ≡ get_or list i 0 = get_or-set_other list count i v 0 (omega (arith, e, lt)) in
        let now : get_or (set list count v) j 0 ≡ v = ap (λ k. get_or (set list count v) k 0) e ∙ here_is in
        let v_seen : has seen v ≡ true = subst (λ u. has seen u ≡ true) (sym old ∙ same ∙ now) (s.listed i (omega (arith, e, lt))) in cc
    | inr d ↦ s.once i j lt (omega arith) (sym (get_or-set_other list count i v 0 (omega arith)) ∙ same ∙ get_or-set_other list count j v 0 d)
  ];
}
  where
    or_left : (x y : Bool) → x ≡ true → (x || y) ≡ true
    or_left x y e = rw e refl

    or_right : (x y : Bool) → y ≡ true → (x || y) ≡ true
    or_right true y e = refl
    or_right false y e = e

    room : count < 64
    room = walked_room arrow list place count seen v below new s

    in_list : count < length list
    in_list = omega (arith, s.sized, room)

    here_is : get_or (set list count v) count 0 ≡ v
    here_is = get_or-set_same list count v 0 in_list

    in_place : v < length place
    in_place = omega (arith, s.placed)

    was : (u : ℕ) → u ≢ v → IsTrue (has seen' u) → IsTrue (has seen u)
    was u d h = let p = is u in let n : (u == v) ≡ false = ne_eqb u v d in grind arith

pub walked_none : (arrow : ℕ → ℕ → Bool) (list place : List ℕ) (seen v : ℕ) → length list ≡ 64 → length place ≡ 64 → ((u : ℕ) → has seen u ≡ false) →
    Walked arrow list place 0 seen v
walked_none arrow list place seen v sized placed none = record {
  sized = sized;
  placed = placed;
  counted = sym (length-members-none (has seen) 64 none);
  place_below = λ u h. absurd (let e = none u in cc);
  at_place = λ u h. absurd (let e = none u in cc);
  next = λ i h. absurd (omega arith);
  last = λ h. absurd (omega arith);
  listed = λ i h. absurd (omega arith);
  once = λ i j lt h. absurd (omega arith);
}

pub lasso_from : (arrow : ℕ → ℕ → Bool) (list place : List ℕ) (count seen v : ℕ) → IsTrue (has seen v) → Walked arrow list place count seen v →
    IsLasso arrow list count (get_or place v 0)
lasso_from arrow list place count seen v in' s =
    let inside : get_or place v 0 < count = s.place_below v in' in record {
      in_range = omega (arith, s.counted, length-members-le (has seen) 64);
      inside = inside;
      next = s.next;
      closes = rw (s.at_place v in') (s.last (omega arith));
      once = s.once;
    }
