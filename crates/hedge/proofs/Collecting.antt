-- The districts of a set, gathered in the order of the graph.
use Rattle.std.proofs.Common.{◌≡◌, ℕ, zero, suc, ◌+◌, ◌^◌, ◌<◌, ◌≤◌, ◌⊎◌, Bool, true, false, ◌||◌, ◌==◌, List, [], ◌∷◌, ◌++◌, length, take, set}
use Rattle.std.proofs.Common.{get_or, length-set, length-append, append_assoc, bit_or, IsTrue, All, inl, inr, refl, sym, ap, ◌∙◌, subst, arith}
use Rattle.std.proofs.lemmas.Bool.{cases_Bool, cases_eq, or_left, or_right, or_cases, eqb-true, eq-eqb}
use Rattle.std.proofs.lemmas.List.{take_more_set, get_or-set_other, get_or_append_left, append-nil}
use Rattle.std.proofs.Math.Seq.{get_or-append_seam}
use Rattle.std.proofs.lemmas.List.Elements.{All-nil, All-cons}
use Rattle.mixed_graph.specs.Vocabulary.{has, MixedGraph, IsMixedGraph, taken_by, IsNext, IsOrder}
use Rattle.mixed_graph.proofs.Masks.{has-zero, has-or, has-pow, same_from_has}
use Rattle.hedge.specs.Linked.{IsLinked, IsDistrict, IsMaximalJoined, AreDistricts, IsInOne, AreApart, IsPartition, AreDistrictsOf}
use Rattle.hedge.specs.Linked.IsLinked.{at, by}
use Rattle.hedge.proofs.Parts.{link_in, district_maximal}

-- the first n entries of an array
abbrev pub entries : List ℕ → ℕ → List ℕ
entries list zero = []
entries list (suc n) = entries list n ++ get_or list n 0 ∷ []

entries-more : (list : List ℕ) (i : ℕ) (o : List ℕ) → entries list (i + 1) ++ o ≡ entries list i ++ get_or list i 0 ∷ o
entries-more list i o = ap (λ k. entries list k ++ o) {x = i + 1} {y = suc i} (omega arith) ∙ append_assoc (entries list i) (get_or list i 0 ∷ []) o

length-entries : (list : List ℕ) (n : ℕ) → length (entries list n) ≡ n
length-entries list zero = refl
length-entries list (suc n) = omega (arith, length-append (entries list n) (get_or list n 0 ∷ []), length-entries list n)

get_or-entries : (list : List ℕ) (n i : ℕ) → i < n → get_or (entries list n) i 0 ≡ get_or list i 0
get_or-entries list zero i h = absurd (omega arith)
get_or-entries list (suc n) i h = elim (cases_eq i n) [
  | inl e ↦ ap (λ k. get_or (entries list n ++ get_or list n 0 ∷ []) k 0) (e ∙ sym (length-entries list n))
      ∙ get_or-append_seam (entries list n) (get_or list n 0) [] 0 ∙ ap (λ k. get_or list k 0) (sym e)
  | inr d ↦ get_or_append_left (entries list n) (get_or list n 0 ∷ []) 0 i (let e = length-entries list n in omega arith)
      ∙ get_or-entries list n i (omega arith)
]

-- after i vertices of the list: what is made so far goes before any districts of the rest
pub record Collected (g : MixedGraph) (d : ℕ) (list : List ℕ) (i : ℕ) (masks : List ℕ) (count seen : ℕ) : Type 0 where
  pub sized : length masks ≡ 64
  pub few : count ≤ i
  pub made : (o ts : List ℕ) → AreDistricts g d seen o ts → AreDistricts g d 0 (entries list i ++ o) (take count masks ++ ts)
  pub blank : (j : ℕ) → count ≤ j → get_or masks j 0 ≡ 0

pub collected_none : (g : MixedGraph) (d : ℕ) (list masks : List ℕ) (seen : ℕ) → length masks ≡ 64 → ((j : ℕ) → get_or masks j 0 ≡ 0)
    → ((u : ℕ) → has seen u ≡ false) → Collected g d list 0 masks 0 seen
collected_none g d list masks seen sized blank none = record {
  sized = sized;
  few = omega arith;
  made = λ o ts a. subst (λ m. AreDistricts g d m o ts) (same_from_has seen 0 (λ u. none u ∙ sym (has-zero u))) a;
  blank = λ j _. blank j;
}

pub collected_skip : (g : MixedGraph) (d : ℕ) (list : List ℕ) (i : ℕ) (masks : List ℕ) (count seen : ℕ) →
    (has d (get_or list i 0) ≡ false) ⊎ IsTrue (has seen (get_or list i 0)) → Collected g d list i masks count seen
    → Collected g d list (i + 1) masks count seen
collected_skip g d list i masks count seen out s = record {
  sized = s.sized;
  few = (let f = s.few in omega arith);
  made = λ o ts a. subst (λ l. AreDistricts g d 0 l (take count masks ++ ts)) (sym (entries-more list i o))
      (s.made (get_or list i 0 ∷ o) ts (AreDistricts.skip out a));
  blank = s.blank;
}

pub collected_take : (g : MixedGraph) (d : ℕ) (list : List ℕ) (i : ℕ) (masks : List ℕ) (count seen t seen' : ℕ) → i < 64 →
    IsTrue (has d (get_or list i 0)) → has seen (get_or list i 0) ≡ false → IsDistrict g d (2 ^ get_or list i 0) t
    → ((u : ℕ) → has seen' u ≡ (has seen u || has t u)) →
    Collected g d list i masks count seen → Collected g d list (i + 1) (set masks count t) (count + 1) seen'
collected_take g d list i masks count seen t seen' small member new district is s = record {
  sized = simp length-set s.sized;
  few = (let f = s.few in omega arith);
  made = λ o ts a. subst (λ l. AreDistricts g d 0 l (take (count + 1) (set masks count t) ++ ts)) (sym (entries-more list i o))
      (subst (λ l. AreDistricts g d 0 (entries list i ++ get_or list i 0 ∷ o) l)
      (sym (ap (λ l. l ++ ts) (take_more_set masks count t room) ∙ append_assoc (take count masks) (t ∷ []) ts))
      (s.made (get_or list i 0 ∷ o) (t ∷ ts) (AreDistricts.take member new district
      (subst (λ m. AreDistricts g d m o ts) (same_from_has seen' (bit_or seen t) (λ u. is u ∙ sym (has-or seen t u))) a))));
  blank = λ j l. get_or-set_other masks count j t 0 (omega arith) ∙ s.blank j (omega arith);
}
  where
    room : count < length masks
    room = let f = s.few in let e = s.sized in omega arith

-- ---- the first entries of an order are an order
taken_by-entries : (list : List ℕ) (n i v : ℕ) → i ≤ n → taken_by (entries list n) i v ≡ taken_by list i v
taken_by-entries list n zero v h = refl
taken_by-entries list n (suc i) v h = let e = taken_by-entries list n i v (omega arith) in let a : get_or (entries list n) i 0 ≡ get_or list i 0 =
    get_or-entries list n i (omega arith) in cc

IsNext-same : (g : MixedGraph) (s t : ℕ → Bool) (v : ℕ) → ((u : ℕ) → t u ≡ s u) → IsNext g s v → IsNext g t v
IsNext-same g s t v e k = record {
  below = k.below;
  free = e v ∙ k.free;
  parents = λ u a. e u ∙ k.parents u a;
  lowest = λ u lt f. let p = k.lowest u lt (sym (e u) ∙ f) in (p.0, p.1, e p.0 ∙ p.2);
}

-- the first entries of an array, if they are the graph's order, are so as a list too
pub order_of_entries : (g : MixedGraph) (list : List ℕ) (count : ℕ) → IsOrder g list count → IsOrder g (entries list count) (length (entries list count))
order_of_entries g list count o = subst (IsOrder g (entries list count)) (sym (length-entries list count)) (record {
  size = o.size;
  next = λ i l. subst (IsNext g (taken_by (entries list count) i)) (sym (get_or-entries list count i l))
      (IsNext-same g (taken_by list i) (taken_by (entries list count) i) (get_or list i 0) (λ u. taken_by-entries list count i u (omega arith)) (o.next i l));
  all = λ v b. taken_by-entries list count count v (omega arith) ∙ o.all v b;
})

pub districts_from : (g : MixedGraph) (d : ℕ) (list masks : List ℕ) (count found seen : ℕ) → IsOrder g list count → Collected g d list count masks found seen →
    AreDistrictsOf g d (take found masks)
districts_from g d list masks count found seen o s = record {
  order = entries list count;
  is_order = order_of_entries g list count o;
  districts = subst (λ l. AreDistricts g d 0 l (take found masks)) (append-nil (entries list count))
      (subst (λ l. AreDistricts g d 0 (entries list count ++ []) l) (append-nil (take found masks)) (s.made [] [] AreDistricts.none));
}

-- ---- they part the set
-- v stands in the list
record Stands (o : List ℕ) (v : ℕ) : Type 0 where
  place : ℕ
  inside : place < length o
  is : get_or o place 0 ≡ v

stands_taken : (o : List ℕ) (i v : ℕ) → i ≤ length o → IsTrue (taken_by o i v) → Stands o v
stands_taken o zero v h t = absurd (cc)
stands_taken o (suc i) v h t = elim (or_cases (taken_by o i v) (v == get_or o i 0) t) [
  | inl b ↦ stands_taken o i v (omega arith) b
  | inr e ↦ record { place = i; inside = omega arith; is = sym (eqb-true v (get_or o i 0) e) }
]

stands_later : (v u : ℕ) (o : List ℕ) → Stands (v ∷ o) u → (u ≡ v → ⊥) → Stands o u
stands_later v u o s other = go s.place s.inside s.is
  where
    go : (p : ℕ) → p < length (v ∷ o) → get_or (v ∷ o) p 0 ≡ u → Stands o u
    go zero l e = absurd (other (sym e))
    go (suc p) l e = record { place = p; inside = omega arith; is = e }

module _ (g : MixedGraph) (valid : IsMixedGraph g) (d : ℕ) where
  -- a set that holds the neighbours inside d of its members
  abbrev Shut : ℕ → Type 0
  Shut seen = (u w : ℕ) → IsTrue (g.both u w) → IsTrue (has seen u) → IsTrue (has d w) → IsTrue (has seen w)

  in_district : (v t u : ℕ) → IsTrue (has d v) → IsDistrict g d (2 ^ v) t → IsTrue (has t u) → IsTrue (has d u)
  in_district v t u i k e = (district_maximal g valid d v t i k).inside u e

  own : (v t : ℕ) → IsDistrict g d (2 ^ v) t → IsTrue (has t v)
  own v t k = k.complete v (at (has-pow v v ∙ eq-eqb v v refl))

  shut_district : (v t : ℕ) → IsTrue (has d v) → IsDistrict g d (2 ^ v) t → Shut t
  shut_district v t i k u w b e j = k.complete w (by j (valid.symmetric u w b) (k.sound u e))

  not_seen : (seen v u : ℕ) → Shut seen → IsTrue (has d v) → has seen v ≡ false → IsLinked g (has d) (has (2 ^ v)) u → IsTrue (has seen u) → ⊥
  not_seen seen v u shut i n (at e) s = let same : u ≡ v = eqb-true u v (sym (has-pow v u) ∙ e) in let t : has seen u ≡ has seen v = ap (has seen) same in cc
  not_seen seen v u shut i n (by {v = w} j b r) s =
      not_seen seen v w shut i n r (shut u w b s (link_in g valid (has d) (has (2 ^ v)) w
      (λ x e. subst (λ y. has d y ≡ true) (sym (eqb-true x v (sym (has-pow v x) ∙ e))) i) r))

  shut_more : (seen t : ℕ) → Shut seen → Shut t → Shut (bit_or seen t)
  shut_more seen t shut shut' u w b e j = has-or seen t w ∙ elim (or_cases (has seen u) (has t u) (sym (has-or seen t u) ∙ e)) [
    | inl s ↦ or_left (has seen w) (has t w) (shut u w b s j)
    | inr s ↦ or_right (has seen w) (has t w) (shut' u w b s j)
  ]

  pub all_maximal : (seen : ℕ) (o ts : List ℕ) → AreDistricts g d seen o ts → All (IsMaximalJoined g d) ts
  all_maximal seen _ _ AreDistricts.none = All-nil (IsMaximalJoined g d)
  all_maximal seen _ _ (AreDistricts.skip {o = o} {ts = ts} q r) = all_maximal seen o ts r
  all_maximal seen _ _ (AreDistricts.take {v = v} {t = t} {o = o} {ts = ts} i n k r) =
      All-cons (IsMaximalJoined g d) t ts (district_maximal g valid d v t i k) (all_maximal (bit_or seen t) o ts r)

  all_inside : (seen : ℕ) (o ts : List ℕ) → AreDistricts g d seen o ts → (u : ℕ) → IsInOne ts u → IsTrue (has d u)
  all_inside seen _ _ AreDistricts.none u h = absurd h
  all_inside seen _ _ (AreDistricts.skip {o = o} {ts = ts} q r) u h = all_inside seen o ts r u h
  all_inside seen _ _ (AreDistricts.take {v = v} {t = t} {o = o} {ts = ts} i n k r) u (inl e) = in_district v t u i k e
  all_inside seen _ _ (AreDistricts.take {v = v} {t = t} {o = o} {ts = ts} i n k r) u (inr h) = all_inside (bit_or seen t) o ts r u h

  none_twice : (seen : ℕ) (o ts : List ℕ) → AreDistricts g d seen o ts → Shut seen → (u : ℕ) → IsTrue (has seen u) → IsInOne ts u → ⊥
  none_twice seen _ _ AreDistricts.none shut u s h = h
  none_twice seen _ _ (AreDistricts.skip {o = o} {ts = ts} q r) shut u s h = none_twice seen o ts r shut u s h
  none_twice seen _ _ (AreDistricts.take {v = v} {t = t} {o = o} {ts = ts} i n k r) shut u s (inl e) = not_seen seen v u shut i n (k.sound u e) s
  none_twice seen _ _ (AreDistricts.take {v = v} {t = t} {o = o} {ts = ts} i n k r) shut u s (inr h) =
      none_twice (bit_or seen t) o ts r (shut_more seen t shut (shut_district v t i k)) u (has-or seen t u ∙ or_left (has seen u) (has t u) s) h

  all_apart : (seen : ℕ) (o ts : List ℕ) → AreDistricts g d seen o ts → Shut seen → AreApart ts
  all_apart seen _ _ AreDistricts.none shut = tt
  all_apart seen _ _ (AreDistricts.skip {o = o} {ts = ts} q r) shut = all_apart seen o ts r shut
  all_apart seen _ _ (AreDistricts.take {v = v} {t = t} {o = o} {ts = ts} i n k r) shut = (
    λ u e h. none_twice (bit_or seen t) o ts r (shut_more seen t shut (shut_district v t i k)) u (has-or seen t u ∙ or_right (has seen u) (has t u) e) h,
    all_apart (bit_or seen t) o ts r (shut_more seen t shut (shut_district v t i k)),
  )

  all_covered : (seen : ℕ) (o ts : List ℕ) → AreDistricts g d seen o ts → (u : ℕ) → IsTrue (has d u) → has seen u ≡ false → Stands o u → IsInOne ts u
  all_covered seen _ _ AreDistricts.none u i n s = absurd (let l = s.inside in omega arith)
  all_covered seen _ _ (AreDistricts.skip {v = v} {o = o} {ts = ts} q r) u i n s = all_covered seen o ts r u i n (stands_later v u o s (λ e. elim q [
    | inl out ↦ absurd (let t : has d u ≡ has d v = ap (has d) e in cc)
    | inr old ↦ absurd (let t : has seen u ≡ has seen v = ap (has seen) e in cc)
  ]))
  all_covered seen _ _ (AreDistricts.take {v = v} {t = t} {o = o} {ts = ts} j m k r) u i n s = elim (cases_Bool (has t u)) [
    | inl e ↦ inl e
    | inr out ↦ inr (all_covered (bit_or seen t) o ts r u i (has-or seen t u ∙ rw (n, out) refl)
        (stands_later v u o s (λ e. absurd (let x : has t u ≡ has t v = ap (has t) e in let y = own v t k in cc))))
  ]

  pub parts_from : (ts : List ℕ) → ((v : ℕ) → IsTrue (has d v) → v < g.vertices) → AreDistrictsOf g d ts → IsPartition d ts
  parts_from ts within a = record {
    inside = all_inside 0 a.order ts a.districts;
    cover = λ v i. all_covered 0 a.order ts a.districts v i (has-zero v)
        (stands_taken a.order (length a.order) v (omega arith) (a.is_order.all v (within v i)));
    apart = all_apart 0 a.order ts a.districts (λ u w b e j. absurd (let z = has-zero u in cc));
  }

  pub maximal_from : (ts : List ℕ) → AreDistrictsOf g d ts → All (IsMaximalJoined g d) ts
  maximal_from ts a = all_maximal 0 a.order ts a.districts
