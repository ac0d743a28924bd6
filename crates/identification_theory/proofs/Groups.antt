-- The grouping of the chain's factors by districts.
use Rattle.std.proofs.Common.{ℕ, zero, suc, ◌+◌, ◌≡◌, ◌<◌, ◌≤◌, Bool, true, false, cond, eqb, ltb, leb, refl, sym, ap, ap₂, subst, ◌∙◌, ◌||◌, ◌&&◌}
use Rattle.std.proofs.Common.{◌⊎◌, inl, inr, List, [], ◌∷◌, ◌++◌, length, get_or, arith, eqb-true, eq-eqb, lt-ltb, le-leb, ne_eqb}
use Rattle.std.specs.Prelude.{Some}
use Rattle.hedge.specs.Vocabulary.{none, skip, take, at, by, AreDistricts, IsDistrict, IsLinked}
use Rattle.do_derivation.specs.Vocabulary.{all_of, as_one, chained, count_factors, each_below, factor_at, groups_of, is_grouping, appended, none_empty, or_nothing, picked, times_in}
use Rattle.finite_models.specs.Vocabulary.{all_below}
use Rattle.identification_theory.proofs.Bodies.{count-snoc, factor-joined, joined-snoc, snoc}
use Rattle.identification_theory.proofs.Bools.{and_l, and_r, both_true, clash, decide, or_e, or_l, or_r}
use Rattle.identification_theory.proofs.Orders.{IsOrderFrom}
use Rattle.identification_theory.proofs.Sets.{all-is, one-is, one-self}
use Rattle.mixed_graph.proofs.Masks.{has-and, has-or, has-zero, same_from_has}
use Rattle.mixed_graph.specs.Vocabulary.{has, IsMixedGraph, MixedGraph, all, union, minus, one, common}
use Rattle.prob_expr.specs.Tree.{Tree, prob, tree}
use Rattle.prob_expr.specs.Vocabulary.{Trees, no_trees}
use Rattle.identification_theory.specs.Derivations.{in_order, home, places, group_lists}

add-zero_left : (n : ℕ) → 0 + n ≡ n
add-zero_left n = omega arith

-- v is an entry of the list
abbrev pub Among : ℕ → List ℕ → Type 0
Among v [] = ⊥
Among v (w ∷ o) = (v ≡ w) ⊎ Among v o

-- how many of the sets have v
abbrev pub count : List ℕ → ℕ → ℕ
count [] v = 0
count (t ∷ ts) v = cond (has t v) 1 0 + count ts v

pub record IsPart (g : MixedGraph) (d t : ℕ) : Type 0 where
  pub t_in : (u : ℕ) → has t u ≡ true → has d u ≡ true
  pub t_closed : (u w : ℕ) → g.both u w ≡ true → has t u ≡ true → has d w ≡ true → has t w ≡ true
  pub some : ℕ
  pub some_in : has t some ≡ true

-- each set of the list is a part of d
abbrev pub AreParts : MixedGraph → ℕ → List ℕ → Type 0
AreParts g d [] = Unit {0}
AreParts g d (t ∷ ts) = IsPart g d t × AreParts g d ts

-- an entry of a list of parts of d is a part of d
pub part_among : (g : MixedGraph) (d t : ℕ) (ts : List ℕ) → AreParts g d ts → Among t ts → IsPart g d t
part_among g d t (s ∷ ts) h (inl e) = rw e h.0
part_among g d t (s ∷ ts) h (inr m) = part_among g d t ts h.1 m
part_among g d t [] h m = absurd m

count-among : (t v : ℕ) (ts : List ℕ) → Among t ts → has t v ≡ true → 1 ≤ count ts v
count-among t v (s ∷ ts) (inl e) i = rw (rw e at i) (omega arith)
count-among t v (s ∷ ts) (inr m) i = let r : 1 ≤ count ts v = count-among t v ts m i in omega (arith, r)
count-among t v [] m i = absurd m

pub home_is : (t v : ℕ) (ts : List ℕ) → count ts v ≡ 1 → Among t ts → has t v ≡ true → home ts v ≡ t
home_is t v [] c m i = absurd m
home_is t v (s ∷ ts) c m i = go (has s v) refl m (λ c q. home_is t v ts c q i)
  where
    go : (b : Bool) → has s v ≡ b → (t ≡ s) ⊎ Among t ts → (count ts v ≡ 1 → Among t ts → home ts v ≡ t) → cond b s (home ts v) ≡ t
    go true e (inl q) f = sym q
    go true e (inr q) f = absurd (let r : 1 ≤ count ts v = count-among t v ts q i in let z : 1 + count ts v ≡ 1 = rw e at c in omega (arith, r, z))
    go false e (inl q) f = absurd (clash (has s v) (rw q at i) e)
    go false e (inr q) f = f (let z : 0 + count ts v ≡ 1 = rw e at c in omega (arith, z)) q

pub home_among : (v : ℕ) (ts : List ℕ) → count ts v ≡ 1 → Among (home ts v) ts × (has (home ts v) v ≡ true)
home_among v [] c = absurd (omega (arith, c))
home_among v (s ∷ ts) c = go (has s v) refl (λ c. home_among v ts c)
  where
    go : (b : Bool) → has s v ≡ b → (count ts v ≡ 1 → Among (home ts v) ts × (has (home ts v) v ≡ true))
        → ((cond b s (home ts v) ≡ s) ⊎ Among (cond b s (home ts v)) ts) × (has (cond b s (home ts v)) v ≡ true)
    go true e f = (inl refl, e)
    go false e f = let r = f (let z : 0 + count ts v ≡ 1 = rw e at c in omega (arith, z)) in (inr r.0, r.1)

-- ---- the districts are such parts, and each vertex of d is in one
module _ (g : MixedGraph) (is_graph : IsMixedGraph g) (d : ℕ) where
  linked_in : (v u : ℕ) → has d v ≡ true → IsLinked g (has d) (has (one v)) u → has d u ≡ true
  linked_in v u i (at e) = rw (one-is v u e) i
  linked_in v u i (by j b r) = j

  part_of : (v t : ℕ) → has d v ≡ true → IsDistrict g d (one v) t → IsPart g d t
  part_of v t i k = record {
    t_in = λ u e. linked_in v u i (k.sound u e);
    t_closed = λ u w b e j. k.complete w (by j (is_graph.symmetric u w b) (k.sound u e));
    some = v;
    some_in = k.complete v (at (one-self v));
  }

  abbrev Shut : ℕ → Type 0
  Shut seen = (u w : ℕ) → g.both u w ≡ true → has seen u ≡ true → has d w ≡ true → has seen w ≡ true

  not_seen : (seen v u : ℕ) → Shut seen → has d v ≡ true → has seen v ≡ false → IsLinked g (has d) (has (one v)) u → has seen u ≡ true → ⊥
  not_seen seen v u shut i n (at e) s = clash (has seen v) (rw (one-is v u e) at s) n
  not_seen seen v u shut i n (by {v = w} j b r) s = not_seen seen v w shut i n r (shut u w b s (linked_in v w i r))

  shut_more : (seen t : ℕ) → Shut seen → IsPart g d t → Shut (union seen t)
  shut_more seen t shut k u w b e j = has-or seen t w ∙ go (or_e (has seen u) (has t u) (rw (has-or seen t u) at e))
    where
      go : (has seen u ≡ true) ⊎ (has t u ≡ true) → (has seen w || has t w) ≡ true
      go (inl s) = or_l (has seen w) (has t w) (shut u w b s j)
      go (inr s) = or_r (has seen w) (has t w) (k.t_closed u w b s j)

  -- each district of d is a part: inside d, not empty, and closed under the bidirected edges within d
  pub are_parts : (seen : ℕ) (o ts : List ℕ) → AreDistricts g d seen o ts → AreParts g d ts
  are_parts seen _ _ none = tt
  are_parts seen _ _ (skip {o = o} {ts = ts} q r) = are_parts seen o ts r
  are_parts seen _ _ (take {v = v} {t = t} {o = o} {ts = ts} i n k r) = (part_of v t i k, are_parts (union seen t) o ts r)

  none_twice : (seen : ℕ) (o ts : List ℕ) → AreDistricts g d seen o ts → Shut seen → (u : ℕ) → has seen u ≡ true → count ts u ≡ 0
  none_twice seen _ _ none shut u s = refl
  none_twice seen _ _ (skip {o = o} {ts = ts} q r) shut u s = none_twice seen o ts r shut u s
  none_twice seen _ _ (take {v = v} {t = t} {o = o} {ts = ts} i n k r) shut u s =
      go (decide (has t u)) (none_twice (union seen t) o ts r (shut_more seen t shut (part_of v t i k)) u (has-or seen t u ∙ or_l (has seen u) (has t u) s))
    where
      go : (has t u ≡ true) ⊎ (has t u ≡ false) → count ts u ≡ 0 → cond (has t u) 1 0 + count ts u ≡ 0
      go (inl e) rest = absurd (not_seen seen v u shut i n (k.sound u e) s)
      go (inr e) rest = rw (e, rest) refl

  each_once : (seen : ℕ) (o ts : List ℕ) → AreDistricts g d seen o ts → Shut seen → (u : ℕ) → has d u ≡ true → has seen u ≡ false → Among u o → count ts u ≡ 1
  each_once seen _ _ none shut u i s m = absurd m
  each_once seen _ _ (skip {v = v} {o = o} {ts = ts} q r) shut u i s m = each_once seen o ts r shut u i s (go q m)
    where
      go : (has d v ≡ false) ⊎ (has seen v ≡ true) → (u ≡ v) ⊎ Among u o → Among u o
      go q (inr m) = m
      go (inl q) (inl e) = absurd (clash (has d v) (rw e at i) q)
      go (inr q) (inl e) = absurd (clash (has seen v) q (rw e at s))
  each_once seen _ _ (take {v = v} {t = t} {o = o} {ts = ts} j n k r) shut u i s m =
      go (decide (has t u)) (λ n a. each_once (union seen t) o ts r (shut_more seen t shut (part_of v t j k)) u i n a)
    where
      p : IsPart g d t
      p = part_of v t j k

      go : (has t u ≡ true) ⊎ (has t u ≡ false) → (has (union seen t) u ≡ false → Among u o → count ts u ≡ 1) → cond (has t u) 1 0 + count ts u ≡ 1
      go (inl e) f = rw (e, none_twice (union seen t) o ts r (shut_more seen t shut p) u (has-or seen t u ∙ or_r (has seen u) (has t u) e)) refl
      go (inr e) f = rw e (add-zero_left (count ts u) ∙ f (has-or seen t u ∙ rw (s, e) refl) (other m))
        where
          other : (u ≡ v) ⊎ Among u o → Among u o
          other (inr m) = m
          other (inl q) = absurd (clash (has t v) (k.complete v (at (one-self v))) (rw q at e))

  -- a vertex of d that the order has is in exactly one of the districts of d
  pub once : (o ts : List ℕ) → AreDistricts g d 0 o ts → (u : ℕ) → has d u ≡ true → Among u o → count ts u ≡ 1
  once o ts r u i m = each_once 0 o ts r (λ u w b e j. absurd (clash (has 0 u) e (has-zero u))) u i (has-zero u) m

-- an order of the vertices outside p has each vertex that isn't in p
pub in_list : (g : MixedGraph) (p u : ℕ) (o : List ℕ) → IsOrderFrom g p o → u < g.vertices → has p u ≡ false → Among u o
in_list g p u [] order l n = absurd (clash (has p u) (rw order (all-is g.vertices u l)) n)
in_list g p u (v ∷ o) order l n = go (decide (eqb u v)) (λ q. in_list g (union p (one v)) u o order.3 l q)
  where
    go : (eqb u v ≡ true) ⊎ (eqb u v ≡ false) → (has (union p (one v)) u ≡ false → Among u o) → (u ≡ v) ⊎ Among u o
    go (inl e) f = inl (eqb-true u v e)
    go (inr e) f = inr (f (has-or p (one v) u ∙ rw n (out (decide (has (one v) u)))))
      where
        out : (has (one v) u ≡ true) ⊎ (has (one v) u ≡ false) → (false || has (one v) u) ≡ false
        out (inl q) = absurd (clash (eqb u v) (eq-eqb u v (one-is v u q)) e)
        out (inr q) = q

-- ---- the lists of positions
-- the factors of the chain, each at home in its district; q has the members before
abbrev pub homed : ℕ → List ℕ → ℕ → List ℕ → Trees
homed n ts q [] = no_trees
homed n ts q (v ∷ l) = tree (prob (one v) (minus (all n) (home ts v)) (common (home ts v) q)) (homed n ts (union q (one v)) l)

abbrev pub by_district : ℕ → List ℕ → List ℕ → Trees
by_district n [] l = no_trees
by_district n (t ∷ ts) l = tree (as_one (chained (minus (all n) t) 0 (in_order t l))) (by_district n ts l)

times_in-append : (i : ℕ) (a b : List ℕ) → times_in i (a ++ b) ≡ times_in i a + times_in i b
times_in-append i [] b = omega arith
times_in-append i (x ∷ a) b = let h : times_in i (a ++ b) ≡ times_in i a + times_in i b = times_in-append i a b in omega (arith, h)

each_below-append : (m : ℕ) (a b : List ℕ) → each_below m a ≡ true → each_below m b ≡ true → each_below m (a ++ b) ≡ true
each_below-append m [] b h k = k
each_below-append m (x ∷ a) b h k = both_true (ltb x m) (each_below m (a ++ b)) (and_l (ltb x m) (each_below m a) h)
    (each_below-append m a b (and_r (ltb x m) (each_below m a) h) k)

places-before : (i t k : ℕ) (l : List ℕ) → i < k → times_in i (places t k l) ≡ 0
places-before i t k [] h = refl
places-before i t k (v ∷ l) h = go (has t v) (places-before i t (suc k) l (omega (arith, h)))
  where
    go : (b : Bool) → times_in i (places t (suc k) l) ≡ 0 → times_in i (cond b (k ∷ places t (suc k) l) (places t (suc k) l)) ≡ 0
    go true rest = let e : eqb i k ≡ false = ne_eqb i k (λ s. absurd (omega (arith, h, s))) in rw (e, rest) refl
    go false rest = rest

places-times : (j t k : ℕ) (l : List ℕ) → j < length l → times_in (j + k) (places t k l) ≡ cond (has t (get_or l j 0)) 1 0
places-times j t k [] h = absurd (omega (arith, h))
places-times zero t k (v ∷ l) h = go (has t v)
  where
    rest : times_in (0 + k) (places t (suc k) l) ≡ 0
    rest = places-before (0 + k) t (suc k) l (omega arith)

    go : (b : Bool) → times_in (0 + k) (cond b (k ∷ places t (suc k) l) (places t (suc k) l)) ≡ cond b 1 0
    go true = let e : eqb (0 + k) k ≡ true = eq-eqb (0 + k) k (omega arith) in rw (e, rest) refl
    go false = rest
places-times (suc j) t k (v ∷ l) h = go (has t v) (let e : suc j + k ≡ j + suc k = omega arith in rw e (places-times j t (suc k) l (omega (arith, h))))
  where
    go : (b : Bool) → times_in (suc j + k) (places t (suc k) l) ≡ cond (has t (get_or l j 0)) 1 0
        → times_in (suc j + k) (cond b (k ∷ places t (suc k) l) (places t (suc k) l)) ≡ cond (has t (get_or l j 0)) 1 0
    go true rest = let e : eqb (suc j + k) k ≡ false = ne_eqb (suc j + k) k (λ s. absurd (omega (arith, s))) in
        rw (e, rest) (add-zero_left (cond (has t (get_or l j 0)) 1 0))
    go false rest = rest

groups-times : (j : ℕ) (ts l : List ℕ) → j < length l → times_in j (all_of (group_lists ts l)) ≡ count ts (get_or l j 0)
groups-times j [] l h = refl
groups-times j (t ∷ ts) l h = times_in-append j (places t 0 l) (all_of (group_lists ts l))
    ∙ ap₂ (λ x y. x + y) (subst (λ i. times_in i (places t 0 l) ≡ cond (has t (get_or l j 0)) 1 0) (omega arith) (places-times j t 0 l h))
    (groups-times j ts l h)

places-below : (m t k : ℕ) (l : List ℕ) → k + length l ≤ m → each_below m (places t k l) ≡ true
places-below m t k [] h = refl
places-below m t k (v ∷ l) h = go (has t v) (places-below m t (suc k) l (omega (arith, h)))
  where
    go : (b : Bool) → each_below m (places t (suc k) l) ≡ true → each_below m (cond b (k ∷ places t (suc k) l) (places t (suc k) l)) ≡ true
    go true r = both_true (ltb k m) (each_below m (places t (suc k) l)) (lt-ltb k m (omega (arith, h))) r
    go false r = r

groups-below : (ts l : List ℕ) → each_below (length l) (all_of (group_lists ts l)) ≡ true
groups-below [] l = refl
groups-below (t ∷ ts) l = each_below-append (length l) (places t 0 l) (all_of (group_lists ts l)) (places-below (length l) t 0 l (omega arith))
    (groups-below ts l)

-- a list with an entry in t has a position of it
places-some : (t u k : ℕ) (l : List ℕ) (ls : List (List ℕ)) → Among u l → has t u ≡ true → none_empty ls ≡ true → none_empty (places t k l ∷ ls) ≡ true
places-some t u k [] ls m i n = absurd m
places-some t u k (v ∷ l) ls m i n = go (has t v) refl m (λ q. places-some t u (suc k) l ls q i n)
  where
    go : (b : Bool) → has t v ≡ b → (u ≡ v) ⊎ Among u l → (Among u l → none_empty (places t (suc k) l ∷ ls) ≡ true)
        → none_empty (cond b (k ∷ places t (suc k) l) (places t (suc k) l) ∷ ls) ≡ true
    go true e q f = n
    go false e (inl q) f = absurd (clash (has t v) (rw q at i) e)
    go false e (inr q) f = f q

pub among_in_order : (d u : ℕ) (o : List ℕ) → has d u ≡ true → Among u o → Among u (in_order d o)
among_in_order d u [] i m = m
among_in_order d u (v ∷ o) i m = go (has d v) refl m (λ q. among_in_order d u o i q)
  where
    go : (b : Bool) → has d v ≡ b → (u ≡ v) ⊎ Among u o → (Among u o → Among u (in_order d o)) → Among u (cond b (v ∷ in_order d o) (in_order d o))
    go true e (inl q) f = inl q
    go true e (inr q) f = inr (f q)
    go false e (inl q) f = absurd (clash (has d v) (rw q at i) e)
    go false e (inr q) f = f q

groups-some : (g : MixedGraph) (d : ℕ) (ts l : List ℕ) → AreParts g d ts → ((u : ℕ) → has d u ≡ true → Among u l) → none_empty (group_lists ts l) ≡ true
groups-some g d [] l p h = refl
groups-some g d (t ∷ ts) l p h = places-some t p.0.some 0 l (group_lists ts l) (h p.0.some (p.0.t_in p.0.some p.0.some_in)) p.0.some_in
    (groups-some g d ts l p.1 h)

length-groups : (ts l : List ℕ) → length (group_lists ts l) ≡ length ts
length-groups [] l = refl
length-groups (t ∷ ts) l = ap suc (length-groups ts l)

all_true : (m : ℕ) (p : ℕ → Bool) → ((i : ℕ) → i < m → p i ≡ true) → all_below m p ≡ true
all_true zero p h = refl
all_true (suc m) p h = both_true (all_below m p) (p m) (all_true m p (λ i l. h i (omega (arith, l)))) (h m (omega arith))

pub is_grouped : (g : MixedGraph) (d : ℕ) (ts l : List ℕ) → AreParts g d ts → ((u : ℕ) → has d u ≡ true → Among u l)
    → ((i : ℕ) → i < length l → count ts (get_or l i 0) ≡ 1) → 2 ≤ length ts → is_grouping (length l) (group_lists ts l) ≡ true
is_grouped g d ts l p h c two = both_true (leb 2 (length (group_lists ts l)))
    (none_empty (group_lists ts l) && (each_below (length l) (all_of (group_lists ts l))
    && all_below (length l) (λ i. eqb (times_in i (all_of (group_lists ts l))) 1)))
    (le-leb 2 (length (group_lists ts l)) (rw (length-groups ts l) two))
    (both_true (none_empty (group_lists ts l)) (each_below (length l) (all_of (group_lists ts l))
    && all_below (length l) (λ i. eqb (times_in i (all_of (group_lists ts l))) 1)) (groups-some g d ts l p h)
    (both_true (each_below (length l) (all_of (group_lists ts l))) (all_below (length l) (λ i. eqb (times_in i (all_of (group_lists ts l))) 1))
    (groups-below ts l)
    (all_true (length l) (λ i. eqb (times_in i (all_of (group_lists ts l))) 1)
    (λ i q. eq-eqb (times_in i (all_of (group_lists ts l))) 1 (groups-times i ts l q ∙ c i q)))))

-- ---- what the groups are
-- no vertex is in common with the empty set
pub common-none : (d : ℕ) → 0 ≡ common d 0
common-none d = same_from_has 0 (common d 0) (λ u. has-zero u ∙ sym (has-and d 0 u ∙ rw (has-zero u) (bools (has d u))))
  where
    bools : (x : Bool) → (x && false) ≡ false
    bools x = grind arith

pub common-in : (t q v : ℕ) → has t v ≡ true → union (common t q) (one v) ≡ common t (union q (one v))
common-in t q v i = same_from_has (union (common t q) (one v)) (common t (union q (one v)))
    (λ u. (has-or (common t q) (one v) u ∙ ap (λ b. b || has (one v) u) (has-and t q u)) ∙
    (go u (decide (has (one v) u)) ∙ sym (has-and t (union q (one v)) u ∙ ap (λ b. has t u && b) (has-or q (one v) u))))
  where
    go : (u : ℕ) → (has (one v) u ≡ true) ⊎ (has (one v) u ≡ false) → ((has t u && has q u) || has (one v) u) ≡ (has t u && (has q u || has (one v) u))
    go u (inl e) = let z : has t u ≡ true = rw (one-is v u e) i in bools (has t u) (has q u) (has (one v) u) z
      where
        bools : (x y w : Bool) → x ≡ true → ((x && y) || w) ≡ (x && (y || w))
        bools x y w h = grind (arith, h)
    go u (inr e) = bools (has t u) (has q u) (has (one v) u) e
      where
        bools : (x y w : Bool) → w ≡ false → ((x && y) || w) ≡ (x && (y || w))
        bools x y w h = grind (arith, h)

pub common-out : (t q v : ℕ) → has t v ≡ false → common t (union q (one v)) ≡ common t q
common-out t q v i = same_from_has (common t (union q (one v))) (common t q)
    (λ u. (has-and t (union q (one v)) u ∙ ap (λ b. has t u && b) (has-or q (one v) u)) ∙ (go u (decide (has (one v) u)) ∙ sym (has-and t q u)))
  where
    go : (u : ℕ) → (has (one v) u ≡ true) ⊎ (has (one v) u ≡ false) → (has t u && (has q u || has (one v) u)) ≡ (has t u && has q u)
    go u (inl e) = let z : has t u ≡ false = rw (one-is v u e) i in rw z refl
    go u (inr e) = bools (has t u) (has q u) (has (one v) u) e
      where
        bools : (x y w : Bool) → w ≡ false → (x && (y || w)) ≡ (x && y)
        bools x y w h = grind (arith, h)

abbrev pub EachOnce : List ℕ → List ℕ → Type 0
EachOnce ts [] = Unit {0}
EachOnce ts (v ∷ l) = (count ts v ≡ 1) × EachOnce ts l

picked-from : (n t : ℕ) (ts l : List ℕ) (pre : Trees) (q : ℕ) → Among t ts → EachOnce ts l
    → picked (appended pre (homed n ts q l)) (places t (count_factors pre) l) ≡ chained (minus (all n) t) (common t q) (in_order t l)
picked-from n t ts [] pre q m c = refl
picked-from n t ts (v ∷ l) pre q m c = go (has t v) refl
    (subst (λ f. picked f (places t (suc (count_factors pre)) l) ≡ chained (minus (all n) t) (common t (union q (one v))) (in_order t l))
    (joined-snoc pre x (homed n ts (union q (one v)) l))
    (subst (λ i. picked (appended (snoc pre x) (homed n ts (union q (one v)) l)) (places t i l)
    ≡ chained (minus (all n) t) (common t (union q (one v))) (in_order t l)) (count-snoc pre x)
    (picked-from n t ts l (snoc pre x) (union q (one v)) m c.1)))
  where
    x : Tree
    x = prob (one v) (minus (all n) (home ts v)) (common (home ts v) q)

    go : (b : Bool) → has t v ≡ b → picked (appended pre (homed n ts q (v ∷ l))) (places t (suc (count_factors pre)) l)
        ≡ chained (minus (all n) t) (common t (union q (one v))) (in_order t l)
        → picked (appended pre (homed n ts q (v ∷ l))) (cond b (count_factors pre ∷ places t (suc (count_factors pre)) l)
        (places t (suc (count_factors pre)) l)) ≡ chained (minus (all n) t) (common t q) (cond b (v ∷ in_order t l) (in_order t l))
    go true e r = ap₂ tree (ap or_nothing (factor-joined pre x (homed n ts (union q (one v)) l))
        ∙ ap (λ z. prob (one v) (minus (all n) z) (common z q)) (home_is t v ts c.0 m e))
        (r ∙ ap (λ w. chained (minus (all n) t) w (in_order t l)) (sym (common-in t q v e)))
    go false e r = r ∙ ap (λ w. chained (minus (all n) t) w (in_order t l)) (common-out t q v e)

common-zero : (t : ℕ) → common t 0 ≡ 0
common-zero t = same_from_has (common t 0) 0 (λ u. has-and t 0 u ∙ (rw (has-zero u) (go (has t u))))
  where
    go : (b : Bool) → (b && false) ≡ false
    go b = grind arith

groups-of : (n : ℕ) (ts l sub : List ℕ) → EachOnce ts l → ((t : ℕ) → Among t sub → Among t ts) → groups_of (homed n ts 0 l) (group_lists sub l)
    ≡ by_district n sub l
groups-of n ts l [] c h = refl
groups-of n ts l (t ∷ sub) c h = ap₂ tree (ap as_one (picked-from n t ts l no_trees 0 (h t (inl refl)) c
    ∙ ap (λ w. chained (minus (all n) t) w (in_order t l)) (common-zero t)))
    (groups-of n ts l sub c (λ s m. h s (inr m)))

pub groups_are : (n : ℕ) (ts l : List ℕ) → EachOnce ts l → groups_of (homed n ts 0 l) (group_lists ts l) ≡ by_district n ts l
groups_are n ts l c = groups-of n ts l ts c (λ t m. m)

pub count-homed : (n : ℕ) (ts : List ℕ) (q : ℕ) (l : List ℕ) → count_factors (homed n ts q l) ≡ length l
count-homed n ts q [] = refl
count-homed n ts q (v ∷ l) = ap suc (count-homed n ts (union q (one v)) l)

pub once_at : (ts l : List ℕ) (i : ℕ) → EachOnce ts l → i < length l → count ts (get_or l i 0) ≡ 1
once_at ts [] i c h = absurd (omega (arith, h))
once_at ts (v ∷ l) zero c h = c.0
once_at ts (v ∷ l) (suc i) c h = once_at ts l i c.1 (omega (arith, h))

-- each entry of the list is one of d, and counted once
pub each_listed : (d : ℕ) (ts o : List ℕ) → ((u : ℕ) → has d u ≡ true → Among u o → count ts u ≡ 1) → EachOnce ts (in_order d o)
each_listed d ts [] h = tt
each_listed d ts (v ∷ o) h = go (has d v) refl (each_listed d ts o (λ u i m. h u i (inr m)))
  where
    go : (b : Bool) → has d v ≡ b → EachOnce ts (in_order d o) → EachOnce ts (cond b (v ∷ in_order d o) (in_order d o))
    go true e r = (h v e (inl refl), r)
    go false e r = r

-- the members of a part of d, taken from those of d
pub in_order-in : (d t : ℕ) (o : List ℕ) → ((u : ℕ) → has t u ≡ true → has d u ≡ true) → in_order t (in_order d o) ≡ in_order t o
in_order-in d t [] h = refl
in_order-in d t (v ∷ o) h = go (has d v) refl (in_order-in d t o h)
  where
    go : (b : Bool) → has d v ≡ b → in_order t (in_order d o) ≡ in_order t o → in_order t (cond b (v ∷ in_order d o) (in_order d o))
        ≡ cond (has t v) (v ∷ in_order t o) (in_order t o)
    go true e r = ap (λ z. cond (has t v) (v ∷ z) z) r
    go false e r = r ∙ go2 (has t v) refl
      where
        go2 : (b : Bool) → has t v ≡ b → in_order t o ≡ cond b (v ∷ in_order t o) (in_order t o)
        go2 true i = absurd (clash (has d v) (h v i) e)
        go2 false i = refl
