-- Edges and pairs whose ends are below n, and the pairs of a relation.
use Rattle.std.proofs.Common.{◌≡◌, ◌<◌, ◌+◌, ◌-◌, ℕ, zero, suc, Bool, true, false, List, [], ◌∷◌, ◌++◌, map, length, get_or, Option, Some, None, inl}
use Rattle.std.proofs.Common.{inr, refl, sym, ap, subst, ◌∙◌, arith}
use Rattle.std.specs.Prelude.{cond, ◌==◌, ◌||◌, ◌&&◌, nat_lt, find, option_map, All}
use Rattle.std.specs.List.{list_any, list_all, flat_map, filter_map, cons_option}
use Rattle.std.proofs.lemmas.Bool.{and_parts, and_from, ltb-true, lt-ltb, le-ltb, eq-eqb, ne_eqb, eqb-true, cases_eq, cases_lt, cases_Bool, or_cases}
use Rattle.std.proofs.lemmas.Bool.{or_parts, both_ways}
use Rattle.std.proofs.lemmas.List.Folds.{list_any-append, list_all-append}
use Rattle.std.proofs.lemmas.Grind.{flat_map-append}
use Rattle.mixed_graph.specs.Vocabulary.{members_below, has_pair, loop_in, first_loop, IsCycle, MixedGraph, IsGraphOf}
use Rattle.dag_reader.specs.declared.marks.Arrow.{Arrow}
use Rattle.dag_reader.specs.declared.marks.Arrow.TheVariants.{Right, Left, Both}
use Rattle.dag_reader.specs.declared.marks.Role.{Role}
use Rattle.dag_reader.specs.declared.marks.Remark.{Remark}
use Rattle.dag_reader.specs.declared.marks.Remark.TheVariants.{Begins, Joined, Member, HasRole}
use Rattle.dag_reader.specs.MarkEnds.{is_inside}
use Rattle.dag_reader.specs.Rows.{count_up, pairs_below}
use Rattle.dag_reader.specs.Passes.{Edge, pairs, members, edges_behind, is_self_loop, self_loop, arrow_of, both_of, arrows_of, doubles_of}
use Rattle.dag_reader.specs.Passes.{roles_behind, has_role, same_role}
use Rattle.dag_reader.proofs.RowPairs.{members-zero, members-suc}

-- ---- edges and their ends

abbrev below : ℕ → ℕ → Bool
below n v = nat_lt v n

abbrev edge_inside : ℕ → Edge → Bool
edge_inside n e = nat_lt e.left n && nat_lt e.right n

members_inside : (n : ℕ) (marks : List Remark) → list_all (is_inside n) marks ≡ true → list_all (below n) (members marks) ≡ true
members_inside n [] h = refl
members_inside n (Begins ∷ ms) h = refl
members_inside n (Joined a ∷ ms) h = refl
members_inside n (Member v ∷ ms) h =
    let parts = and_parts (nat_lt v n) (list_all (is_inside n) ms) h in
    and_from (nat_lt v n) (list_all (below n) (members ms)) parts.0 (members_inside n ms parts.1)
members_inside n (HasRole r ∷ ms) h = members_inside n ms h

row_inside : (n l : ℕ) (a : Arrow) (rs : List ℕ) → nat_lt l n ≡ true → list_all (below n) rs ≡ true
    → list_all (edge_inside n) (map (λ r. record { left = l; arrow = a; right = r }) rs) ≡ true
row_inside n l a [] h k = refl
row_inside n l a (r ∷ rs) h k =
    let parts = and_parts (nat_lt r n) (list_all (below n) rs) k in
    and_from (nat_lt l n && nat_lt r n) _ (and_from (nat_lt l n) (nat_lt r n) h parts.0) (row_inside n l a rs h parts.1)

pairs_inside : (n : ℕ) (a : Arrow) (ls rs : List ℕ) → list_all (below n) ls ≡ true → list_all (below n) rs ≡ true → list_all (edge_inside n) (pairs ls a rs)
    ≡ true
pairs_inside n a [] rs h k = refl
pairs_inside n a (l ∷ ls) rs h k =
    let parts = and_parts (nat_lt l n) (list_all (below n) ls) h in
    list_all-append (edge_inside n) (map (λ r. record { left = l; arrow = a; right = r }) rs) (pairs ls a rs)
    ∙ and_from _ (list_all (edge_inside n) (pairs ls a rs)) (row_inside n l a rs parts.0 k) (pairs_inside n a ls rs parts.1 k)

edges_inside : (n : ℕ) (marks : List Remark) (left : List ℕ) → list_all (below n) left ≡ true → list_all (is_inside n) marks ≡ true
    → list_all (edge_inside n) (edges_behind left marks) ≡ true
edges_inside n [] left h k = refl
edges_inside n (Begins ∷ ms) left h k = edges_inside n ms [] refl k
edges_inside n (Joined a ∷ ms) left h k =
    list_all-append (edge_inside n) (pairs left a (members ms)) (edges_behind [] ms)
    ∙ and_from _ (list_all (edge_inside n) (edges_behind [] ms)) (pairs_inside n a left (members ms) h (members_inside n ms k)) (edges_inside n ms [] refl k)
edges_inside n (Member v ∷ ms) left h k =
    let parts = and_parts (nat_lt v n) (list_all (is_inside n) ms) k in
    edges_inside n ms (left ++ v ∷ []) (list_all-append (below n) left (v ∷ [])
    ∙ and_from (list_all (below n) left) (nat_lt v n && true) h (and_from (nat_lt v n) true parts.0 refl)) parts.1
edges_inside n (HasRole r ∷ ms) left h k = edges_inside n ms left h k

chosen_holds : {A : Type 0} (q : A → Bool) (c : Bool) (x e : A) (o : Option A) → q x ≡ true → (o ≡ Some e → q e ≡ true) → cond c (Some x) o ≡ Some e → q e
    ≡ true
chosen_holds q true x e o h k is = let s : x ≡ e = cc is in subst (λ y. q y ≡ true) s h
chosen_holds q false x e o h k is = k is

find_holds : {A : Type 0} (p q : A → Bool) (xs : List A) (e : A) → list_all q xs ≡ true → find p xs ≡ Some e → q e ≡ true
find_holds p q [] e h is = cc is
find_holds p q (x ∷ xs) e h is =
    let parts = and_parts (q x) (list_all q xs) h in chosen_holds q (p x) x e (find p xs) parts.0 (λ k. find_holds p q xs e parts.1 k) is

-- the vertex of a self-loop is one of the names'
pub loop_inside : (n : ℕ) (marks : List Remark) (e : Edge) → list_all (is_inside n) marks ≡ true → self_loop marks ≡ Some e → e.left < n
loop_inside n marks e h is =
    ltb-true e.left n (and_parts (nat_lt e.left n) (nat_lt e.right n) (find_holds is_self_loop (edge_inside n) (edges_behind [] marks) e
    (edges_inside n marks [] refl h) is)).0

-- ---- pairs and their ends

abbrev pair_inside : ℕ → (ℕ × ℕ) → Bool
pair_inside n p = nat_lt p.0 n && nat_lt p.1 n

abbrev if_pair : ℕ → Option (ℕ × ℕ) → Bool
if_pair n None = true
if_pair n (Some p) = pair_inside n p

kept_inside : (n : ℕ) (o : Option (ℕ × ℕ)) (rest : List (ℕ × ℕ)) → if_pair n o ≡ true → list_all (pair_inside n) rest ≡ true
    → list_all (pair_inside n) (cons_option o rest) ≡ true
kept_inside n None rest h k = k
kept_inside n (Some p) rest h k = and_from (pair_inside n p) (list_all (pair_inside n) rest) h k

turned_inside : (n : ℕ) (a : Arrow) (l r : ℕ) → (nat_lt l n && nat_lt r n) ≡ true → if_pair n (arrow_of (record { left = l; arrow = a; right = r })) ≡ true
turned_inside n Right l r h = h
turned_inside n Left l r h = let parts = and_parts (nat_lt l n) (nat_lt r n) h in and_from (nat_lt r n) (nat_lt l n) parts.1 parts.0
turned_inside n Both l r h = refl

both_inside : (n : ℕ) (a : Arrow) (l r : ℕ) → (nat_lt l n && nat_lt r n) ≡ true → if_pair n (both_of (record { left = l; arrow = a; right = r })) ≡ true
both_inside n Right l r h = refl
both_inside n Left l r h = refl
both_inside n Both l r h = h

all_inside : (f : Edge → Option (ℕ × ℕ)) (n : ℕ) → ((e : Edge) → edge_inside n e ≡ true → if_pair n (f e) ≡ true) → (es : List Edge)
    → list_all (edge_inside n) es ≡ true
    → list_all (pair_inside n) (filter_map f es) ≡ true
all_inside f n keeps [] h = refl
all_inside f n keeps (e ∷ es) h =
    let parts = and_parts (edge_inside n e) (list_all (edge_inside n) es) h in
    kept_inside n (f e) (filter_map f es) (keeps e parts.0) (all_inside f n keeps es parts.1)

arrows_inside : (n : ℕ) (marks : List Remark) → list_all (is_inside n) marks ≡ true → list_all (pair_inside n) (arrows_of marks) ≡ true
arrows_inside n marks h = all_inside arrow_of n (λ e k. turned_inside n e.arrow e.left e.right k) (edges_behind [] marks) (edges_inside n marks [] refl h)

doubles_inside : (n : ℕ) (marks : List Remark) → list_all (is_inside n) marks ≡ true → list_all (pair_inside n) (doubles_of marks) ≡ true
doubles_inside n marks h = all_inside both_of n (λ e k. both_inside n e.arrow e.left e.right k) (edges_behind [] marks) (edges_inside n marks [] refl h)

joins_inside : (n : ℕ) (ps : List (ℕ × ℕ)) (a b : ℕ) → list_all (pair_inside n) ps ≡ true → has_pair ps a b ≡ true → (a < n) × (b < n)
joins_inside n [] a b h k = cc k
joins_inside n (p ∷ ps) a b h k =
    let parts = and_parts (pair_inside n p) (list_all (pair_inside n) ps) h in
    elim (or_cases ((a == p.0) && (b == p.1)) (has_pair ps a b) k) [
      | inl here ↦
          let e = and_parts (a == p.0) (b == p.1) here in
          let ends = and_parts (nat_lt p.0 n) (nat_lt p.1 n) parts.0 in
          let low = ltb-true p.0 n ends.0 in let high = ltb-true p.1 n ends.1 in
          let ea : a ≡ p.0 = eqb-true a p.0 e.0 in let eb : b ≡ p.1 = eqb-true b p.1 e.1 in
          (omega arith, omega arith)
      | inr later ↦ joins_inside n ps a b parts.1 later
    ]

-- ---- edges without a self-loop

abbrev hits : ℕ → Option (ℕ × ℕ) → Bool
hits v None = false
hits v (Some p) = (v == p.0) && (v == p.1)

joins_kept : (v : ℕ) (o : Option (ℕ × ℕ)) (rest : List (ℕ × ℕ)) → hits v o ≡ false → has_pair rest v v ≡ false → has_pair (cons_option o rest) v v ≡ false
joins_kept v None rest h k = k
joins_kept v (Some p) rest h k = rw (h, k) refl

apart_ends : (v l r : ℕ) → (l == r) ≡ false → ((v == l) && (v == r)) ≡ false
apart_ends v l r h = elim (cases_Bool ((v == l) && (v == r))) [
  | inl t ↦ (let parts = and_parts (v == l) (v == r) t in let same : (l == r) ≡ true = eq-eqb l r (sym (eqb-true v l parts.0) ∙ eqb-true v r parts.1) in cc)
  | inr f ↦ f
]

arrow_misses : (v : ℕ) (a : Arrow) (l r : ℕ) → (l == r) ≡ false → hits v (arrow_of (record { left = l; arrow = a; right = r })) ≡ false
arrow_misses v Right l r h = apart_ends v l r h
arrow_misses v Left l r h = (let k : (r == l) ≡ false = ne_eqb r l (λ e. (let t : (l == r) ≡ true = eq-eqb l r (sym e) in cc)) in apart_ends v r l k)
arrow_misses v Both l r h = refl

both_misses : (v : ℕ) (a : Arrow) (l r : ℕ) → (l == r) ≡ false → hits v (both_of (record { left = l; arrow = a; right = r })) ≡ false
both_misses v Right l r h = refl
both_misses v Left l r h = refl
both_misses v Both l r h = apart_ends v l r h

none_first : (c : Bool) (e : Edge) (o : Option Edge) → ◌≡◌ {A = Option Edge} (cond c (Some e) o) None → (c ≡ false) × (o ≡ None)
none_first true e o h = cc h
none_first false e o h = (refl, h)

no_loops : (f : Edge → Option (ℕ × ℕ)) (v : ℕ) → ((e : Edge) → (e.left == e.right) ≡ false → hits v (f e) ≡ false) → (es : List Edge)
    → ◌≡◌ {A = Option Edge} (find is_self_loop es) None
    → has_pair (filter_map f es) v v ≡ false
no_loops f v misses [] h = refl
no_loops f v misses (e ∷ es) h =
    let parts = none_first (e.left == e.right) e (find is_self_loop es) h in
    joins_kept v (f e) (filter_map f es) (misses e parts.0) (no_loops f v misses es parts.1)

pub arrows_apart : (marks : List Remark) (v : ℕ) → ◌≡◌ {A = Option Edge} (self_loop marks) None → has_pair (arrows_of marks) v v ≡ false
arrows_apart marks v h = no_loops arrow_of v (λ e k. arrow_misses v e.arrow e.left e.right k) (edges_behind [] marks) h

pub doubles_apart : (marks : List Remark) (v : ℕ) → ◌≡◌ {A = Option Edge} (self_loop marks) None → has_pair (doubles_of marks) v v ≡ false
doubles_apart marks v h = no_loops both_of v (λ e k. both_misses v e.arrow e.left e.right k) (edges_behind [] marks) h

caught : (a : Arrow) (l r : ℕ) (ds bs : List (ℕ × ℕ)) → (l == r) ≡ true → has_pair (cons_option (arrow_of (record { left = l; arrow = a; right = r })) ds) l l
    ≡ false
    → has_pair (cons_option (both_of (record { left = l; arrow = a; right = r })) bs) l l ≡ false → ⊥
caught Right l r ds bs same h k = let t = and_from (l == l) (l == r) (eq-eqb l l refl) same in let f =
    (or_parts ((l == l) && (l == r)) (has_pair ds l l) h).0 in
    both_ways _ f t
caught Left l r ds bs same h k = let t = and_from (l == r) (l == l) same (eq-eqb l l refl) in let f = (or_parts ((l == r) && (l == l)) (has_pair ds l l) h).0 in
    both_ways _ f t
caught Both l r ds bs same h k = let t = and_from (l == l) (l == r) (eq-eqb l l refl) same in let f = (or_parts ((l == l) && (l == r)) (has_pair bs l l) k).0 in
    both_ways _ f t

left_out : (o : Option (ℕ × ℕ)) (rest : List (ℕ × ℕ)) (v : ℕ) → has_pair (cons_option o rest) v v ≡ false → has_pair rest v v ≡ false
left_out None rest v h = h
left_out (Some p) rest v h = (or_parts ((v == p.0) && (v == p.1)) (has_pair rest v v) h).1

none_looped : (es : List Edge) → ((v : ℕ) → has_pair (filter_map arrow_of es) v v ≡ false) → ((v : ℕ) → has_pair (filter_map both_of es) v v ≡ false)
    → ◌≡◌ {A = Option Edge} (find is_self_loop es) None
none_looped [] h k = refl
none_looped (e ∷ es) h k = elim (cases_Bool (e.left == e.right)) [
  | inl t ↦ absurd (caught e.arrow e.left e.right (filter_map arrow_of es) (filter_map both_of es) t (h e.left) (k e.left))
  | inr f ↦ rw f (none_looped es (λ v. left_out (arrow_of e) (filter_map arrow_of es) v (h v)) (λ v. left_out (both_of e) (filter_map both_of es) v (k v)))
]

-- where no vertex is joined to itself there is no self-loop
pub no_self_loop : (marks : List Remark) → ((v : ℕ) → has_pair (arrows_of marks) v v ≡ false) → ((v : ℕ) → has_pair (doubles_of marks) v v ≡ false)
    → ◌≡◌ {A = Option Edge} (self_loop marks) None
no_self_loop marks h k = none_looped (edges_behind [] marks) h k

-- ---- the pairs of a relation

lt_suc : (x k : ℕ) → nat_lt x (suc k) ≡ (nat_lt x k || (x == k))
lt_suc x k = elim (cases_lt x k) [
  | inl h ↦ rw (lt-ltb x (suc k) (omega arith), lt-ltb x k h) refl
  | inr h ↦ rw (le-ltb x k h) (elim (cases_eq x k) [
    | inl e ↦ lt-ltb x (suc k) (omega arith) ∙ sym (eq-eqb x k e)
    | inr d ↦ le-ltb x (suc k) (omega arith) ∙ sym (ne_eqb x k d)
  ])
]

one_among : (c : Bool) (y k : ℕ) → list_any (λ b. y == b) (cond c (k ∷ []) []) ≡ ((y == k) && c)
one_among true y k = or_none (y == k)
  where
    or_none : (b : Bool) → (b || false) ≡ (b && true)
    or_none true = refl
    or_none false = refl
one_among false y k = none (y == k)
  where
    none : (b : Bool) → false ≡ (b && false)
    none true = refl
    none false = refl

member_step : (y k : ℕ) (s : ℕ → Bool) → ((nat_lt y k && s y) || ((y == k) && s k)) ≡ (nat_lt y (suc k) && s y)
member_step y k s = elim (cases_eq y k) [
  | inl e ↦ rw (lt_suc y k, e, eq-eqb k k refl) (steps (nat_lt k k) (s k))
  | inr d ↦ rw (lt_suc y k, ne_eqb y k d) (keeps (nat_lt y k) (s y) (s k))
]
  where
    steps : (b t : Bool) → ((b && t) || (true && t)) ≡ ((b || true) && t)
    steps true true = refl
    steps true false = refl
    steps false t = refl

    keeps : (b t u : Bool) → ((b && t) || (false && u)) ≡ ((b || false) && t)
    keeps true true u = refl
    keeps true false u = refl
    keeps false t u = refl

members_among : (s : ℕ → Bool) (k y : ℕ) → list_any (λ b. y == b) (members_below s k) ≡ (nat_lt y k && s y)
members_among s zero y = rw (members-zero s, le-ltb y zero (omega arith)) refl
members_among s (suc k) y =
    ap (list_any (λ b. y == b)) (members-suc s k)
    ∙ list_any-append (λ b. y == b) (members_below s k) (cond (s k) (k ∷ []) [])
    ∙ ap (λ t. t || list_any (λ b. y == b) (cond (s k) (k ∷ []) [])) (members_among s k y)
    ∙ ap (λ t. (nat_lt y k && s y) || t) (one_among (s k) y k)
    ∙ member_step y k s

row_joins : (a : ℕ) (bs : List ℕ) (x y : ℕ) → has_pair (map (λ b. (a, b)) bs) x y ≡ ((x == a) && list_any (λ b. y == b) bs)
row_joins a [] x y = none (x == a)
  where
    none : (b : Bool) → false ≡ (b && false)
    none true = refl
    none false = refl
row_joins a (b ∷ bs) x y = ap (λ t. ((x == a) && (y == b)) || t) (row_joins a bs x y) ∙ shared (x == a) (y == b) (list_any (λ b. y == b) bs)
  where
    shared : (p q r : Bool) → ((p && q) || (p && r)) ≡ (p && (q || r))
    shared true q r = refl
    shared false q r = refl

rows_joins : (n : ℕ) (r : ℕ → ℕ → Bool) (k x y : ℕ) → has_pair (flat_map (λ a. map (λ b. (a, b)) (members_below (r a) n)) (count_up k)) x y
    ≡ (nat_lt x k && (nat_lt y n && r x y))
rows_joins n r zero x y =
    rw (le-ltb x zero (omega arith)) (ap (λ l. has_pair (flat_map (λ a. map (λ b. (a, b)) (members_below (r a) n)) l) x y) (members-zero (λ _. true)))
rows_joins n r (suc k) x y =
    let row : ℕ → List (ℕ × ℕ) = λ a. map (λ b. (a, b)) (members_below (r a) n) in
    ap (λ l. has_pair (flat_map row l) x y) (members-suc (λ _. true) k)
    ∙ ap (λ l. has_pair l x y) (flat_map-append row (count_up k) (k ∷ []))
    ∙ list_any-append (λ (p : ℕ × ℕ). (x == p.0) && (y == p.1)) (flat_map row (count_up k)) (row k ++ [])
    ∙ ap (λ t. has_pair (flat_map row (count_up k)) x y || t)
    (list_any-append (λ (p : ℕ × ℕ). (x == p.0) && (y == p.1)) (row k) [] ∙ or_none (has_pair (row k) x y) ∙ row_joins k (members_below (r k) n) x y
    ∙ ap (λ t. (x == k) && t) (members_among (r k) n y))
    ∙ ap (λ t. t || ((x == k) && (nat_lt y n && r k y))) (rows_joins n r k x y)
    ∙ member_step x k (λ a. nat_lt y n && r a y)
  where
    or_none : (b : Bool) → (b || false) ≡ b
    or_none true = refl
    or_none false = refl

-- whether a pair is among those of a relation below n
pub pairs_below-joins : (n : ℕ) (r : ℕ → ℕ → Bool) (x y : ℕ) → has_pair (pairs_below n r) x y ≡ (nat_lt x n && (nat_lt y n && r x y))
pairs_below-joins n r x y = rows_joins n r n x y

-- the pairs of rows that hold the edges of pairs below n
pub pairs_below-same : (n : ℕ) (r : ℕ → ℕ → Bool) (ps : List (ℕ × ℕ)) → ((a b : ℕ) → r a b ≡ has_pair ps a b) → list_all (pair_inside n) ps ≡ true → (a b : ℕ)
    → has_pair (pairs_below n r) a b ≡ has_pair ps a b
pairs_below-same n r ps is inside a b = pairs_below-joins n r a b ∙ elim (cases_Bool (has_pair ps a b)) [
  | inl t ↦ (let ends = joins_inside n ps a b inside t in rw (lt-ltb a n ends.0, lt-ltb b n ends.1, is a b) refl)
  | inr f ↦ rw (is a b, f) (none (nat_lt a n) (nat_lt b n))
]
  where
    none : (p q : Bool) → (p && (q && false)) ≡ false
    none true true = refl
    none true false = refl
    none false q = refl

pub arrows_same : (n : ℕ) (r : ℕ → ℕ → Bool) (marks : List Remark) → ((a b : ℕ) → r a b ≡ has_pair (arrows_of marks) a b) → list_all (is_inside n) marks ≡ true
    → (a b : ℕ) → has_pair (pairs_below n r) a b ≡ has_pair (arrows_of marks) a b
arrows_same n r marks is inside = pairs_below-same n r (arrows_of marks) is (arrows_inside n marks inside)

pub doubles_same : (n : ℕ) (r : ℕ → ℕ → Bool) (marks : List Remark) → ((a b : ℕ) → r a b ≡ has_pair (doubles_of marks) a b) → list_all (is_inside n) marks
    ≡ true
    → (a b : ℕ) → has_pair (pairs_below n r) a b ≡ has_pair (doubles_of marks) a b
doubles_same n r marks is inside = pairs_below-same n r (doubles_of marks) is (doubles_inside n marks inside)

all_joined : (ps : List (ℕ × ℕ)) (k : ℕ) (d : ℕ × ℕ) → k < length ps → has_pair ps (get_or ps k d).0 (get_or ps k d).1 ≡ true
all_joined [] k d h = absurd (omega arith)
all_joined (p ∷ ps) zero d h = rw (eq-eqb p.0 p.0 refl, eq-eqb p.1 p.1 refl) refl
all_joined (p ∷ ps) (suc k) d h = later ((get_or ps k d).0 == p.0 && (get_or ps k d).1 == p.1) (all_joined ps k d (omega arith))
  where
    later : (b : Bool) {c : Bool} → c ≡ true → (b || c) ≡ true
    later true h = refl
    later false h = h

-- each end is below n
pub pairs_below-ends : (n : ℕ) (r : ℕ → ℕ → Bool) → All (λ p. (p.0 < n) × (p.1 < n)) (pairs_below n r)
pairs_below-ends n r = λ k d h.
    let x = (get_or (pairs_below n r) k d).0 in let y = (get_or (pairs_below n r) k d).1 in
    let there : (nat_lt x n && (nat_lt y n && r x y)) ≡ true = sym (pairs_below-joins n r x y) ∙ all_joined (pairs_below n r) k d h in
    let parts = and_parts (nat_lt x n) (nat_lt y n && r x y) there in
    (ltb-true x n parts.0, ltb-true y n (and_parts (nat_lt y n) (r x y) parts.1).0)

loop_joined : (ps : List (ℕ × ℕ)) (v : ℕ) → loop_in ps ≡ Some v → has_pair ps v v ≡ true
loop_joined [] v h = cc h
loop_joined (p ∷ ps) v h = elim (cases_Bool (p.0 == p.1)) [
  | inl t ↦ (let is : p.0 ≡ v = cc (rw t at h) in
      let a : (v == p.0) ≡ true = eq-eqb v p.0 (sym is) in let b : (v == p.1) ≡ true = eq-eqb v p.1 (sym is ∙ eqb-true p.0 p.1 t) in rw (a, b) refl)
  | inr f ↦ later ((v == p.0) && (v == p.1)) (loop_joined ps v (rw f at h))
]
  where
    later : (b : Bool) {c : Bool} → c ≡ true → (b || c) ≡ true
    later true h = refl
    later false h = h

by_first : (o : Option ℕ) (ds bs : List (ℕ × ℕ)) (v : ℕ) → o ≡ loop_in ds → elim o as (λ _. Option ℕ) [ Some w ↦ Some w | None ↦ loop_in bs ] ≡ Some v
    → ((has_pair ds v v ≡ true) → ⊥) → (has_pair bs v v ≡ true → ⊥) → ⊥
by_first (Some w) ds bs v is h d b = let e : w ≡ v = cc h in d (loop_joined ds v (sym is ∙ ap (λ (x : ℕ). Some x) e))
by_first None ds bs v is h d b = b (loop_joined bs v h)

-- where no vertex is joined to itself there is no first loop
pub no_first_loop : (ds bs : List (ℕ × ℕ)) (v : ℕ) → first_loop ds bs ≡ Some v → ((u : ℕ) → has_pair ds u u ≡ false) → ((u : ℕ) → has_pair bs u u ≡ false) → ⊥
no_first_loop ds bs v h d b = by_first (loop_in ds) ds bs v refl h (λ t. (let f = d v in cc)) (λ t. (let f = b v in cc))

-- ---- roles

pub role_inside : (n : ℕ) (marks : List Remark) (last : Option ℕ) (r : Role) (v : ℕ) → list_all (is_inside n) marks ≡ true → ((w : ℕ) → last ≡ Some w → w < n)
    → has_role (roles_behind last marks) r v ≡ true → v < n
role_inside n [] last r v h k t = cc t
role_inside n (Begins ∷ ms) last r v h k t = role_inside n ms last r v h k t
role_inside n (Joined a ∷ ms) last r v h k t = role_inside n ms last r v h k t
role_inside n (Member w ∷ ms) last r v h k t =
    let parts = and_parts (nat_lt w n) (list_all (is_inside n) ms) h in
    role_inside n ms (Some w) r v parts.1 (λ u e. (let is : w ≡ u = cc e in let low = ltb-true w n parts.0 in omega arith)) t
role_inside n (HasRole q ∷ ms) None r v h k t = role_inside n ms None r v h k t
role_inside n (HasRole q ∷ ms) (Some w) r v h k t = elim (or_cases ((v == w) && same_role r q) (has_role (roles_behind (Some w) ms) r v) t) [
  | inl here ↦ (let low = k w refl in let is = eqb-true v w (and_parts (v == w) (same_role r q) here).0 in omega arith)
  | inr later ↦ role_inside n ms (Some w) r v h k later
]

-- ---- what the builder answers, for the marks

pub graph_same : (n m : ℕ) (ds bs ds' bs' : List (ℕ × ℕ)) (g : MixedGraph) → n ≡ m → ((a b : ℕ) → has_pair ds a b ≡ has_pair ds' a b)
    → ((a b : ℕ) → has_pair bs a b ≡ has_pair bs' a b)
    → IsGraphOf n ds bs g → IsGraphOf m ds' bs' g
graph_same n m ds bs ds' bs' g size d b is = record {
  size = is.size ∙ size;
  arrows = λ x y. is.arrows x y ∙ d x y;
  spouses = λ x y. is.spouses x y ∙ either (has_pair bs x y) (has_pair bs y x) (b x y) (b y x);
}
  where
    either : (p q : Bool) {r s : Bool} → p ≡ r → q ≡ s → (p || q) ≡ (r || s)
    either p q h k = rw (h, k) refl

-- relations that are the same have the same cycles
pub cycle_same : (p q : ℕ → ℕ → Bool) (list : List ℕ) (count : ℕ) → ((a b : ℕ) → p a b ≡ q a b) → IsCycle p list count → IsCycle q list count
cycle_same p q list count is c = record {
  nonempty = c.nonempty;
  next = λ i h. sym (is (get_or list i 0) (get_or list (i + 1) 0)) ∙ c.next i h;
  closes = sym (is (get_or list (count - 1) 0) (get_or list 0 0)) ∙ c.closes;
  lowest = c.lowest;
  once = c.once;
}

pub cycle_inside : (n : ℕ) (marks : List Remark) (list : List ℕ) (count : ℕ) → list_all (is_inside n) marks ≡ true
    → IsCycle (has_pair (arrows_of marks)) list count → (i : ℕ) → i < count → get_or list i 0 < n
cycle_inside n marks list count inside c i h = elim (cases_lt (i + 1) count) [
  | inl more ↦ (joins_inside n (arrows_of marks) (get_or list i 0) (get_or list (i + 1) 0) (arrows_inside n marks inside) (c.next i more)).0
  | inr last ↦ (let at : count - 1 ≡ i = omega arith in
      let low = (joins_inside n (arrows_of marks) (get_or list (count - 1) 0) (get_or list 0 0) (arrows_inside n marks inside) c.closes).0 in
      subst (λ (k : ℕ). get_or list k 0 < n) at low)
]

by_edge : (n : ℕ) (marks : List Remark) (o : Option Edge) (v : ℕ) → o ≡ self_loop marks → option_map (λ (e : Edge). e.left) o ≡ Some v
    → list_all (is_inside n) marks ≡ true → v < n
by_edge n marks None v is h inside = cc h
by_edge n marks (Some e) v is h inside = let low = loop_inside n marks e inside (sym is) in let same : e.left ≡ v = cc h in omega arith

-- the vertex of the first self-loop, as the search found it
pub loop_found_inside : (n : ℕ) (marks : List Remark) (v : ℕ) → option_map (λ (e : Edge). e.left) (self_loop marks) ≡ Some v → list_all (is_inside n) marks
    ≡ true → v < n
loop_found_inside n marks v h inside = by_edge n marks (self_loop marks) v refl h inside
