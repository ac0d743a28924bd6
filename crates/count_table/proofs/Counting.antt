-- Which rows agree with an assignment, and what the sum over the levels of one more vertex is.
use Rattle.std.proofs.Common.{ℕ, zero, suc, ◌+◌, ◌≡◌, ◌≢◌, ◌<◌, Bool, true, false, ◌&&◌, ◌||◌, not, cond, eqb}
use Rattle.std.proofs.Common.{List, [], ◌∷◌, ◌++◌, length, get_or, All, refl, sym, ap, subst, ◌∙◌, inl, inr, arith}
use Rattle.std.specs.List.{AllPairs}
use Rattle.std.proofs.lemmas.Bool.{cases_eq, eq-eqb, ne_eqb}
use Rattle.std.proofs.lemmas.List.Elements.{All-head, All-tail}
use Rattle.std.proofs.lemmas.List.Sums.{sum_by-cons}
use Rattle.count_table.specs.LaneSums.{sum_below}
use Rattle.count_rows.specs.Vocabulary.{Row, agrees, counted}

-- whether u is one of these
abbrev pub is_among : List ℕ → ℕ → Bool
is_among [] u = false
is_among (x ∷ xs) u = eqb u x || is_among xs u

-- an assignment with the level a of v
abbrev pub put_level : (ℕ → ℕ) → ℕ → ℕ → ℕ → ℕ
put_level at v a u = cond (eqb u v) a (at u)

-- an assignment that is given a level of v has that level of v
pub put-same : (at : ℕ → ℕ) (v a : ℕ) → put_level at v a v ≡ a
put-same at v a = ap (λ b. cond b a (at v)) (eq-eqb v v refl)

-- an assignment that is given a level of v keeps those of the other vertices
pub put-other : (at : ℕ → ℕ) (v a u : ℕ) → u ≢ v → put_level at v a u ≡ at u
put-other at v a u ne = ap (λ b. cond b a (at u)) (ne_eqb u v ne)

pub among-append : (xs ys : List ℕ) (u : ℕ) → is_among (xs ++ ys) u ≡ (is_among xs u || is_among ys u)
among-append [] ys u = refl
among-append (x ∷ xs) ys u = ap (λ b. eqb u x || b) (among-append xs ys u) ∙ or_assoc (eqb u x) (is_among xs u) (is_among ys u)
  where
    or_assoc : (a b c : Bool) → (a || (b || c)) ≡ ((a || b) || c)
    or_assoc true b c = refl
    or_assoc false b c = refl

-- one more vertex among them
pub among-more : (xs ys : List ℕ) (v u : ℕ) → is_among (xs ++ v ∷ ys) u ≡ (is_among (xs ++ ys) u || eqb u v)
among-more xs ys v u = among-append xs (v ∷ ys) u ∙ turn (is_among xs u) (eqb u v) (is_among ys u) ∙ ap (λ b. b || eqb u v) (sym (among-append xs ys u))
  where
    turn : (a b c : Bool) → (a || (b || c)) ≡ ((a || c) || b)
    turn true b c = refl
    turn false true true = refl
    turn false true false = refl
    turn false false true = refl
    turn false false false = refl

pub among-none : (xs : List ℕ) (v : ℕ) → All (λ u. u ≢ v) xs → is_among xs v ≡ false
among-none [] v h = refl
among-none (x ∷ xs) v h =
    ap (λ b. b || is_among xs v) (ne_eqb v x (λ e. All-head (λ u. u ≢ v) x xs h (sym e))) ∙ among-none xs v (All-tail (λ u. u ≢ v) x xs h)

-- ---- rows that agree

-- sets and assignments that are the same on all vertices
pub agrees-alike : (vs cell : List ℕ) (s t : ℕ → Bool) (at bt : ℕ → ℕ) → All (λ u. s u ≡ t u) vs → All (λ u. at u ≡ bt u) vs
    → agrees vs cell s at ≡ agrees vs cell t bt
agrees-alike [] cell s t at bt h k = refl
agrees-alike (v ∷ vs) [] s t at bt h k = refl
agrees-alike (v ∷ vs) (x ∷ xs) s t at bt h k =
    ap (λ b. (not b || eqb x (at v)) && agrees vs xs s at) (All-head (λ u. s u ≡ t u) v vs h)
    ∙ ap (λ n. (not (t v) || eqb x n) && agrees vs xs s at) (All-head (λ u. at u ≡ bt u) v vs k)
    ∙ ap (λ b. (not (t v) || eqb x (bt v)) && b) (agrees-alike vs xs s t at bt (All-tail (λ u. s u ≡ t u) v vs h) (All-tail (λ u. at u ≡ bt u) v vs k))

-- sets with the same members among the table's vertices count the same rows
pub counted-alike : (vs : List ℕ) (rows : List Row) (s t : ℕ → Bool) (at : ℕ → ℕ) → All (λ u. s u ≡ t u) vs → counted vs rows s at ≡ counted vs rows t at
counted-alike vs [] s t at h = refl
counted-alike vs (r ∷ rows) s t at h =
    sum_by-cons (λ (x : Row). cond (agrees vs x.cell s at) x.count 0) r rows
    ∙ ap (λ b. cond b r.count 0 + counted vs rows s at) (agrees-alike vs r.cell s t at at h (λ i d lt. refl))
    ∙ ap (λ n. cond (agrees vs r.cell t at) r.count 0 + n) (counted-alike vs rows s t at h)
    ∙ sym (sum_by-cons (λ (x : Row). cond (agrees vs x.cell t at) x.count 0) r rows)

-- the set s is t and v, which isn't in t
pub record IsWith (s t : ℕ → Bool) (v : ℕ) : Type 0 where
  pub with : (u : ℕ) → s u ≡ (t u || eqb u v)
  pub without : t v ≡ false

with-other : (s t : ℕ → Bool) (v u : ℕ) → IsWith s t v → u ≢ v → s u ≡ t u
with-other s t v u h ne = h.with u ∙ ap (λ b. t u || b) (ne_eqb u v ne) ∙ drop_false (t u)
  where
    drop_false : (b : Bool) → (b || false) ≡ b
    drop_false true = refl
    drop_false false = refl

with-self : (s t : ℕ → Bool) (v : ℕ) → IsWith s t v → s v ≡ true
with-self s t v h = h.with v ∙ ap (λ b. t v || b) (eq-eqb v v refl) ∙ ap (λ b. b || true) h.without

first_tail : (v : ℕ) (vs : List ℕ) → AllPairs (λ a b. a < b) (v ∷ vs) → AllPairs (λ a b. a < b) vs
first_tail v vs h i j d less long = h (suc i) (suc j) d (omega arith) (omega arith)

first_apart : (v : ℕ) (vs : List ℕ) → AllPairs (λ a b. a < b) (v ∷ vs) → All (λ u. u ≢ v) vs
first_apart v vs h i d lt = λ e. (let less : v < get_or vs i d = h zero (suc i) d (omega arith) (omega arith) in omega (arith, less, e))

-- a row agrees on one vertex more exactly if it agrees on the others and has the level of this one
pub agrees-with : (vs cell : List ℕ) (s t : ℕ → Bool) (at : ℕ → ℕ) (v a i : ℕ) → IsWith s t v → AllPairs (λ a b. a < b) vs → i < length vs → length cell
    ≡ length vs → get_or vs i 0 ≡ v
    → agrees vs cell s (put_level at v a) ≡ (agrees vs cell t at && eqb (get_or cell i 0) a)
agrees-with [] cell s t at v a i h apart lt long e = absurd (omega arith)
agrees-with (u ∷ us) [] s t at v a i h apart lt long e = absurd (omega arith)
agrees-with (u ∷ us) (x ∷ xs) s t at v a zero h apart lt long e =
    let none = subst (λ w. All (λ n. n ≢ w) us) e (first_apart u us apart) in
    let rest = agrees-alike us xs s t (put_level at v a) at (λ i d less. with-other s t v (get_or us i d) h (none i d less))
    (λ i d less. put-other at v a (get_or us i d) (none i d less)) in
    let here : (not (s u) || eqb x (put_level at v a u)) ≡ eqb x a =
    ap (λ w. not (s w) || eqb x (put_level at v a w)) e ∙ ap (λ b. not b || eqb x (put_level at v a v)) (with-self s t v h)
    ∙ ap (λ n. eqb x n) (put-same at v a) in
    let there : (not (t u) || eqb x (at u)) ≡ true = ap (λ w. not (t w) || eqb x (at w)) e ∙ ap (λ b. not b || eqb x (at v)) h.without in
    ap (λ b. b && agrees us xs s (put_level at v a)) here ∙ ap (λ b. eqb x a && b) rest ∙ turn (eqb x a) (agrees us xs t at)
    ∙ ap (λ b. (b && agrees us xs t at) && eqb x a) (sym there)
  where
    turn : (p q : Bool) → (p && q) ≡ ((true && q) && p)
    turn true true = refl
    turn true false = refl
    turn false true = refl
    turn false false = refl
agrees-with (u ∷ us) (x ∷ xs) s t at v a (suc i) h apart lt long e =
    let other : u ≢ v = λ same. (let less : u < get_or us i 0 = apart zero (suc i) 0 (omega arith) (omega arith) in omega (arith, less, e, same)) in
    ap (λ b. (not b || eqb x (put_level at v a u)) && agrees us xs s (put_level at v a)) (with-other s t v u h other)
    ∙ ap (λ n. (not (t u) || eqb x n) && agrees us xs s (put_level at v a)) (put-other at v a u other)
    ∙ ap (λ b. (not (t u) || eqb x (at u)) && b) (agrees-with us xs s t at v a i h (first_tail u us apart) (omega arith) (omega arith) e)
    ∙ and_assoc (not (t u) || eqb x (at u)) (agrees us xs t at) (eqb (get_or xs i 0) a)
  where
    and_assoc : (p q r : Bool) → (p && (q && r)) ≡ ((p && q) && r)
    and_assoc true q r = refl
    and_assoc false q r = refl

-- ---- sums over the levels of a vertex

-- sums over equal terms are equal
pub sum-same : (n : ℕ) (f g : ℕ → ℕ) → ((i : ℕ) → i < n → f i ≡ g i) → sum_below n f ≡ sum_below n g
sum-same zero f g h = refl
sum-same (suc n) f g h = let a = sum-same n f g (λ i lt. h i (omega arith)) in let b = h n (omega arith) in omega (arith, a, b)

pub sum-zero : (n : ℕ) (f : ℕ → ℕ) → ((i : ℕ) → i < n → f i ≡ 0) → sum_below n f ≡ 0
sum-zero zero f h = refl
sum-zero (suc n) f h = let a = sum-zero n f (λ i lt. h i (omega arith)) in let b = h n (omega arith) in omega (arith, a, b)

pub sum-plus : (n : ℕ) (f g : ℕ → ℕ) → sum_below n (λ i. f i + g i) ≡ sum_below n f + sum_below n g
sum-plus zero f g = refl
sum-plus (suc n) f g = let a = sum-plus n f g in omega (arith, a)

-- a number that stands at the level x alone
one_level : (n x k : ℕ) → x < n → sum_below n (λ a. cond (eqb x a) k 0) ≡ k
one_level zero x k lt = absurd (omega arith)
one_level (suc n) x k lt = elim (cases_eq x n) [
  | inl same ↦
      let others = sum-zero n (λ a. cond (eqb x a) k 0) (λ i less. ap (λ b. cond b k 0) (ne_eqb x i (λ e. omega (arith, e, same)))) in
      let here : cond (eqb x n) k 0 ≡ k = ap (λ b. cond b k 0) (eq-eqb x n same) in
      omega (arith, others, here)
  | inr other ↦
      let last : cond (eqb x n) k 0 ≡ 0 = ap (λ b. cond b k 0) (ne_eqb x n other) in
      let rest = one_level n x k (omega (arith, other)) in
      omega (arith, last, rest)
]

one_row : (b : Bool) (n x k : ℕ) → x < n → sum_below n (λ a. cond (b && eqb x a) k 0) ≡ cond b k 0
one_row true n x k lt = one_level n x k lt
one_row false n x k lt = sum-zero n (λ a. 0) (λ i less. refl)

-- the row has a level below n of the vertex i
pub record HasLevel (width i n : ℕ) (r : Row) : Type 0 where
  pub long : length r.cell ≡ width
  pub below : get_or r.cell i 0 < n

-- the sum over the rows that agree is the sum of those that agree on one vertex more, over its levels
pub counted-over : (vs : List ℕ) (rows : List Row) (s t : ℕ → Bool) (at : ℕ → ℕ) (v i n : ℕ) → IsWith s t v → AllPairs (λ a b. a < b) vs → i < length vs
    → get_or vs i 0 ≡ v
    → All (HasLevel (length vs) i n) rows → sum_below n (λ a. counted vs rows s (put_level at v a)) ≡ counted vs rows t at
counted-over vs [] s t at v i n h apart lt e all = sum-zero n (λ a. 0) (λ j less. refl)
counted-over vs (r ∷ rows) s t at v i n h apart lt e all =
    let first = All-head (HasLevel (length vs) i n) r rows all in
    sum-same n (λ a. counted vs (r ∷ rows) s (put_level at v a)) (λ a. cond (agrees vs r.cell t at && eqb (get_or r.cell i 0) a) r.count 0
    + counted vs rows s (put_level at v a))
    (λ a less. sum_by-cons (λ (x : Row). cond (agrees vs x.cell s (put_level at v a)) x.count 0) r rows
    ∙ ap (λ b. cond b r.count 0 + counted vs rows s (put_level at v a)) (agrees-with vs r.cell s t at v a i h apart lt first.long e))
    ∙ sum-plus n (λ a. cond (agrees vs r.cell t at && eqb (get_or r.cell i 0) a) r.count 0) (λ a. counted vs rows s (put_level at v a))
    ∙ ap (λ m. m + sum_below n (λ a. counted vs rows s (put_level at v a))) (one_row (agrees vs r.cell t at) n (get_or r.cell i 0) r.count first.below)
    ∙ ap (λ m. cond (agrees vs r.cell t at) r.count 0 + m) (counted-over vs rows s t at v i n h apart lt e (All-tail (HasLevel (length vs) i n) r rows all))
    ∙ sym (sum_by-cons (λ (x : Row). cond (agrees vs x.cell t at) x.count 0) r rows)
