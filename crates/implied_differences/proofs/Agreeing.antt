-- Sums of counts at assignments that agree, and how large they are.
use Rattle.std.proofs.Common.{ℕ, ◌+◌, ◌*◌, ◌≡◌, ◌<◌, ◌≤◌, Bool, true, false, cond, not, ◌&&◌, ◌||◌, ◌==◌, List, [], ◌∷◌, length, map, All, refl, sym}
use Rattle.std.proofs.Common.{ap, ◌∙◌, inl, inr, ◌⊎◌, arith}
use Rattle.std.specs.List.{filter}
use Rattle.std.proofs.lemmas.Bool.{or_cases, or_left, or_right, eqb-true}
use Rattle.std.proofs.lemmas.List.Elements.{All-head, All-tail, All-weaker, All-map}
use Rattle.std.proofs.lemmas.List.Sums.{sum_by-cons}
use Rattle.std.proofs.lemmas.Nat.{mul-le}
use Rattle.mixed_graph.specs.Vocabulary.{has}
use Rattle.count_rows.specs.Vocabulary.{Field, product, Row, Table, agrees, counted}
use Rattle.count_table.specs.Vocabulary.{levels_in, AreCounts}
use Rattle.count_eval.proofs.CountedLaws.{counted_small}
use Rattle.count_table.proofs.CellLevels.{filter-holds}
use Rattle.count_table.proofs.Lists.{product-pos}
use Rattle.implications.specs.declared.pairs.Implication.{Implication}
use Rattle.implications.specs.Vocabulary.{only}
use Rattle.implied_differences.specs.Differences.{whole_of, first_of_pair, second_of_pair, left, right}

agrees-same : (vs cell : List ℕ) (of : ℕ → Bool) (at at' : ℕ → ℕ) → All (λ v. of v ≡ true → at v ≡ at' v) vs → agrees vs cell of at ≡ agrees vs cell of at'
agrees-same [] cell of at at' h = refl
agrees-same (v ∷ vs) [] of at at' h = refl
agrees-same (v ∷ vs) (x ∷ xs) of at at' h =
    ap (λ b. b && agrees vs xs of at) (first (of v) refl) ∙ ap (λ b. (not (of v) || (x == at' v)) && b)
    (agrees-same vs xs of at at' (All-tail (λ u. of u ≡ true → at u ≡ at' u) v vs h))
  where
    first : (b : Bool) → of v ≡ b → (not (of v) || (x == at v)) ≡ (not (of v) || (x == at' v))
    first true e = ap (λ n. not (of v) || (x == n)) (All-head (λ u. of u ≡ true → at u ≡ at' u) v vs h e)
    first false e = rw e refl

-- a sum reads the levels of its set alone
pub counted-same : (vs : List ℕ) (rows : List Row) (of : ℕ → Bool) (at at' : ℕ → ℕ) → All (λ v. of v ≡ true → at v ≡ at' v) vs
    → counted vs rows of at ≡ counted vs rows of at'
counted-same vs [] of at at' h = refl
counted-same vs (r ∷ rows) of at at' h =
    sum_by-cons (λ (q : Row). cond (agrees vs q.cell of at) q.count 0) r rows
    ∙ ap (λ (b : Bool). cond b r.count 0 + counted vs rows of at) (agrees-same vs r.cell of at at' h)
    ∙ ap (λ n. cond (agrees vs r.cell of at') r.count 0 + n) (counted-same vs rows of at at' h)
    ∙ sym (sum_by-cons (λ (q : Row). cond (agrees vs q.cell of at') q.count 0) r rows)

-- what holds of a, b and the given vertices among some holds of each of these in the three
pub whole_holds : (i : Implication) (P : ℕ → Type 0) (vs : List ℕ) → All P (i.a ∷ i.b ∷ filter (has i.given.bits) vs) → All (λ v. whole_of i v ≡ true → P v) vs
whole_holds i P vs h = All-weaker (λ v. has i.given.bits v ≡ true → P v) (λ v. whole_of i v ≡ true → P v) each vs
    (filter-holds P (has i.given.bits) vs (All-tail P i.b (filter (has i.given.bits) vs) rest))
  where
    rest : All P (i.b ∷ filter (has i.given.bits) vs)
    rest = All-tail P i.a (i.b ∷ filter (has i.given.bits) vs) h

    first : P i.a
    first = All-head P i.a (i.b ∷ filter (has i.given.bits) vs) h

    second : P i.b
    second = All-head P i.b (filter (has i.given.bits) vs) rest

    each : (v : ℕ) → (has i.given.bits v ≡ true → P v) → whole_of i v ≡ true → P v
    each v given e = go (or_cases (only i.a v) (only i.b v || has i.given.bits v) e)
      where
        later : (only i.b v ≡ true) ⊎ (has i.given.bits v ≡ true) → P v
        later (inl f) = rw (eqb-true v i.b f) second
        later (inr f) = given f

        go : (only i.a v ≡ true) ⊎ ((only i.b v || has i.given.bits v) ≡ true) → P v
        go (inl f) = rw (eqb-true v i.a f) first
        go (inr f) = later (or_cases (only i.b v) (has i.given.bits v) f)

pub given_inside : (i : Implication) (v : ℕ) → has i.given.bits v ≡ true → whole_of i v ≡ true
given_inside i v e = or_right (only i.a v) (only i.b v || has i.given.bits v) (or_right (only i.b v) (has i.given.bits v) e)

pub first_inside : (i : Implication) (v : ℕ) → first_of_pair i v ≡ true → whole_of i v ≡ true
first_inside i v e = elim (or_cases (only i.a v) (has i.given.bits v) e) [
  | inl f ↦ or_left (only i.a v) (only i.b v || has i.given.bits v) f
  | inr f ↦ given_inside i v f
]

pub second_inside : (i : Implication) (v : ℕ) → second_of_pair i v ≡ true → whole_of i v ≡ true
second_inside i v e = or_right (only i.a v) (only i.b v || has i.given.bits v) e

module _ (t : Table) (i : Implication) (s s' : ℕ → ℕ) (h : All (λ v. whole_of i v ≡ true → s v ≡ s' v) t.vertices) where
  part : (of : ℕ → Bool) → ((v : ℕ) → of v ≡ true → whole_of i v ≡ true) → counted t.vertices t.rows of s ≡ counted t.vertices t.rows of s'
  part of inside = counted-same t.vertices t.rows of s s' (All-weaker (λ v. whole_of i v ≡ true → s v ≡ s' v) (λ v. of v ≡ true → s v ≡ s' v)
      (λ v f e. f (inside v e)) t.vertices h)

  pub left_same : left t i s ≡ left t i s'
  left_same = ap (λ n. n * counted t.vertices t.rows (has i.given.bits) s) (part (whole_of i) (λ v e. e))
      ∙ ap (λ n. counted t.vertices t.rows (whole_of i) s' * n) (part (has i.given.bits) (given_inside i))

  pub right_same : right t i s ≡ right t i s'
  right_same = ap (λ n. n * counted t.vertices t.rows (second_of_pair i) s) (part (first_of_pair i) (first_inside i))
      ∙ ap (λ n. counted t.vertices t.rows (first_of_pair i) s' * n) (part (second_of_pair i) (second_inside i))

-- ---- sizes

pub counted_most : (t : Table) → AreCounts t → (a : ℕ → Bool) (at : ℕ → ℕ) → counted t.vertices t.rows a at ≤ 1000000000000000
counted_most t are a at = let x = counted_small t.vertices t.rows a at in let y = are.most in omega (arith, x, y)

pub left_most : (t : Table) → AreCounts t → (i : Implication) (s : ℕ → ℕ) → left t i s ≤ 1000000000000000000000000000000
left_most t are i s = mul-le _ _ 1000000000000000 1000000000000000 (counted_most t are (whole_of i) s) (counted_most t are (has i.given.bits) s)

pub right_most : (t : Table) → AreCounts t → (i : Implication) (s : ℕ → ℕ) → right t i s ≤ 1000000000000000000000000000000
right_most t are i s = mul-le _ _ 1000000000000000 1000000000000000 (counted_most t are (first_of_pair i) s) (counted_most t are (second_of_pair i) s)

times_more : (x p : ℕ) → 0 < p → x ≤ x * p
times_more x p h = let m : x * 1 ≤ x * p = mul-le x 1 x p (omega arith) (omega arith) in omega (arith, m)

within_times : (x p y : ℕ) → 0 < x → y ≤ p → y ≤ x * p
within_times x p y h l = let m : 1 * p ≤ x * p = mul-le 1 p x p (omega arith) (omega arith) in omega (arith, m, l)

-- no vertex has more levels than there are cells
levels_least : (vs : List ℕ) (levels : List (List Field)) (v : ℕ) → All (λ (ys : List Field). 0 < length ys) levels
    → length (levels_in vs levels v) ≤ product (map (λ (ys : List Field). length ys) levels)
levels_least [] levels v h = omega arith
levels_least (u ∷ us) [] v h = omega arith
levels_least (u ∷ us) (ys ∷ levels) v h =
    pick (u == v) (times_more (length ys) (product (map (λ (ys : List Field). length ys) levels))
    (product-pos (map (λ (ys : List Field). length ys) levels) (All-map (λ n. 0 < n) (λ (ys : List Field). length ys) levels
    (All-tail (λ (ys : List Field). 0 < length ys) ys levels h))))
    (within_times (length ys) (product (map (λ (ys : List Field). length ys) levels)) (length (levels_in us levels v))
    (All-head (λ (ys : List Field). 0 < length ys) ys levels h) (levels_least us levels v (All-tail (λ (ys : List Field). 0 < length ys) ys levels h)))
  where
    pick : (b : Bool) → length ys ≤ length ys * product (map (λ (ys : List Field). length ys) levels)
        → length (levels_in us levels v) ≤ length ys * product (map (λ (ys : List Field). length ys) levels)
        → length (cond b ys (levels_in us levels v)) ≤ length ys * product (map (λ (ys : List Field). length ys) levels)
    pick true p q = p
    pick false p q = q

pub levels_few : (t : Table) → AreCounts t → (v : ℕ) → length (levels_in t.vertices t.levels v) ≤ 1048576
levels_few t are v = let x = levels_least t.vertices t.levels v are.each in let y = are.few in omega (arith, x, y)
