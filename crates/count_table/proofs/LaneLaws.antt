-- Sums by lanes are plain sums.
use Rattle.std.proofs.Common.{ℕ, zero, suc, ◌+◌, ◌-◌, ◌%◌, ◌^◌, ◌≡◌, ◌<◌, ◌≤◌, Bool, true, false, cond, eqb, List, [], ◌∷◌, length, get_or, take}
use Rattle.std.proofs.Common.{drop, map, replicate, refl, sym, ap, ◌∙◌, arith, mod-eq_of_lt, bit_and, sum, w64}
use Rattle.std.specs.Simd.Lanes.{zip2, fold_l, sel_l, chunk, sum_l, top}
use Rattle.std.proofs.lemmas.Simd.{map-map, tops_compared, zip2_splat, length-chunk, get_or-chunk}
use Rattle.std.proofs.lemmas.List.Sums.{sum_by-cons, sum_by_more, sum_by-take-le}
use Rattle.count_table.specs.LaneSums.{sum_below, if_matched, matched_sum}

pub sum_below-congr : (n : ℕ) (f g : ℕ → ℕ) → ((i : ℕ) → i < n → f i ≡ g i) → sum_below n f ≡ sum_below n g
sum_below-congr zero f g h = refl
sum_below-congr (suc n) f g h = let a = sum_below-congr n f g (λ i lt. h i (omega arith)) in let b = h n (omega arith) in omega (arith, a, b)

pub sum_below-le : (n : ℕ) (f g : ℕ → ℕ) → ((i : ℕ) → f i ≤ g i) → sum_below n f ≤ sum_below n g
sum_below-le zero f g h = omega arith
sum_below-le (suc n) f g h = let a = sum_below-le n f g h in let b = h n in omega (arith, a, b)

-- a sum over n + k terms is that of the first n and that of the k behind them
pub sum_below-add : (n k : ℕ) (f : ℕ → ℕ) → sum_below (n + k) f ≡ sum_below n f + sum_below k (λ i. f (n + i))
sum_below-add n zero f = ap (λ m. sum_below m f) (let r : n + 0 ≡ n = omega arith in r) ∙ omega arith
sum_below-add n (suc k) f = ap (λ m. sum_below m f) (let r : n + suc k ≡ suc (n + k) = omega arith in r) ∙ (let a = sum_below-add n k f in omega (arith, a))

pub sum_below-first : (n : ℕ) (f : ℕ → ℕ) → sum_below (suc n) f ≡ f 0 + sum_below n (λ i. f (suc i))
sum_below-first zero f = omega arith
sum_below-first (suc n) f = let a = sum_below-first n f in omega (arith, a)

length_map : (f : ℕ → ℕ) (xs : List ℕ) → length (map f xs) ≡ length xs
length_map f [] = refl
length_map f (x ∷ xs) = let a = length_map f xs in omega (arith, a)

-- the numbers whose partner passes p
abbrev pub picked : (ℕ → Bool) → List ℕ → List ℕ → ℕ
picked p [] xs = 0
picked p (k ∷ ks) [] = 0
picked p (k ∷ ks) (x ∷ xs) = cond (p k) x 0 + picked p ks xs

pick_le : (b : Bool) (x : ℕ) → cond b x 0 ≤ x
pick_le true x = omega arith
pick_le false x = omega arith

pub fold_picked : (p : ℕ → Bool) (n a : ℕ) (ks xs : List ℕ) → length ks ≡ n → length xs ≡ n → a + sum_l xs < 2 ^ 64
    → fold_l (λ s x. (s + x) % 2 ^ 64) a (sel_l (map p ks) xs (replicate n 0)) ≡ a + picked p ks xs
fold_picked p zero a [] xs ek ex lt = omega arith
fold_picked p (suc n) a [] xs ek ex lt = absurd (omega arith)
fold_picked p n a (k ∷ ks) [] ek ex lt = absurd (omega arith)
fold_picked p zero a (k ∷ ks) (x ∷ xs) ek ex lt = absurd (omega arith)
fold_picked p (suc n) a (k ∷ ks) (x ∷ xs) ek ex lt =
    let le = pick_le (p k) x in
    let small : a + cond (p k) x 0 < 2 ^ 64 = omega (arith, le) in
    ap (λ m. fold_l (λ s y. (s + y) % 2 ^ 64) m (sel_l (map p ks) xs (replicate n 0))) (mod-eq_of_lt small)
    ∙ fold_picked p n (a + cond (p k) x 0) ks xs (omega arith) (omega arith) (omega (arith, le))
    ∙ omega arith

pub picked_index : (p : ℕ → Bool) (n : ℕ) (ks xs : List ℕ) → length ks ≡ n → length xs ≡ n
    → picked p ks xs ≡ sum_below n (λ i. cond (p (get_or ks i 0)) (get_or xs i 0) 0)
picked_index p zero [] xs ek ex = refl
picked_index p (suc n) [] xs ek ex = absurd (omega arith)
picked_index p n (k ∷ ks) [] ek ex = absurd (omega arith)
picked_index p zero (k ∷ ks) (x ∷ xs) ek ex = absurd (omega arith)
picked_index p (suc n) (k ∷ ks) (x ∷ xs) ek ex =
    ap (λ m. cond (p k) x 0 + m) (picked_index p n ks xs (omega arith) (omega arith))
    ∙ sym (sum_below-first n (λ i. cond (p (get_or (k ∷ ks) i 0)) (get_or (x ∷ xs) i 0) 0))

pub sum_l-sum : (xs : List ℕ) → sum_l xs ≡ sum xs
sum_l-sum [] = refl
sum_l-sum (x ∷ xs) = ap (λ m. x + m) (sum_l-sum xs) ∙ sym (sum_by-cons (λ y. y) x xs)

sum_drop_le : (i : ℕ) (xs : List ℕ) → sum (drop i xs) ≤ sum xs
sum_drop_le zero xs = omega arith
sum_drop_le (suc i) [] = omega arith
sum_drop_le (suc i) (x ∷ xs) = let a = sum_drop_le i xs in let b = sum_by-cons (λ y. y) x xs in omega (arith, a, b)

pub sum_chunk_le : (i n : ℕ) (xs : List ℕ) → sum_l (chunk i n xs) ≤ sum xs
sum_chunk_le i n xs = let a = sum_l-sum (chunk i n xs) in let b = sum_by-take-le (λ y. y) (drop i xs) n in let c = sum_drop_le i xs in omega (arith, a, b, c)

pub lanes_matched : (at mask want : ℕ) (counts codes : List ℕ) → at + 8 ≤ length counts → at + 8 ≤ length codes → sum counts < 2 ^ 64
    → fold_l (λ s x. (s + x) % 2 ^ 64) 0 (sel_l (map (top 63) (zip2 (λ a b. cond (eqb a b) (2 ^ 64 - 1) 0)
    (zip2 (λ a b. bit_and a b) (chunk at 8 codes) (replicate 8 mask)) (replicate 8 want))) (chunk at 8 counts) (replicate 8 0))
    ≡ sum_below 8 (λ i. if_matched mask want (get_or counts (at + i) 0) (get_or codes (at + i) 0))
lanes_matched at mask want counts codes lx lk room =
    let ks = chunk at 8 codes in let xs = chunk at 8 counts in
    let ek : length ks ≡ 8 = length-chunk at 8 codes lk in let ex : length xs ≡ 8 = length-chunk at 8 counts lx in
    ap (λ m. fold_l (λ s x. (s + x) % 2 ^ 64) 0 (sel_l m xs (replicate 8 0)))
    (tops_compared w64 eqb (zip2 (λ a b. bit_and a b) ks (replicate 8 mask)) (replicate 8 want)
    ∙ ap (λ us. zip2 eqb us (replicate 8 want)) (zip2_splat (λ a b. bit_and a b) ks 8 mask ek)
    ∙ zip2_splat eqb (map (λ k. bit_and k mask) ks) 8 want (length_map (λ k. bit_and k mask) ks ∙ ek)
    ∙ map-map (λ u. eqb u want) (λ k. bit_and k mask) ks)
    ∙ fold_picked (λ k. eqb (bit_and k mask) want) 8 0 ks xs ek ex (let s = sum_chunk_le at 8 counts in omega (arith, s))
    ∙ (let r : 0 + picked (λ k. eqb (bit_and k mask) want) ks xs ≡ picked (λ k. eqb (bit_and k mask) want) ks xs = omega arith in r)
    ∙ picked_index (λ k. eqb (bit_and k mask) want) 8 ks xs ek ex
    ∙ sum_below-congr 8 (λ i. cond (eqb (bit_and (get_or ks i 0) mask) want) (get_or xs i 0) 0)
    (λ i. if_matched mask want (get_or counts (at + i) 0) (get_or codes (at + i) 0))
    (λ i lt. ap (λ k. cond (eqb (bit_and k mask) want) (get_or xs i 0) 0) (get_or-chunk at 8 codes i 0 lt)
    ∙ ap (λ x. cond (eqb (bit_and (get_or codes (at + i) 0) mask) want) x 0) (get_or-chunk at 8 counts i 0 lt))

-- the sum over the first n places of a list is the sum of its first n numbers
pub index_sum : (n : ℕ) (xs : List ℕ) → n ≤ length xs → sum_below n (λ i. get_or xs i 0) ≡ sum (take n xs)
index_sum zero xs le = refl
index_sum (suc n) xs le =
    let a = index_sum n xs (omega arith) in let b = sum_by_more (λ y. y) xs n 0 (omega arith) in
    omega (arith, a, b, ap (λ m. sum (take m xs)) (let r : n + 1 ≡ suc n = omega arith in r))

pub matched_le : (mask want n : ℕ) (counts codes : List ℕ) → n ≤ length counts → matched_sum mask want n counts codes ≤ sum counts
matched_le mask want n counts codes le =
    let a = sum_below-le n (λ i. if_matched mask want (get_or counts i 0) (get_or codes i 0)) (λ i. get_or counts i 0)
    (λ i. pick_le (eqb (bit_and (get_or codes i 0) mask) want) (get_or counts i 0)) in
    let b = index_sum n counts le in
    let c = sum_by-take-le (λ y. y) counts n in
    omega (arith, a, b, c)

-- one step of the code
pub step_fits : (mask want at k total part : ℕ) (counts codes : List ℕ) → total ≡ matched_sum mask want at counts codes
    → part ≡ sum_below k (λ i. if_matched mask want (get_or counts (at + i) 0) (get_or codes (at + i) 0)) → at + k ≤ length counts → sum counts < 2 ^ 64
    → total + part < 2 ^ 64
step_fits mask want at k total part counts codes et ep le room =
    let a = sum_below-add at k (λ i. if_matched mask want (get_or counts i 0) (get_or codes i 0)) in
    let b = matched_le mask want (at + k) counts codes le in
    omega (arith, a, b, et, ep)
