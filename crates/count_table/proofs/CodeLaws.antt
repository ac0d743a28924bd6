-- Under the mask of a set, the codes of two cells are one exactly where they agree on it.
use Rattle.std.proofs.Common.{ℕ, zero, suc, ◌+◌, ◌*◌, ◌-◌, ◌/◌, ◌^◌, ◌≡◌, ◌<◌, ◌≤◌, max, Bool, true, false, ◌&&◌, ◌||◌, not, cond, eqb, IsTrue, List}
use Rattle.std.proofs.Common.{[], ◌∷◌, ◌++◌, map, All, refl, sym, ap, ◌∙◌, inl, inr, lit<, arith, bit_and, nat_le, mod-eq_of_lt}
use Rattle.std.specs.List.{flat_map, range_with_len}
use Rattle.std.proofs.lemmas.List.{map-append}
use Rattle.std.proofs.lemmas.List.Elements.{All-head, All-tail}
use Rattle.std.proofs.lemmas.Bool.{cases_eq, cases_lt, eq-eqb, ne_eqb}
use Rattle.std.proofs.lemmas.Bool.Decides.{eqb_tells}
use Rattle.std.proofs.lemmas.Nat.{and_block, and_mask, and_le_l, pow_pos, pow-add, mul-le}
use Rattle.std.proofs.lemmas.List.Sums.{sum_by-cons}
use Rattle.std.specs.Int.Bits.{and_zero_r}
use Rattle.std.proofs.Math.Nat.{mul-le-mul_right, pow-le-pow_right}
use Rattle.count_rows.specs.Vocabulary.{product, agrees}
use Rattle.count_table.specs.Cells.{cells_of, IsCell}
use Rattle.count_table.specs.Codes.{bits_for, room, code_bits, code_of_cell, mask_under, code_under}
use Rattle.count_table.proofs.CellLists.{below_product, fronted}

-- ---- the room of a field

fit_step : (b : Bool) (k n : ℕ) → nat_le n (2 ^ k) ≡ b → (n ≤ 2 ^ k → n ≤ 2 ^ bits_for k n) → n ≤ 2 ^ suc k → n ≤ 2 ^ cond b (bits_for k n) (suc k)
fit_step true k n e f h = f (grind (arith, e))
fit_step false k n e f h = h

bits-fit : (k n : ℕ) → n ≤ 2 ^ k → n ≤ 2 ^ bits_for k n
unfolding bits_for
bits-fit zero n h = h
bits-fit (suc k) n h = fit_step (nat_le n (2 ^ k)) k n refl (bits-fit k n) h

least_step : (b : Bool) (k n j : ℕ) → nat_le n (2 ^ k) ≡ b → (bits_for k n ≡ suc j → 2 ^ j < n) → cond b (bits_for k n) (suc k) ≡ suc j → 2 ^ j < n
least_step true k n j e f h = f h
least_step false k n j e f h =
    let over : 2 ^ k < n = grind (arith, e) in
    let same : 2 ^ k ≡ 2 ^ j = ap (λ i. 2 ^ i) (let q : k ≡ j = omega (arith, h) in q) in
    omega (arith, over, same)

bits-least : (k n j : ℕ) → bits_for k n ≡ suc j → 2 ^ j < n
unfolding bits_for
bits-least zero n j h = absurd (omega (arith, h))
bits-least (suc k) n j h = least_step (nat_le n (2 ^ k)) k n j refl (bits-least k n j) h

most_step : (b : Bool) (k m : ℕ) → m ≤ k → cond b m (suc k) ≤ suc k
most_step true k m h = omega arith
most_step false k m h = omega arith

bits-most : (k n : ℕ) → bits_for k n ≤ k
unfolding bits_for
bits-most zero n = omega arith
bits-most (suc k) n = most_step (nat_le n (2 ^ k)) k (bits_for k n) (bits-most k n)

below_power : (i j : ℕ) → i ≤ j → 2 ^ i ≤ 2 ^ j
below_power i j h = pow-le-pow_right (lit< tt) h

pub room-fits : (n : ℕ) → n ≤ 2 ^ 20 → n ≤ room n
unfolding room
room-fits n h = bits-fit 20 n h

pub room-most : (n : ℕ) → room n ≤ 2 ^ 20
unfolding room
room-most n = below_power (bits_for 20 n) 20 (bits-most 20 n)

pub room-pos : (n : ℕ) → 0 < room n
unfolding room
room-pos n = pow_pos (bits_for 20 n)

half_power : (i : ℕ) → 2 ^ suc i / 2 ≡ 2 ^ i
half_power i = omega arith

smaller : (i w n : ℕ) → n ≤ 2 ^ suc i → ((j : ℕ) → w ≡ suc j → 2 ^ j < n) → suc i < w → ⊥
smaller i zero n fit least lt = omega arith
smaller i (suc j) n fit least lt =
    let less = least j refl in
    let up = below_power (suc i) j (omega arith) in
    omega (arith, less, up)

same_bits : (m w n : ℕ) → 0 < n → n ≤ 2 ^ m → 2 ^ m / 2 < max 1 n → n ≤ 2 ^ w → ((j : ℕ) → w ≡ suc j → 2 ^ j < n) → m ≡ w
same_bits zero zero n pos fit half over least = refl
same_bits zero (suc j) n pos fit half over least =
    let less = least j refl in
    let one = below_power 0 j (omega arith) in
    absurd (omega (arith, less, one))
same_bits (suc i) w n pos fit half over least = elim (cases_lt i w) [
  | inl less ↦ elim (cases_eq (suc i) w) [
    | inl e ↦ e
    | inr ne ↦ absurd (smaller i w n fit least (omega (arith, ne)))
  ]
  | inr le ↦
      let h = half_power i in
      let up = below_power w i (omega arith) in
      absurd (omega (arith, h, up))
]

-- the least power of two that is at least n
pub room-is : (p m n : ℕ) → p ≡ 2 ^ m → 0 < n → n ≤ 2 ^ 20 → n ≤ p → p / 2 < max 1 n → p ≡ room n
unfolding room
room-is p m n e pos few fit half =
    e ∙ ap (λ i. 2 ^ i) (same_bits m (bits_for 20 n) n pos (rw (sym e) fit) (rw (sym e) half) (bits-fit 20 n few) (λ j h. bits-least 20 n j h))

square_over : (n : ℕ) → 0 < n → 2 * n ≤ n * n + 1
square_over (suc zero) h = omega arith
square_over zero h = absurd (omega arith)
square_over (suc (suc n)) h = let m : 2 * suc (suc n) ≤ suc (suc n) * suc (suc n) =
    mul-le-mul_right (suc (suc n)) (let q : 2 ≤ suc (suc n) = omega arith in q) in omega (arith, m)

square_step : (w n : ℕ) → 0 < n → ((j : ℕ) → w ≡ suc j → 2 ^ j < n) → 2 ^ w ≤ n * n
square_step zero n pos least = let s = square_over n pos in omega (arith, s)
square_step (suc j) n pos least =
    let less = least j refl in
    let s = square_over n pos in
    omega (arith, less, s)

room-square : (n : ℕ) → 0 < n → room n ≤ n * n
unfolding room
room-square n pos = square_step (bits_for 20 n) n pos (λ j h. bits-least 20 n j h)

-- ---- the bounds of codes

-- numbers of levels, from 1 to 2 ^ 20
abbrev pub Sized : List ℕ → Type 0
Sized [] = Unit {0}
Sized (n ∷ ns) = (0 < n) × (n ≤ 2 ^ 20) × Sized ns

-- one more than the highest code
abbrev pub rooms : List ℕ → ℕ
rooms ns = product (map room ns)

product-pos : (ns : List ℕ) → All (λ n. 0 < n) ns → 0 < product ns
product-pos [] h = omega arith
product-pos (n ∷ ns) h =
    let m : 1 * 1 ≤ n * product ns = mul-le 1 1 n (product ns) (All-head (λ k. 0 < k) n ns h) (product-pos ns (All-tail (λ k. 0 < k) n ns h)) in
    omega (arith, m)

pub rooms-pos : (ns : List ℕ) → 0 < rooms ns
rooms-pos [] = omega arith
rooms-pos (n ∷ ns) =
    let m : 1 * 1 ≤ room n * rooms ns = mul-le 1 1 (room n) (rooms ns) (room-pos n) (rooms-pos ns) in
    omega (arith, m)

factors : (n p m : ℕ) → 0 < n → 0 < p → n * p ≤ m → (n ≤ m) × (p ≤ m)
factors n p m hn hp h =
    let a : n * 1 ≤ n * p = mul-le n 1 n p (omega arith) hp in
    let b : 1 * p ≤ n * p = mul-le 1 p n p hn (omega arith) in
    (omega (arith, a), omega (arith, b))

pub sized : (ns : List ℕ) → All (λ n. 0 < n) ns → product ns ≤ 2 ^ 20 → Sized ns
sized [] h few = tt
sized (n ∷ ns) h few =
    let pos = All-head (λ k. 0 < k) n ns h in
    let rest = All-tail (λ k. 0 < k) n ns h in
    let (a, b) = factors n (product ns) (2 ^ 20) pos (product-pos ns rest) few in
    (pos, a, sized ns rest b)

squares : (n p : ℕ) → (n * n) * (p * p) ≡ (n * p) * (n * p)
squares n p = grind arith

rooms-square : (ns : List ℕ) → Sized ns → rooms ns ≤ product ns * product ns
rooms-square [] h = omega arith
rooms-square (n ∷ ns) (pos, few, rest) =
    let m : room n * rooms ns ≤ (n * n) * (product ns * product ns) = mul-le (room n) (rooms ns) (n * n) (product ns * product ns) (room-square n pos)
    (rooms-square ns rest) in
    let e : (n * n) * (product ns * product ns) ≡ (n * product ns) * (n * product ns) = squares n (product ns) in
    omega (arith, m, e)

pub rooms-small : (ns : List ℕ) → Sized ns → product ns ≤ 2 ^ 20 → rooms ns ≤ 2 ^ 40
rooms-small ns h few =
    let a = rooms-square ns h in
    let b : product ns * product ns ≤ 2 ^ 20 * 2 ^ 20 = mul-le (product ns) (product ns) (2 ^ 20) (2 ^ 20) few few in
    omega (arith, a, b)

rooms-bits : (ns : List ℕ) → rooms ns ≡ 2 ^ code_bits ns
unfolding room
rooms-bits [] = refl
rooms-bits (n ∷ ns) = ap (λ k. 2 ^ bits_for 20 n * k) (rooms-bits ns) ∙ sym (pow-add 2 (bits_for 20 n) (code_bits ns))
    ∙ ap (λ k. 2 ^ k) (sym (sum_by-cons (bits_for 20) n ns))

pub bits-few : (ns : List ℕ) → Sized ns → product ns ≤ 2 ^ 20 → code_bits ns ≤ 40
bits-few ns h few = elim (cases_lt 40 (code_bits ns)) [
  | inl lt ↦ absurd (
      let up = below_power 41 (code_bits ns) (omega (arith, lt)) in
      let e = rooms-bits ns in
      let small = rooms-small ns h few in
      omega (arith, up, e, small)
      )
  | inr le ↦ omega (arith, le)
]

pub code_of_cell-lt : (ns xs : List ℕ) → Sized ns → IsCell ns xs → code_of_cell ns xs < rooms ns
unfolding code_of_cell
code_of_cell-lt [] xs h c = omega arith
code_of_cell-lt (n ∷ ns) [] h c = absurd c
code_of_cell-lt (n ∷ ns) (x ∷ xs) (pos, few, rest) (lt, cell) =
    let fits = room-fits n few in
    let b = below_product (code_of_cell ns xs) (rooms ns) (room n) x (code_of_cell-lt ns xs rest cell) (omega (arith, lt, fits)) in
    omega (arith, b)

-- the values of the members of a set are below these numbers of levels
abbrev pub AreBelow : List ℕ → List ℕ → (ℕ → Bool) → (ℕ → ℕ) → Type 0
AreBelow [] ns of at = Unit {0}
AreBelow (v ∷ vs) [] of at = Unit {0}
AreBelow (v ∷ vs) (n ∷ ns) of at = (IsTrue (of v) → at v < n) × AreBelow vs ns of at

kept-lt : (b : Bool) (m r : ℕ) → 0 < r → (IsTrue b → m < r) → cond b m 0 < r
kept-lt true m r pos h = h refl
kept-lt false m r pos h = pos

pub mask_under-lt : (vs ns : List ℕ) (of : ℕ → Bool) → mask_under vs ns of < rooms ns
unfolding mask_under
mask_under-lt [] [] of = omega arith
mask_under-lt [] (n ∷ ns) of = rooms-pos (n ∷ ns)
mask_under-lt (v ∷ vs) [] of = omega arith
mask_under-lt (v ∷ vs) (n ∷ ns) of =
    let pos = room-pos n in
    let b = below_product (mask_under vs ns of) (rooms ns) (room n) (cond (of v) (room n - 1) 0) (mask_under-lt vs ns of)
    (kept-lt (of v) (room n - 1) (room n) pos (λ _. omega (arith, pos))) in
    omega (arith, b)

pub code_under-lt : (vs ns : List ℕ) (of : ℕ → Bool) (at : ℕ → ℕ) → Sized ns → AreBelow vs ns of at → code_under vs ns of at < rooms ns
unfolding code_under
code_under-lt [] ns of at h i = rooms-pos ns
code_under-lt (v ∷ vs) [] of at h i = omega arith
code_under-lt (v ∷ vs) (n ∷ ns) of at (pos, few, rest) (lt, more) =
    let room_pos = room-pos n in
    let fits = room-fits n few in
    let b = below_product (code_under vs ns of at) (rooms ns) (room n) (cond (of v) (at v) 0) (code_under-lt vs ns of at rest more)
    (kept-lt (of v) (at v) (room n) room_pos (λ t. let l = lt t in omega (arith, l, fits))) in
    omega (arith, b)

-- ---- codes tell which cells agree

block_less : (a b p q r : ℕ) → p < r → a < b → a * r + p < b * r + q
block_less a b p q r hp lt = let m : suc a * r ≤ b * r = mul-le-mul_right r lt in omega (arith, m)

blocks_same : (a b p q r : ℕ) → p < r → q < r → a * r + p ≡ b * r + q → a ≡ b
blocks_same a b p q r hp hq e = elim (cases_lt a b) [
  | inl lt ↦ absurd (let l = block_less a b p q r hp lt in omega (arith, l, e))
  | inr le ↦ elim (cases_lt b a) [
    | inl lt ↦ absurd (let l = block_less b a q p r hq lt in omega (arith, l, e))
    | inr ge ↦ omega (arith, le, ge)
  ]
]

offsets_same : (a b p q r : ℕ) → p < r → q < r → a * r + p ≡ b * r + q → p ≡ q
offsets_same a b p q r hp hq e = let s : a * r ≡ b * r = ap (λ i. i * r) (blocks_same a b p q r hp hq e) in omega (arith, s, e)

eqb_fields : (a b p q r : ℕ) → p < r → q < r → eqb (a * r + p) (b * r + q) ≡ (eqb p q && eqb a b)
eqb_fields a b p q r hp hq = elim (eqb_tells p q) [
  | inl same ↦ elim (eqb_tells a b) [
    | inl e ↦ eq-eqb (a * r + p) (b * r + q) (ap (λ i. i * r + p) e.1 ∙ ap (λ i. b * r + i) same.1) ∙ sym (ap (λ i. i && eqb a b) same.0 ∙ e.0)
    | inr ne ↦ ne_eqb (a * r + p) (b * r + q) (λ e. ne.1 (blocks_same a b p q r hp hq e)) ∙ sym (ap (λ i. i && eqb a b) same.0 ∙ ne.0)
  ]
  | inr other ↦ ne_eqb (a * r + p) (b * r + q) (λ e. other.1 (offsets_same a b p q r hp hq e)) ∙ sym (ap (λ i. i && eqb a b) other.0)
]

field_agrees : (b : Bool) (x a n : ℕ) (rest : Bool) → x < n → n ≤ 2 ^ 20 → eqb (bit_and x (cond b (room n - 1) 0)) (cond b a 0) && rest
    ≡ ((not b || eqb x a) && rest)
unfolding room
field_agrees true x a n rest lt few =
    ap (λ i. eqb i a && rest) (and_mask x (bits_for 20 n) ∙ mod-eq_of_lt (let fits = bits-fit 20 n few in omega (arith, fits)))
field_agrees false x a n rest lt few = ap (λ i. eqb i 0 && rest) (and_zero_r x)

code_fields : (n c m x s : ℕ) → x < room n → s < room n → bit_and (c * room n + x) (m * room n + s) ≡ bit_and c m * room n + bit_and x s
unfolding room
code_fields n c m x s hx hs = and_block (bits_for 20 n) c m x s hx hs

pub codes_tell : (vs ns xs : List ℕ) (of : ℕ → Bool) (at : ℕ → ℕ) → Sized ns → IsCell ns xs → AreBelow vs ns of at
    → eqb (bit_and (code_of_cell ns xs) (mask_under vs ns of)) (code_under vs ns of at) ≡ agrees vs xs of at
unfolding code_of_cell mask_under code_under
codes_tell [] ns xs of at h c i = ap (λ k. eqb k 0) (and_zero_r (code_of_cell ns xs))
codes_tell (v ∷ vs) [] [] of at h c i = refl
codes_tell (v ∷ vs) [] (x ∷ xs) of at h c i = absurd c
codes_tell (v ∷ vs) (n ∷ ns) [] of at h c i = absurd c
codes_tell (v ∷ vs) (n ∷ ns) (x ∷ xs) of at (pos, few, sized_rest) (lt, cell) (in_range, more) =
    let fits = room-fits n few in
    let room_pos = room-pos n in
    let low : x < room n = omega (arith, lt, fits) in
    let s = cond (of v) (room n - 1) 0 in
    let mask_low : s < room n = kept-lt (of v) (room n - 1) (room n) room_pos (λ _. omega (arith, room_pos)) in
    let value_low : cond (of v) (at v) 0 < room n = kept-lt (of v) (at v) (room n) room_pos (λ t. let l = in_range t in omega (arith, l, fits)) in
    let and_low : bit_and x s < room n = (let le = and_le_l x s in omega (arith, le, low)) in
    ap (λ k. eqb k (code_under vs ns of at * room n + cond (of v) (at v) 0)) (code_fields n (code_of_cell ns xs) (mask_under vs ns of) x s low mask_low)
    ∙ eqb_fields (bit_and (code_of_cell ns xs) (mask_under vs ns of)) (code_under vs ns of at) (bit_and x s) (cond (of v) (at v) 0) (room n) and_low value_low
    ∙ field_agrees (of v) x (at v) n (eqb (bit_and (code_of_cell ns xs) (mask_under vs ns of)) (code_under vs ns of at)) lt few
    ∙ ap (λ b. (not (of v) || eqb x (at v)) && b) (codes_tell vs ns xs of at sized_rest cell more)

-- ---- one more field in front

map_map : (f g : List ℕ → ℕ) (h : ℕ → ℕ) (w : List ℕ → List ℕ) (cells : List (List ℕ)) → ((c : List ℕ) → f (w c) ≡ h (g c)) → map f (map w cells)
    ≡ map h (map g cells)
map_map f g h w [] e = refl
map_map f g h w (c ∷ cs) e = ap (λ k. k ∷ map f (map w cs)) (e c) ∙ ap (λ (l : List ℕ). h (g c) ∷ l) (map_map f g h w cs e)

code_front : (n k : ℕ) (ns c : List ℕ) → code_of_cell (n ∷ ns) (k ∷ c) ≡ code_of_cell ns c * room n + k
unfolding code_of_cell
code_front n k ns c = refl

fronted_codes : (n a m : ℕ) (ns : List ℕ) (cells : List (List ℕ)) → map (code_of_cell (n ∷ ns)) (fronted cells a m)
    ≡ flat_map (λ k. map (λ code. code * room n + k) (map (code_of_cell ns) cells)) (range_with_len a m)
fronted_codes n a zero ns cells = refl
fronted_codes n a (suc m) ns cells =
    map-append (code_of_cell (n ∷ ns)) (map (λ (cell : List ℕ). a ∷ cell) cells) (fronted cells (a + 1) m)
    ∙ ap (λ (l : List ℕ). l ++ map (code_of_cell (n ∷ ns)) (fronted cells (a + 1) m))
    (map_map (code_of_cell (n ∷ ns)) (code_of_cell ns) (λ code. code * room n + a) (λ (cell : List ℕ). a ∷ cell) cells (λ c. code_front n a ns c))
    ∙ ap (λ (l : List ℕ). map (λ code. code * room n + a) (map (code_of_cell ns) cells) ++ l) (fronted_codes n (a + 1) m ns cells)

pub codes_step : (n : ℕ) (ns : List ℕ) → map (code_of_cell (n ∷ ns)) (cells_of (n ∷ ns))
    ≡ flat_map (λ k. map (λ code. code * room n + k) (map (code_of_cell ns) (cells_of ns))) (range_with_len 0 n)
unfolding cells_of
codes_step n ns = fronted_codes n 0 n ns (cells_of ns)

pub codes_none : map (code_of_cell []) (cells_of []) ≡ 0 ∷ []
unfolding cells_of code_of_cell
codes_none = refl
