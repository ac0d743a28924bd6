-- Names with equal keys are equal.
use Rattle.std.proofs.Common.{◌≡◌, ℕ, suc, ◌+◌, ◌*◌, ◌^◌, ◌<◌, ◌≤◌, Bool, true, false, List, [], ◌∷◌, ◌++◌, length, length-append, get_or}
use Rattle.std.proofs.Common.{set, Some, inl, inr, refl, sym, ap, subst, ◌∙◌, arith}
use Rattle.std.specs.Prelude.{nat_lt, nat_eq, slice_get, slice_index, if◌then◌else◌}
use Rattle.std.specs.Str.{bytes_eq}
use Rattle.std.specs.Cmp.{both_ways}
use Rattle.std.proofs.lemmas.Bool.{le-ltb, ltb-false, eqb-true, eq-eqb, cases_lt}
use Rattle.std.proofs.lemmas.List.{get_or_append_left, get_or-set_same, get_or-set_other}
use Rattle.std.proofs.lemmas.Option.{get_or_from_slice_get}
use Rattle.std.proofs.lemmas.Slice.Eq.{bytes_eq-Decides}
use Rattle.std.proofs.Math.Seq.{get_or-append_seam}
use Rattle.std.proofs.Math.Nat.{pow-suc, pow-le-pow_right}
use Rattle.mixed_graph.specs.NameKeys.{digits_on, key_of, AreBytes, AreKeys}

-- the first of these numbers, and the rest of them
first_byte : (b : ℕ) (bs : List ℕ) → AreBytes (b ∷ bs) → b < 256
first_byte b bs all = all 0 0 (omega arith)

rest_bytes : (b : ℕ) (bs : List ℕ) → AreBytes (b ∷ bs) → AreBytes bs
rest_bytes b bs all = λ k d lt. all (suc k) d (omega (arith, lt))

-- digits in front of n further ones
below_more : (n m b : ℕ) → n < 256 ^ m → b < 256 → n * 256 + b < 256 ^ suc m
below_more n m b lt small = let e = pow-suc 256 m in omega (arith, e, lt, small)

-- so many digits stay below a power of the base
pub digits-below : (n m : ℕ) (bs : List ℕ) → n < 256 ^ m → AreBytes bs → digits_on n bs < 256 ^ (m + length bs)
digits-below n m [] lt all = subst (λ k. n < 256 ^ k) {x = m} {y = m + 0} (omega arith) lt
digits-below n m (b ∷ bs) lt all =
    subst (λ k. digits_on (n * 256 + b) bs < 256 ^ k) {x = suc m + length bs} {y = m + suc (length bs)} (omega arith)
    (digits-below (n * 256 + b) (suc m) bs (below_more n m b lt (first_byte b bs all)) (rest_bytes b bs all))

-- as many digits that make the same number are the same
pub same-digits : (n m : ℕ) (xs ys : List ℕ) → length xs ≡ length ys → AreBytes xs → AreBytes ys → digits_on n xs ≡ digits_on m ys → (n ≡ m) × (xs ≡ ys)
same-digits n m [] [] long x y e = (e, refl)
same-digits n m [] (b ∷ ys) long x y e = absurd (omega (arith, long))
same-digits n m (a ∷ xs) [] long x y e = absurd (omega (arith, long))
same-digits n m (a ∷ xs) (b ∷ ys) long x y e =
    let rest = same-digits (n * 256 + a) (m * 256 + b) xs ys (omega (arith, long)) (rest_bytes a xs x) (rest_bytes b ys y) e in
    let hx = first_byte a xs x in
    let hy = first_byte b ys y in
    let heads = rest.0 in
    let first : a ≡ b = omega (arith, heads, hx, hy) in
    (omega (arith, heads, hx, hy), ap (λ k. k ∷ xs) first ∙ ap (λ l. b ∷ l) rest.1)

-- the digits of a short name
pub few : (name : List ℕ) → length name ≤ 7 → AreBytes name → digits_on 0 name < 72057594037927936
few name short all =
    let d : digits_on 0 name < 256 ^ length name = subst (λ k. digits_on 0 name < 256 ^ k) {x = 0 + length name} {y = length name} (omega arith)
    (digits-below 0 0 name (omega arith) all) in
    let p : 256 ^ length name ≤ 256 ^ 7 = pow-le-pow_right {n = 256} (omega arith) short in
    omega (arith, d, p)

-- the key of a short name
key_short : (name : List ℕ) → length name ≤ 7 → key_of name ≡ length name * 72057594037927936 + digits_on 0 name
key_short name short = ap (λ b. if b then 0 else length name * 72057594037927936 + digits_on 0 name) (le-ltb 7 (length name) short)

-- a name with a key is short
short : (name : List ℕ) → (key_of name ≡ 0 → ⊥) → length name ≤ 7
short name some = go (nat_lt 7 (length name)) refl
  where
    go : (b : Bool) → nat_lt 7 (length name) ≡ b → length name ≤ 7
    go true e = absurd (some (ap (λ b. if b then 0 else length name * 72057594037927936 + digits_on 0 name) e))
    go false e = ltb-false 7 (length name) e

-- names with one key are one name
pub same-key : (xs ys : List ℕ) → (key_of xs ≡ 0 → ⊥) → AreBytes xs → AreBytes ys → key_of xs ≡ key_of ys → xs ≡ ys
same-key xs ys some x y e =
    let sx = short xs some in
    let sy = short ys (λ z. some (e ∙ z)) in
    let fx = few xs sx x in
    let fy = few ys sy y in
    let h = sym (key_short xs sx) ∙ e ∙ key_short ys sy in
    (same-digits 0 0 xs ys (omega (arith, h, fx, fy)) x y (omega (arith, h, fx, fy))).1

-- at a place of these names, the key tells whether a name is the one that stands there
pub key_tells : (keys : List ℕ) (names : List (List ℕ)) (name : List ℕ) (i : ℕ) → AreKeys keys names → i < length names → (key_of name ≡ 0 → ⊥) → AreBytes name
    → nat_eq (slice_index keys i) (key_of name) ≡ bytes_eq name (get_or names i [])
key_tells keys names name i are below some bytes = both_ways (nat_eq (slice_index keys i) (key_of name)) (bytes_eq name (get_or names i []))
    (λ t.
    let e : key_of name ≡ key_of (get_or names i []) = sym (eqb-true (slice_index keys i) (key_of name) t) ∙ are.same i below in
    (bytes_eq-Decides name (get_or names i [])).1
    (same-key name (get_or names i []) some bytes (are.bytes i below (λ z. some (e ∙ z))) e))
    (λ t. eq-eqb (slice_index keys i) (key_of name)
    (are.same i below ∙ ap key_of (sym ((bytes_eq-Decides name (get_or names i [])).0 t))))

-- the name that was got at a place is compared with another
pub bytes_tell : (names : List (List ℕ)) (name at : List ℕ) (i : ℕ) → slice_get names i ≡ Some at → bytes_eq at name ≡ bytes_eq name (get_or names i [])
bytes_tell names name at i here =
    let found : get_or names i [] ≡ at = get_or_from_slice_get names i at [] here in
    both_ways (bytes_eq at name) (bytes_eq name (get_or names i []))
    (λ t. (bytes_eq-Decides name (get_or names i [])).1 (sym (found ∙ (bytes_eq-Decides at name).0 t)))
    (λ t. (bytes_eq-Decides at name).1 (sym found ∙ sym ((bytes_eq-Decides name (get_or names i [])).0 t)))

-- the keys with that of a name that is added last
pub keys-more : (keys : List ℕ) (names : List (List ℕ)) (name : List ℕ) (n : ℕ) → length names ≡ n → n < length keys → AreKeys keys names
    → ((key_of name ≡ 0 → ⊥) → AreBytes name) → AreKeys (set keys n (key_of name)) (names ++ name ∷ [])
keys-more keys names name n long room are bytes = record {
  same = λ i below. elim (cases_lt i n) [
    | inl low ↦ get_or-set_other keys n i (key_of name) 0 (omega (arith, low))
        ∙ are.same i (omega (arith, low, long))
        ∙ ap key_of (sym (get_or_append_left names (name ∷ []) [] i (omega (arith, low, long))))
    | inr top ↦
        let here : i ≡ n = (let l = length-append names (name ∷ []) in omega (arith, l, long, below, top)) in
        ap (λ k. slice_index (set keys n (key_of name)) k) here
        ∙ get_or-set_same keys n (key_of name) 0 room
        ∙ ap key_of (sym (last i here))
  ];
  bytes = λ i below some. elim (cases_lt i n) [
    | inl low ↦
        let e = get_or_append_left names (name ∷ []) [] i (omega (arith, low, long)) in
        subst AreBytes (sym e) (are.bytes i (omega (arith, low, long)) (λ z. some (ap key_of e ∙ z)))
    | inr top ↦
        let here : i ≡ n = (let l = length-append names (name ∷ []) in omega (arith, l, long, below, top)) in
        subst AreBytes (sym (last i here)) (bytes (λ z. some (ap key_of (last i here) ∙ z)))
  ];
}
  where
    last : (i : ℕ) → i ≡ n → get_or (names ++ name ∷ []) i [] ≡ name
    last i here = ap (λ k. get_or (names ++ name ∷ []) k []) (here ∙ sym long) ∙ get_or-append_seam names name [] []
