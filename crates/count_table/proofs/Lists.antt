-- Lists of members, and products of numbers of levels.
use Rattle.std.proofs.Common.{ℕ, zero, suc, ◌+◌, ◌*◌, ◌≡◌, ◌≢◌, ◌<◌, ◌≤◌, Bool, true, false, ◌&&◌, cond, List, []}
use Rattle.std.proofs.Common.{◌∷◌, ◌++◌, length, get_or, map, drop, All, refl, sym, ap, subst, ◌∙◌, inl, inr, arith, length-drop}
use Rattle.std.specs.List.{AllPairs, filter}
use Rattle.std.proofs.lemmas.Bool.{cases_eq}
use Rattle.std.proofs.lemmas.List.{get_or-map, get_or-drop, get_or_default, map-append}
use Rattle.std.proofs.lemmas.List.Elements.{All-head, All-tail, filter-append}
use Rattle.std.proofs.lemmas.Nat.{mul-le}
use Rattle.mixed_graph.specs.Vocabulary.{members_below}
use Rattle.count_rows.specs.Vocabulary.{product}

-- ---- lists that a function makes

-- functions that agree on each element make one list
pub map-same : (f g : ℕ → ℕ) (xs : List ℕ) → All (λ u. f u ≡ g u) xs → map f xs ≡ map g xs
map-same f g [] h = refl
map-same f g (x ∷ xs) h =
    ap (λ n. n ∷ map f xs) (All-head (λ u. f u ≡ g u) x xs h) ∙ ap (λ (l : List ℕ). g x ∷ l) (map-same f g xs (All-tail (λ u. f u ≡ g u) x xs h))

-- and the other way round
pub same-map : (f g : ℕ → ℕ) (xs : List ℕ) → map f xs ≡ map g xs → All (λ u. f u ≡ g u) xs
same-map f g xs e i d lt = sym (get_or-map f xs i d 0 lt) ∙ ap (λ (l : List ℕ). get_or l i 0) e ∙ get_or-map g xs i d 0 lt

-- an element of an ascending list is none of the later ones
pub later : (xs : List ℕ) (i : ℕ) → i < length xs → AllPairs (λ a b. a < b) xs → All (λ u. u ≢ get_or xs i 0) (drop (i + 1) xs)
later xs i lt h j d less =
    let e = get_or-drop (i + 1) xs j d in
    let n = length-drop (i + 1) xs in
    let one : get_or xs i d < get_or xs (i + 1 + j) d = h i (i + 1 + j) d (omega arith) (omega (arith, n, less)) in
    let same = get_or_default xs i d 0 lt in
    λ bad. omega (arith, e, one, same, bad)

-- ---- products

-- a product of positive numbers is positive
pub product-pos : (ns : List ℕ) → All (λ n. 0 < n) ns → 0 < product ns
product-pos [] h = omega arith
product-pos (n ∷ ns) h =
    let m : 1 * 1 ≤ n * product ns = mul-le 1 1 n (product ns) (All-head (λ k. 0 < k) n ns h) (product-pos ns (All-tail (λ k. 0 < k) n ns h)) in
    omega (arith, m)

regroup : (a b c : ℕ) → a * (b * c) ≡ (a * b) * c
regroup a b c = grind arith

-- the product of two lists, one behind the other, is the product of their products
pub product-append : (ms ns : List ℕ) → product (ms ++ ns) ≡ product ms * product ns
product-append [] ns = omega arith
product-append (m ∷ ms) ns = ap (λ k. m * k) (product-append ms ns) ∙ regroup m (product ms) (product ns)

-- some of the factors, each of which is at least 1
pub product-filter : (p : ℕ → Bool) (f : ℕ → ℕ) (vs : List ℕ) → All (λ v. 0 < f v) vs → product (map f (filter p vs)) ≤ product (map f vs)
product-filter p f [] h = omega arith
product-filter p f (v ∷ vs) h = step (p v) (product-filter p f vs (All-tail (λ u. 0 < f u) v vs h))
  where
    step : (b : Bool) → product (map f (filter p vs)) ≤ product (map f vs) → product (map f (cond b (v ∷ filter p vs) (filter p vs))) ≤ f v * product (map f vs)
    step true le = mul-le (f v) (product (map f (filter p vs))) (f v) (product (map f vs)) (omega arith) le
    step false le =
        let m : 1 * product (map f (filter p vs)) ≤ f v * product (map f vs) =
        mul-le 1 (product (map f (filter p vs))) (f v) (product (map f vs)) (All-head (λ u. 0 < f u) v vs h) le in
        omega (arith, m)

-- ---- members of a set

-- the members of a set that are in another one
pub members-both : (s p q : ℕ → Bool) (k : ℕ) → ((v : ℕ) → q v ≡ (s v && p v)) → members_below q k ≡ filter p (members_below s k)
unfolding members_below
members-both s p q zero h = refl
members-both s p q (suc k) h =
    ap (λ (l : List ℕ). l ++ cond (q k) (k ∷ []) []) (members-both s p q k h)
    ∙ ap (λ (l : List ℕ). filter p (members_below s k) ++ l) (ap (λ b. cond b (k ∷ []) []) (h k) ∙ one (s k))
    ∙ sym (filter-append p (members_below s k) (cond (s k) (k ∷ []) []))
  where
    here : (b : Bool) → ◌≡◌ {A = List ℕ} (cond b (k ∷ []) []) (cond b (k ∷ []) [])
    here b = refl

    one : (b : Bool) → cond (b && p k) (k ∷ []) [] ≡ filter p (cond b (k ∷ []) [])
    one true = here (p k)
    one false = refl

-- the product over the members below one number more
pub product-members : (q : ℕ → Bool) (f : ℕ → ℕ) (k : ℕ) → product (map f (members_below q (suc k))) ≡ product (map f (members_below q k)) * cond (q k) (f k) 1
unfolding members_below
product-members q f k =
    ap product (map-append f (members_below q k) (cond (q k) (k ∷ []) []))
    ∙ product-append (map f (members_below q k)) (map f (cond (q k) (k ∷ []) []))
    ∙ ap (λ n. product (map f (members_below q k)) * n) (one (q k))
  where
    one : (b : Bool) → product (map f (cond b (k ∷ []) [])) ≡ cond b (f k) 1
    one true = omega arith
    one false = refl

pub members-grow : (q : ℕ → Bool) (f : ℕ → ℕ) (k n : ℕ) → k ≤ n → ((v : ℕ) → q v ≡ true → v < n → 0 < f v)
    → product (map f (members_below q k)) ≤ product (map f (members_below q n))
members-grow q f k zero le h = ap-le (let e : k ≡ zero = omega arith in e)
  where
    ap-le : {a b : ℕ} → a ≡ b → product (map f (members_below q a)) ≤ product (map f (members_below q b))
    ap-le {a} {b} e = subst (λ m. product (map f (members_below q a)) ≤ product (map f (members_below q m))) e (omega arith)
members-grow q f k (suc n) le h = elim (cases_eq k (suc n)) [
  | inl e ↦ subst (λ m. product (map f (members_below q k)) ≤ product (map f (members_below q m))) e (omega arith)
  | inr ne ↦
      let rest = members-grow q f k n (omega (arith, ne)) (λ v t lt. h v t (omega arith)) in
      let e = product-members q f n in
      let m : product (map f (members_below q n)) * 1 ≤ product (map f (members_below q n)) * cond (q n) (f n) 1 =
      mul-le (product (map f (members_below q n))) 1 (product (map f (members_below q n))) (cond (q n) (f n) 1) (omega arith)
      (some (q n) (λ t. h n t (omega arith))) in
      omega (arith, rest, e, m)
]
  where
    some : (b : Bool) → (b ≡ true → 0 < f n) → 1 ≤ cond b (f n) 1
    some true g = g refl
    some false g = omega arith
