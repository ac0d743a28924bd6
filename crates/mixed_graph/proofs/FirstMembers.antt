use Rattle.std.proofs.Common.{◌≡◌, ℕ, zero, suc, ◌<◌, ◌≤◌, ◌^◌, Bool, true, false, not, ◌&&◌, ◌==◌, List, [], ◌∷◌, inl, inr, refl, sym, ap, ◌∙◌}
use Rattle.std.proofs.Common.{IsTrue, arith, nat_lt, w64}
use Rattle.std.specs.Int.{trailing_zeros}
use Rattle.std.specs.Ordering.{nat_cmp}
use Rattle.std.specs.Cmp.Lexicographic.{slice_cmp}
use Rattle.std.specs.declared.cmp.Ordering.TheVariants.{Less, Greater}
use Rattle.std.proofs.lemmas.Bool.{cases_Bool, cases_eq, eq-eqb, ne_eqb, lt-ltb, le-ltb}
use Rattle.mixed_graph.specs.Bits.{has, members_below}
use Rattle.mixed_graph.proofs.Masks.{has-zero, has-lowest, lowest_le, lowest_below}

pub members-none : (s : ℕ → Bool) (k : ℕ) → ((u : ℕ) → u < k → s u ≡ false) → members_below s k ≡ []
unfolding members_below
members-none s zero h = refl
members-none s (suc k) h = let e = members-none s k (λ u l. h u (omega arith)) in let o = h k (omega arith) in rw (e, o) refl

-- the lowest member comes first, and then the members of the rest
pub members-first : (s t : ℕ → Bool) (v k : ℕ) → v < k → s v ≡ true → ((u : ℕ) → u < v → s u ≡ false) → ((u : ℕ) → t u ≡ (s u && not (u == v))) →
    members_below s k ≡ v ∷ members_below t k
unfolding members_below
members-first s t v zero h i low is = absurd (omega arith)
members-first s t v (suc k) h i low is = elim (cases_eq v k) [
  | inl e ↦
      let a = members-none s k (λ u l. low u (omega (arith, e))) in
      let b = members-none t k (λ u l. (let p = is u in let o : s u ≡ false = low u (omega (arith, e)) in grind arith)) in
      let c : s k ≡ true = ap s (sym e) ∙ i in
      let d : t k ≡ false = (let p = is k in let q : (k == v) ≡ true = eq-eqb k v (sym e) in grind arith) in
      rw (a, b, c, d, e) refl
  | inr n ↦
      let a = members-first s t v k (omega arith) i low is in
      let c : t k ≡ s k = (let p = is k in let q : (k == v) ≡ false = ne_eqb k v (omega arith) in grind arith) in
      rw (a, c) refl
]

-- the order of two lists by their first entries
pub compare_less : (p q : ℕ) (xs ys : List ℕ) → p < q → slice_cmp nat_cmp (p ∷ xs) (q ∷ ys) ≡ Less
compare_less p q xs ys h = let e : nat_lt p q ≡ true = lt-ltb p q h in rw e refl

pub compare_greater : (p q : ℕ) (xs ys : List ℕ) → q < p → slice_cmp nat_cmp (p ∷ xs) (q ∷ ys) ≡ Greater
compare_greater p q xs ys h = let e : nat_lt p q ≡ false = le-ltb p q (omega arith) in let d : (p == q) ≡ false = ne_eqb p q (omega arith) in rw (e, d) refl

pub compare_same : (p q : ℕ) (xs ys : List ℕ) → p ≡ q → slice_cmp nat_cmp (p ∷ xs) (q ∷ ys) ≡ slice_cmp nat_cmp xs ys
compare_same p q xs ys h = let e : nat_lt p q ≡ false = le-ltb p q (omega arith) in let d : (p == q) ≡ true = eq-eqb p q h in rw (e, d) refl

-- the list of the members of the mask 0 is empty
pub members-empty : (m : ℕ) → m ≡ 0 → members_below (has m) 64 ≡ []
members-empty m e = members-none (has m) 64 (λ u _. rw e (has-zero u))

below_least : (m v : ℕ) → ((u : ℕ) → IsTrue (has m u) → v ≤ u) → (u : ℕ) → u < v → has m u ≡ false
below_least m v least u lt = elim (cases_Bool (has m u)) [ inl i ↦ absurd (omega (arith, least u i, lt)) | inr o ↦ o ]

-- a mask's members by its lowest
pub members-lowest : (m v : ℕ) → v < 64 → IsTrue (has m v) → ((u : ℕ) → IsTrue (has m u) → v ≤ u) → (rest : List ℕ) × (members_below (has m) 64 ≡ v ∷ rest)
members-lowest m v h i least = (
  members_below (λ u. has m u && not (u == v)) 64,
  members-first (has m) (λ u. has m u && not (u == v)) v 64 h i (below_least m v least) (λ u. refl),
)

-- the list of the members is the lowest, and then the members of the mask without it
pub members-without : (m m' v : ℕ) → v < 64 → IsTrue (has m v) → ((u : ℕ) → IsTrue (has m u) → v ≤ u) → ((u : ℕ) → has m' u ≡ (has m u && not (u == v))) →
    members_below (has m) 64 ≡ v ∷ members_below (has m') 64
members-without m m' v h i least is = members-first (has m) (has m') v 64 h i (below_least m v least) is

-- the list of the members of a mask of 64 bits that isn't 0 has a first entry
pub members-some : (m : ℕ) → (m ≡ 0 → ⊥) → m < 2 ^ 64 → (v : ℕ) × (rest : List ℕ) × (members_below (has m) 64 ≡ v ∷ rest)
members-some m full fits = let pos : 0 < m = omega arith in
    let k = members-lowest m (trailing_zeros w64 m) (lowest_below m pos fits) (has-lowest m pos fits) (λ u i. lowest_le m u pos fits i) in
    (trailing_zeros w64 m, k.0, k.1)

-- a mask of 64 bits whose list of members is empty is 0
pub empty-members : (m : ℕ) → m < 2 ^ 64 → members_below (has m) 64 ≡ [] → m ≡ 0
empty-members m fits none = elim (cases_eq m 0) [
  | inl z ↦ z
  | inr some ↦ absurd (let a = members-some m some fits in let e : a.0 ∷ a.1 ≡ [] = sym a.2 ∙ none in cc)
]
