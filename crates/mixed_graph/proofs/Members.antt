use Rattle.std.proofs.Common.{◌≡◌, ℕ, zero, suc, ◌+◌, ◌<◌, ◌≤◌, Bool, true, false, cond, ◌||◌, ◌==◌, [], ◌∷◌, length, length-append, inl, inr, refl}
use Rattle.std.proofs.Common.{sym, ap, ◌∙◌, arith, IsTrue}
use Rattle.std.proofs.lemmas.Bool.{cases_Bool, cases_eq, cases_lt, eq-eqb, ne_eqb}
use Rattle.mixed_graph.specs.Bits.{members_below}

-- 1 where the test holds, 0 where it doesn't
abbrev pub one_if : Bool → ℕ
one_if b = cond b 1 0

length_one : (b : Bool) (k : ℕ) → length (cond b (k ∷ []) []) ≡ one_if b
length_one true k = refl
length_one false k = refl

-- how many members one more number adds
pub length-members-suc : (s : ℕ → Bool) (k : ℕ) → length (members_below s (suc k)) ≡ length (members_below s k) + one_if (s k)
unfolding members_below
length-members-suc s k = length-append (members_below s k) (cond (s k) (k ∷ []) []) ∙ ap (λ n. length (members_below s k) + n) (length_one (s k) k)

-- no member is below 0
pub length-members-zero : (s : ℕ → Bool) → length (members_below s zero) ≡ 0
unfolding members_below
length-members-zero s = refl

one_le : (b : Bool) → one_if b ≤ 1
one_le true = omega arith
one_le false = omega arith

-- at most k members are below k
pub length-members-le : (s : ℕ → Bool) (k : ℕ) → length (members_below s k) ≤ k
length-members-le s zero = omega (arith, length-members-zero s)
length-members-le s (suc k) = omega (arith, length-members-suc s k, length-members-le s k, one_le (s k))

-- a set that lacks a number below k has fewer than k members
pub length-members-lt : (s : ℕ → Bool) (k v : ℕ) → v < k → s v ≡ false → length (members_below s k) < k
length-members-lt s zero v h out = absurd (omega arith)
length-members-lt s (suc k) v h out = elim (cases_eq v k) [
  | inl e ↦ let n : one_if (s k) ≡ 0 = ap (λ b. one_if b) (ap s (sym e) ∙ out) in omega (arith, length-members-suc s k, length-members-le s k, n)
  | inr d ↦ omega (arith, length-members-suc s k, length-members-lt s k v (omega arith) out, one_le (s k))
]

-- sets that agree below k have as many members there
length-members-same : (s t : ℕ → Bool) (k : ℕ) → ((u : ℕ) → u < k → s u ≡ t u) → length (members_below s k) ≡ length (members_below t k)
length-members-same s t zero h = length-members-zero s ∙ sym (length-members-zero t)
length-members-same s t (suc k) h =
    let e : one_if (s k) ≡ one_if (t k) = ap (λ b. one_if b) (h k (omega arith)) in
    omega (arith, length-members-suc s k, length-members-suc t k, e, length-members-same s t k (λ u l. h u (omega arith)))

-- one more member counts one more
pub length-members-more : (s t : ℕ → Bool) (v k : ℕ) → v < k → s v ≡ false → ((u : ℕ) → t u ≡ (s u || (u == v))) →
    length (members_below t k) ≡ length (members_below s k) + 1
length-members-more s t v zero h out is = absurd (omega arith)
length-members-more s t v (suc k) h out is = elim (cases_eq v k) [
  | inl e ↦
      let low = length-members-same s t k (λ u l. let d : (u == v) ≡ false = ne_eqb u v (omega arith) in let p = is u in grind arith) in
      let a : one_if (s k) ≡ 0 = ap (λ b. one_if b) (ap s (sym e) ∙ out) in
      let b : t k ≡ true = (let p = is k in let q : (k == v) ≡ true = eq-eqb k v (sym e) in grind arith) in
      let b' : one_if (t k) ≡ 1 = ap (λ b. one_if b) b in
      omega (arith, length-members-suc s k, length-members-suc t k, low, a, b')
  | inr d ↦
      let c : t k ≡ s k = (let p = is k in let q : (k == v) ≡ false = ne_eqb k v (omega arith) in grind arith) in
      let c' : one_if (t k) ≡ one_if (s k) = ap (λ b. one_if b) c in
      omega (arith, length-members-suc s k, length-members-suc t k, c', length-members-more s t v k (omega arith) out is)
]

-- an empty set has 0 members below k
pub length-members-none : (s : ℕ → Bool) (k : ℕ) → ((u : ℕ) → s u ≡ false) → length (members_below s k) ≡ 0
length-members-none s zero h = length-members-zero s
length-members-none s (suc k) h = let e : one_if (s k) ≡ 0 = ap one_if (h k) in omega (arith, length-members-suc s k, length-members-none s k h, e)

-- a set with each number below k has k members there
length-members-all : (s : ℕ → Bool) (k : ℕ) → ((u : ℕ) → u < k → IsTrue (s u)) → length (members_below s k) ≡ k
length-members-all s zero h = length-members-zero s
length-members-all s (suc k) h =
    let one : one_if (s k) ≡ 1 = ap (λ b. one_if b) (h k (omega arith)) in
    omega (arith, length-members-suc s k, one, length-members-all s k (λ u l. h u (omega arith)))

-- a set that is the numbers below n has n members
pub length-members-below : (n k : ℕ) (s : ℕ → Bool) → n ≤ k → ((v : ℕ) → (IsTrue (s v) → v < n) × (v < n → IsTrue (s v))) → length (members_below s k) ≡ n
length-members-below n zero s fits is = length-members-zero s ∙ omega arith
length-members-below n (suc k) s fits is = elim (cases_Bool (s k)) [
  | inl i ↦
      let top : n ≡ suc k = (let b = (is k).0 i in omega (arith, b)) in
      let one : one_if (s k) ≡ 1 = ap (λ b. one_if b) i in
      omega (arith, length-members-suc s k, one, top, length-members-all s k (λ u l. (is u).1 (omega (arith, top))))
  | inr o ↦
      let low : n ≤ k = elim (cases_lt k n) [ inl b ↦ absurd (let t = (is k).1 b in cc) | inr b ↦ b ] in
      let none : one_if (s k) ≡ 0 = ap (λ b. one_if b) o in
      omega (arith, length-members-suc s k, none, length-members-below n k s low is)
]
