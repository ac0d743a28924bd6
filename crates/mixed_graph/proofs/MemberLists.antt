-- The members of a set as a list.
use Rattle.std.proofs.Common.{◌≡◌, ℕ, zero, suc, ◌+◌, ◌<◌, ◌^◌, Bool, true, false, cond, ◌==◌, List, [], ◌∷◌, ◌++◌, length, length-append, get_or, inl, inr}
use Rattle.std.proofs.Common.{refl, ap, sym, ◌∙◌, arith, subst, IsTrue}
use Rattle.std.specs.Prelude.{All}
use Rattle.std.specs.Cmp.{both_ways}
use Rattle.std.specs.List.{list_any}
use Rattle.std.proofs.lemmas.Bool.{cases_lt, cases_eq, eq-eqb, eqb-true, ne_eqb, or_cases, or_left, or_right}
use Rattle.std.proofs.lemmas.List.Folds.{list_any-append}
use Rattle.std.proofs.lemmas.List.{append-nil}
use Rattle.std.proofs.lemmas.List.Elements.{All-append, All-from_get_or}
use Rattle.mixed_graph.specs.Bits.{has, members_below}
use Rattle.mixed_graph.proofs.Masks.{has-lowest, lowest_below, below_64}
use Rattle.std.proofs.Common.{w64}
use Rattle.std.specs.Int.{trailing_zeros}

-- a set has no members below 0
pub members-nil : (s : ℕ → Bool) → ◌≡◌ {A = List ℕ} [] (members_below s 0)
unfolding members_below
members-nil s = refl

-- one number more, that is a member
pub members-in : (s : ℕ → Bool) (v : ℕ) → s v ≡ true → members_below s (v + 1) ≡ members_below s v ++ v ∷ []
unfolding members_below
members-in s v e =
    let k : v + 1 ≡ suc v = omega arith in
    ap (members_below s) k ∙ ap (λ b. members_below s v ++ cond b (v ∷ []) []) e

-- or is none
pub members-out : (s : ℕ → Bool) (v : ℕ) → s v ≡ false → members_below s (v + 1) ≡ members_below s v
unfolding members_below
members-out s v e =
    let k : v + 1 ≡ suc v = omega arith in
    ap (members_below s) k ∙ ap (λ b. members_below s v ++ cond b (v ∷ []) []) e ∙ append-nil (members_below s v)

-- each is a member
pub members-all : (s : ℕ → Bool) (n k : ℕ) → ((v : ℕ) → IsTrue (s v) → v < n) → All (λ v. v < n) (members_below s k)
unfolding members_below
members-all s n zero h = λ i d lt. absurd (omega (arith, lt))
members-all s n (suc k) h = All-append (λ v. v < n) (members_below s k) (cond (s k) (k ∷ []) []) (members-all s n k h) (last (s k) refl)
  where
    one : k < n → (i : ℕ) → i < 1 → get_or (k ∷ []) i 0 < n
    one lt zero l = lt
    one lt (suc i) l = absurd (omega arith)

    last : (b : Bool) → s k ≡ b → All (λ v. v < n) (cond b (k ∷ []) [])
    last true e = All-from_get_or (λ v. v < n) (k ∷ []) 0 (one (h k e))
    last false e = λ i d lt. absurd (omega (arith, lt))

-- a member makes the list longer
members-some : (s : ℕ → Bool) (v k : ℕ) → v < k → s v ≡ true → 0 < length (members_below s k)
unfolding members_below
members-some s v zero lt e = absurd (omega arith)
members-some s v (suc k) lt e = elim (cases_lt v k) [
  | inl below ↦ let r = members-some s v k below e in let n = length-append (members_below s k) (cond (s k) (k ∷ []) []) in omega (arith, r, n)
  | inr at ↦
      let same : v ≡ k = omega (arith, lt, at) in
      let n = length-append (members_below s k) (cond (s k) (k ∷ []) []) in
      let one : length (cond (s k) (k ∷ []) []) ≡ 1 = ap (λ b. length (cond b (k ∷ []) [])) (ap s (sym same) ∙ e) in
      omega (arith, n, one)
]

-- a set above 0 has a member
pub members-pos : (m : ℕ) → 0 < m → m < 2 ^ 64 → 0 < length (members_below (has m) 64)
members-pos m p q = members-some (has m) (trailing_zeros w64 m) 64 (lowest_below m p q) (has-lowest m p q)

-- ---- a list of members, as a loop over a set takes one after the other

-- whether u is in the list
abbrev pub is_in : List ℕ → ℕ → Bool
is_in vs u = list_any (λ v. u == v) vs

-- each is a member below n, and doesn't come again
abbrev pub AreMembers : (ℕ → Bool) → ℕ → List ℕ → Type 0
AreMembers s n [] = Unit {0}
AreMembers s n (v ∷ vs) = (v < n) × IsTrue (s v) × (is_in vs v ≡ false) × AreMembers s n vs

are-more : (s : ℕ → Bool) (n : ℕ) (vs : List ℕ) → IsTrue (s n) → AreMembers s n vs → AreMembers s (suc n) (vs ++ n ∷ [])
are-more s n [] member are = (omega arith, member, refl, tt)
are-more s n (v ∷ vs) member are = (
  omega (arith, are.0),
  are.1,
  list_any-append (λ u. v == u) vs (n ∷ [])
      ∙ (let e : (v == n) ≡ false = ne_eqb v n (let b = are.0 in omega (arith, b)) in let o = are.2 in rw (o, e) refl),
  are-more s n vs member are.3,
)

are-wider : (s : ℕ → Bool) (n : ℕ) (vs : List ℕ) → AreMembers s n vs → AreMembers s (suc n) vs
are-wider s n [] are = tt
are-wider s n (v ∷ vs) are = (omega (arith, are.0), are.1, are.2, are-wider s n vs are.3)

-- the members below n are such a list
pub members-are : (s : ℕ → Bool) (n : ℕ) → AreMembers s n (members_below s n)
unfolding members_below
members-are s zero = tt
members-are s (suc n) = go (s n) refl (members-are s n)
  where
    go : (b : Bool) → s n ≡ b → AreMembers s n (members_below s n) → AreMembers s (suc n) (members_below s n ++ cond b (n ∷ []) [])
    go true e are = are-more s n (members_below s n) e are
    go false e are = subst (AreMembers s (suc n)) (sym (append-nil (members_below s n))) (are-wider s n (members_below s n) are)

-- a test holds of one of the members below n exactly where a member below n has it
pub some-member : (s p : ℕ → Bool) (n : ℕ) → IsTrue (list_any p (members_below s n)) → (v : ℕ) × IsTrue (s v) × IsTrue (p v)
unfolding members_below
some-member s p zero h = absurd (cc)
some-member s p (suc n) h = elim (or_cases _ _ (sym (list_any-append p (members_below s n) (cond (s n) (n ∷ []) [])) ∙ h)) [
  | inl low ↦ some-member s p n low
  | inr top ↦ last (s n) refl top
]
  where
    last : (b : Bool) → s n ≡ b → IsTrue (list_any p (cond b (n ∷ []) [])) → (v : ℕ) × IsTrue (s v) × IsTrue (p v)
    last true e t = elim (or_cases (p n) false t) [ inl i ↦ (n, e, i) | inr f ↦ absurd (cc) ]
    last false e t = absurd (cc)

pub member-some : (s p : ℕ → Bool) (n v : ℕ) → v < n → IsTrue (s v) → IsTrue (p v) → IsTrue (list_any p (members_below s n))
unfolding members_below
member-some s p zero v below i t = absurd (omega arith)
member-some s p (suc n) v below i t = list_any-append p (members_below s n) (cond (s n) (n ∷ []) []) ∙ elim (cases_eq v n) [
  | inl e ↦ or_right (list_any p (members_below s n)) _
      (ap (λ b. list_any p (cond b (n ∷ []) [])) (ap s (sym e) ∙ i) ∙ or_left (p n) false (ap p (sym e) ∙ t))
  | inr d ↦ or_left (list_any p (members_below s n)) _ (member-some s p n v (omega arith) i t)
]

-- the list of a mask's members has its members
pub is_in-members : (m : ℕ) → m < 2 ^ 64 → (u : ℕ) → is_in (members_below (has m) 64) u ≡ has m u
is_in-members m fits u = both_ways _ _
    (λ h. let e = some-member (has m) (λ v. u == v) 64 h in ap (has m) (eqb-true u e.0 e.2) ∙ e.1)
    (λ h. member-some (has m) (λ v. u == v) 64 u (below_64 m u fits h) h (eq-eqb u u refl))
