-- Counts of pairs.
use Rattle.std.proofs.Common.{ℕ, zero, suc, ◌+◌, ◌*◌, ◌≡◌, ◌<◌, ◌≤◌, Bool, ◌&&◌, not, nat_lt, length, inl, inr, refl, ap, ◌∙◌, arith, IsTrue}
use Rattle.std.proofs.lemmas.Bool.{cases_Bool, cases_eq, cases_lt, and_parts, lt-ltb, le-ltb}
use mathlib.Core.Path.{fun_ext}
use Rattle.mixed_graph.specs.Vocabulary.{members_below, MixedGraph, IsMixedGraph}
use Rattle.mixed_graph.proofs.Members.{length-members-suc, length-members-le, one_if}
use Rattle.survey_command.specs.Counts.{pairs_from, arrow_count, spouse_count}

-- a set below n has no further members below k
length-members-within : (s : ℕ → Bool) (n k : ℕ) → n ≤ k → ((v : ℕ) → IsTrue (s v) → v < n) → length (members_below s k) ≡ length (members_below s n)
length-members-within s n zero le fits = let e : n ≡ 0 = omega arith in rw e refl
length-members-within s n (suc k) le fits = elim (cases_eq n (suc k)) [
  | inl e ↦ rw e refl
  | inr d ↦ elim (cases_Bool (s k)) [
    | inl i ↦ absurd (let b = fits k i in omega (arith, b))
    | inr o ↦
        let none : one_if (s k) ≡ 0 = ap (λ b. one_if b) o in
        omega (arith, length-members-suc s k, none, length-members-within s n k (omega arith) fits)
  ]
]

-- relations below n have as many pairs below k
pub pairs_from-within : (n k : ℕ) (r : ℕ → ℕ → Bool) → n ≤ k → ((a b : ℕ) → IsTrue (r a b) → b < n) → (i : ℕ) → pairs_from k r i ≡ pairs_from n r i
pairs_from-within n k r le fits zero = refl
pairs_from-within n k r le fits (suc i) =
    let low = pairs_from-within n k r le fits i in
    let row = length-members-within (r i) n k le (λ b e. fits i b e) in omega (arith, low, row)

-- at most n in each row
pub pairs_from_le : (n : ℕ) (r : ℕ → ℕ → Bool) (i : ℕ) → pairs_from n r i ≤ n * i
pairs_from_le n r zero = omega arith
pairs_from_le n r (suc i) =
    let low = pairs_from_le n r i in
    let row = length-members-le (r i) n in omega (arith, low, row)

-- one row more
pub pairs_from_more : (n : ℕ) (r : ℕ → ℕ → Bool) (k total c : ℕ) → total ≡ pairs_from n r k → c ≡ length (members_below (r k) n) → total + c
    ≡ pairs_from n r (k + 1)
pairs_from_more n r k total c t e = let next : suc k ≡ k + 1 = omega arith in
    let s : pairs_from n r (suc k) ≡ pairs_from n r (k + 1) = ap (λ i. pairs_from n r i) next in omega (arith, t, e, s)

pub count_le : (s : ℕ → Bool) (c : ℕ) → c ≡ length (members_below s 64) → c ≤ 64
count_le s c e = omega (arith, e, length-members-le s 64)

-- the members after v
pub count_later : (s t : ℕ → Bool) (v c : ℕ) → ((b : ℕ) → t b ≡ (s b && not (nat_lt b (v + 1)))) → c ≡ length (members_below t 64) → c
    ≡ length (members_below (λ b. s b && nat_lt v b) 64)
count_later s t v c is e = e ∙ ap (λ (f : ℕ → Bool). length (members_below f 64)) (fun_ext (λ b. is b ∙ ap (λ x. s b && x) (after b)))
  where
    after : (b : ℕ) → not (nat_lt b (v + 1)) ≡ nat_lt v b
    after b = elim (cases_lt v b) [
      | inl lt ↦ let x = lt-ltb v b lt in let y = le-ltb b (v + 1) (omega arith) in grind (arith, x, y)
      | inr ge ↦ let x = le-ltb v b ge in let y = lt-ltb b (v + 1) (omega arith) in grind (arith, x, y)
    ]

pub arrows_counted : (g : MixedGraph) → IsMixedGraph g → g.vertices ≤ 64 → pairs_from 64 g.arrow g.vertices ≡ arrow_count g
arrows_counted g valid small = pairs_from-within g.vertices 64 g.arrow small (λ a b e. valid.head_below a b e) g.vertices

pub spouses_counted : (g : MixedGraph) → IsMixedGraph g → g.vertices ≤ 64 → pairs_from 64 (λ a b. g.both a b && nat_lt a b) g.vertices ≡ spouse_count g
spouses_counted g valid small = pairs_from-within g.vertices 64 (λ a b. g.both a b && nat_lt a b) small
    (λ a b e. valid.both_below b a (valid.symmetric a b (and_parts (g.both a b) (nat_lt a b) e).0)) g.vertices
