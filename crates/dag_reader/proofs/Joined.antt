-- The rows that a set's members join, one after the other, and the members of a row.
use Rattle.std.proofs.Common.{◌≡◌, ℕ, zero, suc, ◌<◌, ◌≤◌, Bool, true, false, List, [], ◌∷◌, ◌++◌, get_or, set, length, inl, inr, refl, sym, ap}
use Rattle.std.proofs.Common.{◌∙◌, arith, append-nil, nat_lt}
use Rattle.std.specs.Prelude.{◌==◌, ◌||◌, ◌&&◌, cond}
use Rattle.std.proofs.lemmas.Bool.{cases_eq, eq-eqb, ne_eqb, lt-ltb, le-ltb}
use Rattle.std.proofs.lemmas.List.{get_or-set_same, get_or-set_other}
use Rattle.mixed_graph.specs.Vocabulary.{has, members_below}
use Rattle.dag_reader.specs.Rows.{row_has}
use Rattle.dag_reader.proofs.RowPairs.{members-zero, members-suc}

or_none : (b : Bool) → b ≡ (b || false)
or_none true = refl
or_none false = refl

-- a row that got the members of a set
pub row_joined : (rows : List ℕ) (v x : ℕ) (to : ℕ → Bool) → v < length rows → ((b : ℕ) → has x b ≡ (has (get_or rows v 0) b || to b))
    → (a b : ℕ) → row_has (set rows v x) a b ≡ (row_has rows a b || ((a == v) && to b))
row_joined rows v x to below is a b = elim (cases_eq a v) [
  | inl e ↦ rw (e, eq-eqb v v refl, get_or-set_same rows v x 0 below) (is b)
  | inr d ↦ rw (ne_eqb a v d, get_or-set_other rows v a x 0 d) (or_none (row_has rows a b))
]

-- what is left behind the first member, whose row is joined
pub rest_joined : (r r' e t h : Bool) → r' ≡ (r || (e && t)) → (r' || (h && t)) ≡ (r || ((e || h) && t))
rest_joined r r' e t h is = rw is (go r e t h)
  where
    go : (r e t h : Bool) → ((r || (e && t)) || (h && t)) ≡ (r || ((e || h) && t))
    go true e t h = refl
    go false true true h = refl
    go false true false true = refl
    go false true false false = refl
    go false false t h = refl

pub all_joined : (r h t : Bool) → h ≡ false → r ≡ (r || (h && t))
all_joined r h t none = rw none (or_none r)

-- ---- the pairs of a row

members-same : (s t : ℕ → Bool) (k : ℕ) → ((v : ℕ) → v < k → s v ≡ t v) → members_below s k ≡ members_below t k
members-same s t zero same = members-zero s ∙ sym (members-zero t)
members-same s t (suc k) same =
    let e = same k (omega arith) in
    rw (members-suc s k, members-suc t k, members-same s t k (λ v below. same v (omega arith)), e) refl

-- the members of a set that is cut off at n
pub members-cut : (s t : ℕ → Bool) (n k : ℕ) → n ≤ k → ((v : ℕ) → t v ≡ (s v && nat_lt v n)) → members_below t k ≡ members_below s n
members-cut s t n zero fits is = let e : n ≡ zero = omega arith in members-zero t ∙ sym (ap (members_below s) e ∙ members-zero s)
members-cut s t n (suc k) fits is = elim (cases_eq n (suc k)) [
  | inl e ↦ members-same t s (suc k) (λ v below. (let p = is v in let b : nat_lt v n ≡ true = lt-ltb v n (omega arith) in grind arith))
      ∙ ap (members_below s) (sym e)
  | inr d ↦
      let out : t k ≡ false = (let p = is k in let b : nat_lt k n ≡ false = le-ltb k n (omega arith) in grind arith) in
      members-suc t k ∙ ap (λ b. members_below t k ++ cond b (k ∷ []) []) out ∙ append-nil (members_below t k) ∙ members-cut s t n k (omega arith) is
]
