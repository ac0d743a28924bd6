-- The observed vertices in ascending order, and what is numbered by their places.
use Rattle.std.proofs.Common.{ℕ, zero, suc, ◌+◌, ◌<◌, ◌≤◌, ◌≡◌, Bool, true, false, cond, ◌&&◌, ◌||◌, ◌==◌, List, [], ◌∷◌, ◌++◌, length, length-append}
use Rattle.std.proofs.Common.{get_or, inl, inr, refl, sym, ap, ◌∙◌, subst, arith, nat_lt, add-one, replicate, set}
use Rattle.std.proofs.lemmas.Bool.{cases_eq, cases_lt, lt-ltb, le-ltb, ne_eqb, eq-eqb, ltb-true, and_from, and_left}
use Rattle.std.proofs.lemmas.List.{append-nil, get_or_append_left}
use Rattle.std.proofs.Math.Seq.{get_or-append_seam}
use Rattle.mixed_graph.specs.Vocabulary.{has, members_below, MixedGraph, IsMixedGraph, IsDirectedPath}
use Rattle.mixed_graph.proofs.Members.{one_if, length-members-suc, length-members-zero, length-members-le}
use Rattle.latent_projection.specs.Renumbering.{renumbered_set, renumbered}
use Rattle.latent_projection.proofs.Rows.{AreRows, no_row, row_more, rows_whole}
use Rattle.latent_projection.proofs.Treks.{left_true, right_true}

-- one more number is a member, or isn't
pub members-more : (s : ℕ → Bool) (k : ℕ) → s k ≡ true → members_below s (k + 1) ≡ members_below s k ++ k ∷ []
unfolding members_below
members-more s k e = ap (members_below s) (add-one k) ∙ ap (λ b. members_below s k ++ cond b (k ∷ []) []) e

-- a number that is no member leaves the list of members as it was
pub members-same : (s : ℕ → Bool) (k : ℕ) → s k ≡ false → members_below s (k + 1) ≡ members_below s k
unfolding members_below
members-same s k e = ap (members_below s) (add-one k) ∙ ap (λ b. members_below s k ++ cond b (k ∷ []) []) e ∙ append-nil (members_below s k)

-- the entry at the place of a member is the member
pub record IsAtPlace (s : ℕ → Bool) (n v : ℕ) : Type 0 where
  pub below : length (members_below s v) < length (members_below s n)
  pub entry : get_or (members_below s n) (length (members_below s v)) 0 ≡ v

at_place_more : (s : ℕ → Bool) (n v : ℕ) (b : Bool) → s n ≡ b → IsAtPlace s n v → IsAtPlace s (n + 1) v
at_place_more s n v true e r = record {
  below = rw (members-more s n e) (let b = r.below in let q = length-append (members_below s n) (n ∷ []) in omega (arith, b, q));
  entry = rw (members-more s n e) (get_or_append_left (members_below s n) (n ∷ []) 0 (length (members_below s v)) r.below ∙ r.entry);
}
at_place_more s n v false e r = record { below = rw (members-same s n e) r.below; entry = rw (members-same s n e) r.entry }

-- a member stands in the list of members behind those below it
pub at_place : (s : ℕ → Bool) (n v : ℕ) → v < n → s v ≡ true → IsAtPlace s n v
at_place s zero v h e = absurd (omega arith)
at_place s (suc n) v h e = subst (λ k. IsAtPlace s k v) (add-one n) (elim (cases_eq v n) [
  | inl q ↦ subst (λ w. IsAtPlace s (w + 1) v) q (record {
    below = rw (members-more s v e) (let l = length-append (members_below s v) (v ∷ []) in omega (arith, l));
    entry = rw (members-more s v e) (get_or-append_seam (members_below s v) v [] 0);
  })
  | inr d ↦ at_place_more s n v (s n) refl (at_place s n v (omega arith) e)
])

-- one more listed vertex
pub renumbered_set-more : (vs : List ℕ) (v : ℕ) (s : ℕ → Bool) (k : ℕ) → renumbered_set (vs ++ v ∷ []) s k
    ≡ (renumbered_set vs s k || ((k == length vs) && s v))
renumbered_set-more vs v s k =
    let size = length-append vs (v ∷ []) in
    elim (cases_eq k (length vs)) [
      | inl e ↦
          let a : nat_lt k (length (vs ++ v ∷ [])) ≡ true = lt-ltb k (length (vs ++ v ∷ [])) (omega (arith, size)) in
          let b : nat_lt k (length vs) ≡ false = le-ltb k (length vs) (omega arith) in
          let c : (k == length vs) ≡ true = eq-eqb k (length vs) e in
          let d : get_or (vs ++ v ∷ []) k 0 ≡ v = rw e (get_or-append_seam vs v [] 0) in
          rw (a, b, c, d) refl
      | inr n ↦
          let c : (k == length vs) ≡ false = ne_eqb k (length vs) n in
          elim (cases_lt k (length vs)) [
            | inl lt ↦
                let a : nat_lt k (length (vs ++ v ∷ [])) ≡ true = lt-ltb k (length (vs ++ v ∷ [])) (omega (arith, size)) in
                let b : nat_lt k (length vs) ≡ true = lt-ltb k (length vs) lt in
                let d : get_or (vs ++ v ∷ []) k 0 ≡ get_or vs k 0 = get_or_append_left vs (v ∷ []) 0 k lt in
                rw (a, b, c, d) (or_none (s (get_or vs k 0)))
            | inr ge ↦
                let a : nat_lt k (length (vs ++ v ∷ [])) ≡ false = le-ltb k (length (vs ++ v ∷ [])) (omega (arith, size, n)) in
                let b : nat_lt k (length vs) ≡ false = le-ltb k (length vs) ge in
                rw (a, b, c) refl
          ]
    ]
  where
    or_none : (b : Bool) → b ≡ (b || false)
    or_none true = refl
    or_none false = refl

-- no vertex is listed yet
pub renumbered_set-none : (s t : ℕ → Bool) (k : ℕ) → renumbered_set (members_below s 0) t k ≡ false
unfolding members_below
renumbered_set-none s t k = and_left (nat_lt k 0) (t (get_or [] k 0)) (le-ltb k 0 (omega arith))

-- how many members a set has that is cut off at n
cut_below : (s t : ℕ → Bool) (n k : ℕ) → k ≤ n → ((v : ℕ) → t v ≡ (nat_lt v n && s v)) → length (members_below t k) ≡ length (members_below s k)
cut_below s t n zero h is = length-members-zero t ∙ sym (length-members-zero s)
cut_below s t n (suc k) h is =
    let b : nat_lt k n ≡ true = lt-ltb k n (omega arith) in
    let e : t k ≡ s k = (let p = is k in grind arith) in
    let o : one_if (t k) ≡ one_if (s k) = ap (λ c. one_if c) e in
    omega (arith, length-members-suc t k, length-members-suc s k, o, cut_below s t n k (omega arith) is)

pub length-members-cut : (s t : ℕ → Bool) (n k : ℕ) → n ≤ k → ((v : ℕ) → t v ≡ (nat_lt v n && s v)) → length (members_below t k) ≡ length (members_below s n)
length-members-cut s t n zero h is = let e : n ≡ zero = omega arith in
    subst (λ m. length (members_below t zero) ≡ length (members_below s m)) (sym e) (length-members-zero t ∙ sym (length-members-zero s))
length-members-cut s t n (suc k) h is = elim (cases_eq n (suc k)) [
  | inl e ↦ cut_below s t n (suc k) (omega arith) is ∙ ap (λ m. length (members_below s m)) (sym e)
  | inr d ↦
      let b : nat_lt k n ≡ false = le-ltb k n (omega arith) in
      let e : t k ≡ false = (let p = is k in grind arith) in
      let o : one_if (t k) ≡ 0 = ap (λ c. one_if c) e in
      omega (arith, length-members-suc t k, o, length-members-cut s t n k (omega arith) is)
]

-- ---- the renumbered graph
module _ (p : MixedGraph) (vs : List ℕ) where
  edge_of : (e : ℕ → ℕ → Bool) (a b : ℕ) → (nat_lt a (length vs) && renumbered_set vs (e (get_or vs a 0)) b) ≡ true
      → (a < length vs) × (b < length vs) × (e (get_or vs a 0) (get_or vs b 0) ≡ true)
  edge_of e a b h =
      let r = right_true (nat_lt a (length vs)) (renumbered_set vs (e (get_or vs a 0)) b) h in (
        ltb-true a (length vs) (left_true (nat_lt a (length vs)) (renumbered_set vs (e (get_or vs a 0)) b) h),
        ltb-true b (length vs) (left_true (nat_lt b (length vs)) (e (get_or vs a 0) (get_or vs b 0)) r),
        right_true (nat_lt b (length vs)) (e (get_or vs a 0) (get_or vs b 0)) r,
      )

  edge_from : (e : ℕ → ℕ → Bool) (a b : ℕ) → a < length vs → b < length vs → e (get_or vs a 0) (get_or vs b 0) ≡ true
      → (nat_lt a (length vs) && renumbered_set vs (e (get_or vs a 0)) b) ≡ true
  edge_from e a b x y h = and_from (nat_lt a (length vs)) (renumbered_set vs (e (get_or vs a 0)) b) (lt-ltb a (length vs) x)
      (and_from (nat_lt b (length vs)) (e (get_or vs a 0) (get_or vs b 0)) (lt-ltb b (length vs) y) h)

  olds : List ℕ → List ℕ
  olds [] = []
  olds (x ∷ xs) = get_or vs x 0 ∷ olds xs

  old_path : (v : ℕ) (xs : List ℕ) (t : ℕ) → IsDirectedPath (renumbered p vs) v xs t → IsDirectedPath p (get_or vs v 0) (olds xs) (get_or vs t 0)
  unfolding olds
  old_path v [] t q = ap (λ k. get_or vs k 0) q
  old_path v (x ∷ xs) t q = ((edge_of p.arrow v x q.0).2, old_path x xs t q.1)

  -- a mixed graph, restricted to listed vertices and numbered anew, is a mixed graph
  pub IsMixedGraph-renumbered : IsMixedGraph p → IsMixedGraph (renumbered p vs)
  IsMixedGraph-renumbered ok = record {
    tail_below = λ a b e. (edge_of p.arrow a b e).0;
    head_below = λ a b e. (edge_of p.arrow a b e).1;
    both_below = λ a b e. (edge_of p.both a b e).0;
    symmetric = λ a b e. let r = edge_of p.both a b e in edge_from p.both b a r.1 r.0 (ok.symmetric (get_or vs a 0) (get_or vs b 0) r.2);
    no_loop = λ a. (let z = ok.no_loop (get_or vs a 0) in grind arith);
    acyclic = λ v x xs q. ok.acyclic (get_or vs v 0) (get_or vs x 0) (olds xs) (old_arrow v x q.0, old_path x xs v q.1);
  }
    where
      old_arrow : (v x : ℕ) → (nat_lt v (length vs) && renumbered_set vs (p.arrow (get_or vs v 0)) x) ≡ true → p.arrow (get_or vs v 0) (get_or vs x 0) ≡ true
      old_arrow v x e = (edge_of p.arrow v x e).2

-- ---- as the loops keep it
-- the numbers of the members of t among the members of s below v, of which there are `place`
pub record IsRenumbered (s t : ℕ → Bool) (v place bits : ℕ) : Type 0 where
  pub place_is : place ≡ length (members_below s v)
  pub found : (k : ℕ) → has bits k ≡ renumbered_set (members_below s v) t k

pub IsRenumbered-none : (s t : ℕ → Bool) (bits : ℕ) → ((k : ℕ) → has bits k ≡ false) → IsRenumbered s t 0 0 bits
IsRenumbered-none s t bits none = record {
  place_is = sym (length-members-zero s);
  found = λ k. none k ∙ sym (renumbered_set-none s t k);
}

pub IsRenumbered-more : (s t : ℕ → Bool) (v place bits place' bits' : ℕ) → s v ≡ true → place' ≡ place + 1
    → ((k : ℕ) → has bits' k ≡ (has bits k || ((k == place) && t v)))
    → IsRenumbered s t v place bits → IsRenumbered s t (v + 1) place' bits'
IsRenumbered-more s t v place bits place' bits' e p is r = record {
  place_is = rw (members-more s v e) (let q = length-append (members_below s v) (v ∷ []) in omega (arith, p, q, r.place_is));
  found = λ k. rw (members-more s v e) (is k ∙ rw (r.found k) (ap (λ n. renumbered_set (members_below s v) t k || ((k == n) && t v)) r.place_is)
      ∙ sym (renumbered_set-more (members_below s v) v t k));
}

pub IsRenumbered-same : (s t : ℕ → Bool) (v place bits place' bits' : ℕ) → s v ≡ false → place' ≡ place → bits' ≡ bits
    → IsRenumbered s t v place bits → IsRenumbered s t (v + 1) place' bits'
IsRenumbered-same s t v place bits place' bits' e p q r = record {
  place_is = rw (members-same s v e) (p ∙ r.place_is);
  found = λ k. rw (members-same s v e) (ap (λ m. has m k) q ∙ r.found k);
}

-- what row a of the new graph holds, where the old rows are `old`
abbrev pub new_row : (s : ℕ → Bool) (n : ℕ) (old : List ℕ) → ℕ → ℕ → Bool
new_row s n old a b = nat_lt a (length (members_below s n)) && renumbered_set (members_below s n) (has (get_or old (get_or (members_below s n) a 0) 0)) b

-- the rows of the members of s below v, of which there are `place`
pub record AreNewRows (s : ℕ → Bool) (n : ℕ) (old : List ℕ) (v place : ℕ) (m : List ℕ) : Type 0 where
  pub place_is : place ≡ length (members_below s v)
  pub rows : AreRows (new_row s n old) place m

pub AreNewRows-none : (s : ℕ → Bool) (n : ℕ) (old : List ℕ) → AreNewRows s n old 0 0 (replicate 64 0)
AreNewRows-none s n old = record { place_is = sym (length-members-zero s); rows = no_row (new_row s n old) }

pub AreNewRows-more : (s : ℕ → Bool) (n : ℕ) (old : List ℕ) (v place x : ℕ) (m : List ℕ) (place' : ℕ) (m' : List ℕ) → n ≤ 64 → v < n → s v ≡ true
    → ((b : ℕ) → has x b ≡ renumbered_set (members_below s n) (has (get_or old v 0)) b) → place' ≡ place + 1 → m' ≡ set m place x
    → AreNewRows s n old v place m → AreNewRows s n old (v + 1) place' m'
AreNewRows-more s n old v place x m place' m' fits below e is p q r =
    let at = at_place s n v below e in
    let here : get_or (members_below s n) place 0 ≡ v = ap (λ k. get_or (members_below s n) k 0) r.place_is ∙ at.entry in
    let small : place < 64 = (let b = at.below in let l = length-members-le s n in omega (arith, b, l, r.place_is)) in
    let inside : nat_lt place (length (members_below s n)) ≡ true = lt-ltb place (length (members_below s n))
    (let b = at.below in omega (arith, b, r.place_is)) in
    record {
      place_is = rw (members-more s v e) (let l = length-append (members_below s v) (v ∷ []) in omega (arith, p, l, r.place_is));
      rows = rw (p, q) (row_more (new_row s n old) place x m small (λ b. rw (inside, here) (is b)) r.rows);
    }

pub AreNewRows-same : (s : ℕ → Bool) (n : ℕ) (old : List ℕ) (v place : ℕ) (m : List ℕ) (place' : ℕ) (m' : List ℕ) → s v ≡ false → place' ≡ place → m' ≡ m
    → AreNewRows s n old v place m → AreNewRows s n old (v + 1) place' m'
AreNewRows-same s n old v place m place' m' e p q r = record { place_is = rw (members-same s v e) (p ∙ r.place_is); rows = rw (p, q) r.rows }

-- at the end
pub new_rows_whole : (s : ℕ → Bool) (n : ℕ) (old : List ℕ) (place : ℕ) (m : List ℕ) → AreNewRows s n old n place m → (a b : ℕ) → has (get_or m a 0) b
    ≡ new_row s n old a b
new_rows_whole s n old place m r = rows_whole (new_row s n old) place m r.rows (λ a b h.
    and_left (nat_lt a (length (members_below s n))) (renumbered_set (members_below s n) (has (get_or old (get_or (members_below s n) a 0) 0)) b)
    (le-ltb a (length (members_below s n)) (omega (arith, h, r.place_is))))
