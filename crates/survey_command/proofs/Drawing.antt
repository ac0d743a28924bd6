-- Rows of draws, and the graph that they make.
use Rattle.std.proofs.Common.{ℕ, suc, ◌+◌, ◌-◌, ◌≡◌, ◌<◌, ◌≤◌, Bool, true, false, ◌&&◌, ◌||◌, ◌==◌, nat_lt, List, [], ◌∷◌, inl, inr, refl, sym, ap, ◌∙◌, arith}
use Rattle.std.proofs.lemmas.Bool.{cases_eq, cases_lt, lt-ltb, le-ltb, ltb-true, and_parts, or_cases, or_left, or_right, ne_eqb, eq-eqb}
use Rattle.mixed_graph.specs.Vocabulary.{IsMixedGraph, IsDirectedPath}
use Rattle.survey_command.specs.Draws.{next_state, state_after, draw_of}
use Rattle.survey_command.specs.Drawn.{pairs_before, draw_at, is_drawn, drawn_graph}
use Rattle.survey_command.specs.Rows.{is_in_row}
use Rattle.survey_command.proofs.Stepping.{after_more, state_after-add}

-- a test of the numbers below the next number is that of the numbers below, or of the number itself
one_more : (v j : ℕ) (p : ℕ → Bool) → (nat_lt v (j + 1) && p v) ≡ ((nat_lt v j && p v) || ((v == j) && p j))
one_more v j p = elim (cases_eq v j) [
  | inl e ↦ rw e (let a : nat_lt j (j + 1) ≡ true = lt-ltb j (j + 1) (omega arith) in let b : nat_lt j j ≡ false = le-ltb j j (omega arith) in
      let c : (j == j) ≡ true = eq-eqb j j refl in grind (arith, a, b, c))
  | inr d ↦ elim (cases_lt v j) [
    | inl lt ↦ let a = lt-ltb v (j + 1) (omega arith) in let b = lt-ltb v j lt in let c = ne_eqb v j d in grind (arith, a, b, c)
    | inr ge ↦ let a = le-ltb v (j + 1) (omega arith) in let b = le-ltb v j ge in let c = ne_eqb v j d in grind (arith, a, b, c)
  ]
]

-- a row without a pair
pub row_none : (s : ℕ) (test : ℕ → Bool) (i u v : ℕ) → is_in_row s test i (i + 1) u v ≡ false
row_none s test i u v = elim (cases_lt i v) [
  | inl lt ↦ let a = le-ltb v (i + 1) (omega arith) in grind (arith, a)
  | inr ge ↦ let a = le-ltb i v ge in grind (arith, a)
]

-- one pair more, drawn from the state after the draws before it
pub row_more : (s : ℕ) (test : ℕ → Bool) (i j u v : ℕ) → i < j →
    is_in_row s test i (j + 1) u v ≡ (is_in_row s test i j u v || ((u == i && v == j) && test (draw_of (next_state (state_after s (j - (i + 1)))))))
row_more s test i j u v lt =
    let at : state_after s (j - i) ≡ next_state (state_after s (j - (i + 1))) = ap (λ n. state_after s n) (omega arith) ∙ after_more s (j - (i + 1)) in
    let more = one_more v j (λ n. test (draw_of (state_after s (n - i)))) in
    let last = one_more v j (λ n. nat_lt i n) in
    rw (sym at) (elim (cases_eq v j) [
      | inl e ↦ rw e (let a : nat_lt j (j + 1) ≡ true = lt-ltb j (j + 1) (omega arith) in let b : nat_lt j j ≡ false = le-ltb j j (omega arith) in
          let c : (j == j) ≡ true = eq-eqb j j refl in
          let d = lt-ltb i j lt in grind (arith, a, b, c, d))
      | inr d ↦ let c = ne_eqb v j d in let b = more in grind (arith, c, b)
    ])

pub pairs_before_more : (i : ℕ) → pairs_before i + (39 - i) ≡ pairs_before (i + 1)
pairs_before_more i = let next : suc i ≡ i + 1 = omega arith in ap (λ n. pairs_before n) next

-- the row of i, drawn from the state after the rows before it
pub row_drawn : (seed : ℕ) (test : ℕ → Bool) (i u v : ℕ) →
    (nat_lt u (i + 1) && is_drawn seed test u v) ≡ ((nat_lt u i && is_drawn seed test u v) || is_in_row (state_after seed (pairs_before i)) test i 40 u v)
row_drawn seed test i u v =
    let more = one_more u i (λ n. is_drawn seed test n v) in
    let at = state_after-add seed (pairs_before i) (v - i) in
    more ∙ rw at refl

pub row_drawn_all : (seed : ℕ) (test : ℕ → Bool) (u v : ℕ) → (nat_lt u 40 && is_drawn seed test u v) ≡ is_drawn seed test u v
row_drawn_all seed test u v = elim (cases_lt u 40) [
  | inl lt ↦ rw (lt-ltb u 40 lt) refl
  | inr ge ↦ elim (cases_lt u v) [
    | inl lt ↦ let a = le-ltb v 40 (omega arith) in grind (arith, a)
    | inr le ↦ let a = le-ltb u v le in grind (arith, a)
  ]
]

ascends : (seed : ℕ) (test : ℕ → Bool) (u v : ℕ) → is_drawn seed test u v ≡ true → (u < v) × (v < 40)
ascends seed test u v e =
    let p = and_parts (nat_lt u v) (nat_lt v 40 && test (draw_at seed u v)) e in
    let q = and_parts (nat_lt v 40) (test (draw_at seed u v)) p.1 in
    (ltb-true u v p.0, ltb-true v 40 q.0)

path_ascends : (seed : ℕ) (u : ℕ) (path : List ℕ) (v : ℕ) → IsDirectedPath (drawn_graph seed) u path v → u ≤ v
path_ascends seed u [] v p = omega (arith, p)
path_ascends seed u (x ∷ rest) v p =
    let a = (ascends seed (λ r. nat_lt r 3) u x p.0).0 in
    let b = path_ascends seed x rest v p.1 in omega (arith, a, b)

-- each arrow ascends, so what is drawn is a graph
pub IsMixedGraph-drawn : (seed : ℕ) → IsMixedGraph (drawn_graph seed)
IsMixedGraph-drawn seed = record {
  tail_below = λ u v e. let p = ascends seed (λ r. nat_lt r 3) u v e in omega (arith, p.0, p.1);
  head_below = λ u v e. (ascends seed (λ r. nat_lt r 3) u v e).1;
  both_below = λ u v e. elim (or_cases (double u v) (double v u) e) [
    | inl f ↦ let p = ascends seed (λ r. r == 3) u v f in omega (arith, p.0, p.1)
    | inr f ↦ (ascends seed (λ r. r == 3) v u f).1
  ];
  symmetric = λ u v e. elim (or_cases (double u v) (double v u) e) [
    | inl f ↦ or_right (double v u) (double u v) f
    | inr f ↦ or_left (double v u) (double u v) f
  ];
  no_loop = λ v. let a : nat_lt v v ≡ false = le-ltb v v (omega arith) in rw a refl;
  acyclic = λ v x rest p.
      let a = (ascends seed (λ r. nat_lt r 3) v x p.0).0 in
      let b = path_ascends seed x rest v p.1 in omega (arith, a, b);
}
  where
    double : ℕ → ℕ → Bool
    double u v = is_drawn seed (λ r. r == 3) u v

-- what one pair adds to a row read both ways
pub both_more : (o a b p q t : Bool) → ((o || (a || b)) || ((p || q) && t)) ≡ (o || ((a || (p && t)) || (b || (q && t))))
both_more true a b p q t = refl
both_more false true b p q t = refl
both_more false false true p q t = side (p && t)
  where
    side : (x : Bool) → true ≡ (x || true)
    side true = refl
    side false = refl
both_more false false false true q true = refl
both_more false false false true q false = sym (and_none q)
  where
    and_none : (x : Bool) → (x && false) ≡ false
    and_none true = refl
    and_none false = refl
both_more false false false false q t = refl

-- what one row adds, read both ways
pub both_rows : (a b r s : Bool) → ((a || b) || (r || s)) ≡ ((a || r) || (b || s))
both_rows true b r s = refl
both_rows false true true s = refl
both_rows false true false s = refl
both_rows false false r s = refl
