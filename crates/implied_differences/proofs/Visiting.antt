-- The walk over blocks, rows and cells: what the best candidate is after one more.
use Rattle.std.proofs.Common.{ℕ, ◌+◌, ◌≡◌, ◌≢◌, ◌<◌, ◌≤◌, List, sym, ap₂, ◌∙◌, inl, inr, ◌⊎◌, arith}
use Rattle.std.specs.Int.{abs_diff}
use Rattle.std.proofs.lemmas.Bool.{cases_eq}
use Rattle.implied_differences.specs.declared.candidates.Candidate.{Candidate}
use Rattle.implied_differences.specs.declared.layout.Layout.{Layout}
use Rattle.implied_differences.specs.Candidates.{IsAhead, IsNotAhead}
use Rattle.implied_differences.specs.Blocks.{gap_at, number_at, IsSeen, IsOf, IsBest}
use Rattle.implied_differences.proofs.Numbers.{through, below_through}

at_most : (x y : ℕ) → x ≡ y → x ≤ y
at_most x y e = omega arith

not_below_self : (x y : ℕ) → x ≡ y → x < y → ⊥
not_below_self x y e lt = omega arith

-- each cell of an earlier block comes before a block's first one
pub seen_before : (l : Layout) (w u p q : ℕ) → u < w → p < l.firsts → q < l.seconds → u < l.count → IsSeen l w 0 0 u p q
seen_before l w u p q lt lp lq lu = record {
  first = lp;
  second = lq;
  given = lu;
  block = most u w lt;
  row = λ e. absurd (not_below_self u w e lt);
  column = λ e _. absurd (not_below_self u w e lt);
}
  where
    most : (m n : ℕ) → m < n → m ≤ n
    most m n lt = omega arith

module _ (cells : List ℕ) (l : Layout) where
  none_seen : (u p q : ℕ) → IsSeen l 0 0 0 u p q → ⊥
  none_seen u p q s =
      let here : u ≡ 0 = zero_of u s.block in
      let first : p ≡ 0 = zero_of p (s.row here) in
      nothing q (s.column here first)
    where
      zero_of : (n : ℕ) → n ≤ 0 → n ≡ 0
      zero_of n le = omega arith

      nothing : (n : ℕ) → n < 0 → ⊥
      nothing n lt = omega arith

  pub best_none : (c : Candidate) → c.left ≡ 0 → c.right ≡ 0 → c.distance ≡ 0 → c.number ≡ 0 → IsBest cells l 0 0 0 c
  best_none c left right distance number = record {
    found = inr (record { left = left; right = right; number = number });
    distance = distance ∙ sym (ap₂ abs_diff left right);
    greatest = λ u p q s. absurd (none_seen u p q s);
    least = λ u p q s lt. absurd (none_seen u p q s);
  }

  seen_more : (w x y u p q : ℕ) → IsSeen l w x (y + 1) u p q → IsSeen l w x y u p q ⊎ ((u ≡ w) × (p ≡ x) × (q ≡ y))
  seen_more w x y u p q s = elim (cases_eq u w) [
    | inl e ↦ elim (cases_eq p x) [
      | inl f ↦ elim (cases_eq q y) [
        | inl g ↦ inr (e, f, g)
        | inr ne ↦ inl (keep (λ _ _. less q y (s.column e f) ne))
      ]
      | inr nf ↦ inl (keep (λ _ f. absurd (nf f)))
    ]
    | inr ne ↦ inl (keep (λ e _. absurd (ne e)))
  ]
    where
      keep : (u ≡ w → p ≡ x → q < y) → IsSeen l w x y u p q
      keep h = record { first = s.first; second = s.second; given = s.given; block = s.block; row = s.row; column = h }

      less : (m n : ℕ) → m < n + 1 → m ≢ n → m < n
      less m n lt ne = omega arith

  own_gap : (w x y : ℕ) (e : Candidate) → IsOf cells l e w x y → e.distance ≡ abs_diff e.left e.right → gap_at cells l w x y ≡ e.distance
  own_gap w x y e of d = ap₂ abs_diff (sym of.left) (sym of.right) ∙ sym d

  module _ (w x y : ℕ) (c e : Candidate) (b : IsBest cells l w x y c) (of : IsOf cells l e w x y) (d : e.distance ≡ abs_diff e.left e.right) where
    gap_here : (u p q : ℕ) → (u ≡ w) × (p ≡ x) × (q ≡ y) → gap_at cells l u p q ≡ e.distance
    gap_here u p q (f, g, h) = rw (f, g, h) (own_gap w x y e of d)

    number_here : (u p q : ℕ) → (u ≡ w) × (p ≡ x) × (q ≡ y) → number_at l u p q ≡ e.number
    number_here u p q (f, g, h) = rw (f, g, h) (sym of.number)

    ahead_most : IsAhead e c → c.distance ≤ e.distance
    ahead_most (inl lt) = omega arith
    ahead_most (inr (same, _)) = at_most c.distance e.distance (sym same)

    pub best_next : IsAhead e c → IsBest cells l w x (y + 1) e
    best_next ahead = record {
      found = inl (w, x, y, of);
      distance = d;
      greatest = λ u p q s. greatest u p q (seen_more w x y u p q s);
      least = λ u p q s lt. least u p q (seen_more w x y u p q s) lt ahead;
    }
      where
        greatest : (u p q : ℕ) → IsSeen l w x y u p q ⊎ ((u ≡ w) × (p ≡ x) × (q ≡ y)) → gap_at cells l u p q ≤ e.distance
        greatest u p q (inl s) = through (gap_at cells l u p q) c.distance e.distance (b.greatest u p q s) (ahead_most ahead)
        greatest u p q (inr same) = at_most (gap_at cells l u p q) e.distance (gap_here u p q same)

        swap : (n a m : ℕ) → n < a → a < m → n < m
        swap n a m p q = omega arith

        carry : (n a m : ℕ) → n < a → m ≡ a → n < m
        carry n a m p q = omega arith

        least : (u p q : ℕ) → IsSeen l w x y u p q ⊎ ((u ≡ w) × (p ≡ x) × (q ≡ y)) → number_at l u p q < e.number → IsAhead e c
            → gap_at cells l u p q < e.distance
        least u p q (inl s) lt (inl further) = below_through (gap_at cells l u p q) c.distance e.distance (b.greatest u p q s) further
        least u p q (inl s) lt (inr (same, lower)) =
            carry (gap_at cells l u p q) c.distance e.distance (b.least u p q s (swap (number_at l u p q) e.number c.number lt lower)) same
        least u p q (inr same) lt a = absurd (not_below_self (number_at l u p q) e.number (number_here u p q same) lt)

    pub best_stay : IsNotAhead e c → IsBest cells l w x (y + 1) c
    best_stay behind = record {
      found = b.found;
      distance = b.distance;
      greatest = λ u p q s. greatest u p q (seen_more w x y u p q s);
      least = λ u p q s lt. least u p q (seen_more w x y u p q s) lt;
    }
      where
        greatest : (u p q : ℕ) → IsSeen l w x y u p q ⊎ ((u ≡ w) × (p ≡ x) × (q ≡ y)) → gap_at cells l u p q ≤ c.distance
        greatest u p q (inl s) = b.greatest u p q s
        greatest u p q (inr same) = through (gap_at cells l u p q) e.distance c.distance (at_most (gap_at cells l u p q) e.distance (gap_here u p q same))
            behind.distance

        nearer : e.number < c.number → e.distance < c.distance
        nearer lt = elim (cases_eq e.distance c.distance) [
          | inl same ↦ absurd (over e.number c.number lt (behind.number same))
          | inr other ↦ less e.distance c.distance behind.distance other
        ]
          where
            over : (m n : ℕ) → m < n → n ≤ m → ⊥
            over m n p q = omega arith

            less : (m n : ℕ) → m ≤ n → m ≢ n → m < n
            less m n p q = omega arith

        least : (u p q : ℕ) → IsSeen l w x y u p q ⊎ ((u ≡ w) × (p ≡ x) × (q ≡ y)) → number_at l u p q < c.number → gap_at cells l u p q < c.distance
        least u p q (inl s) lt = b.least u p q s lt
        least u p q (inr same) lt =
            below_through (gap_at cells l u p q) e.distance c.distance (at_most (gap_at cells l u p q) e.distance (gap_here u p q same))
            (nearer (below_through e.number (number_at l u p q) c.number (at_most e.number (number_at l u p q) (sym (number_here u p q same))) lt))

  best_seen : (w x y w' x' y' : ℕ) (c : Candidate) → ((u p q : ℕ) → IsSeen l w' x' y' u p q → IsSeen l w x y u p q) → IsBest cells l w x y c
      → IsBest cells l w' x' y' c
  best_seen w x y w' x' y' c h b = record {
    found = b.found;
    distance = b.distance;
    greatest = λ u p q s. b.greatest u p q (h u p q s);
    least = λ u p q s lt. b.least u p q (h u p q s) lt;
  }

  -- a row that was walked to its end
  pub best_row : (w x : ℕ) (c : Candidate) → IsBest cells l w x l.seconds c → IsBest cells l w (x + 1) 0 c
  best_row w x c b = best_seen w x l.seconds w (x + 1) 0 c (λ u p q s. record {
    first = s.first;
    second = s.second;
    given = s.given;
    block = s.block;
    row = λ e. lower p x q (s.row e) (s.column e);
    column = λ _ _. s.second;
  }) b
    where
      lower : (p x q : ℕ) → p ≤ x + 1 → (p ≡ x + 1 → q < 0) → p ≤ x
      lower p x q le h = elim (cases_eq p (x + 1)) [
        | inl e ↦ absurd (let lt = h e in omega (arith, lt))
        | inr ne ↦ omega arith
      ]

  -- a block that was walked to its end
  pub best_block : (w : ℕ) (c : Candidate) → IsBest cells l w l.firsts 0 c → IsBest cells l (w + 1) 0 0 c
  best_block w c b = best_seen w l.firsts 0 (w + 1) 0 0 c (λ u p q s. record {
    first = s.first;
    second = s.second;
    given = s.given;
    block = lower u w p q s.block s.row s.column;
    row = λ _. most p l.firsts s.first;
    column = λ _ e. absurd (not_below_self p l.firsts e s.first);
  }) b
    where
      most : (m n : ℕ) → m < n → m ≤ n
      most m n lt = omega arith

      zero_of : (n : ℕ) → n ≤ 0 → n ≡ 0
      zero_of n le = omega arith

      lower : (u w p q : ℕ) → u ≤ w + 1 → (u ≡ w + 1 → p ≤ 0) → (u ≡ w + 1 → p ≡ 0 → q < 0) → u ≤ w
      lower u w p q le row column = elim (cases_eq u (w + 1)) [
        | inl e ↦ absurd (let lt = column e (zero_of p (row e)) in omega (arith, lt))
        | inr ne ↦ omega arith
      ]
