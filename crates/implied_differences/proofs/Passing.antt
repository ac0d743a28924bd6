-- Blocks that are passed over together.
use Rattle.std.proofs.Common.{ℕ, ◌+◌, ◌*◌, ◌-◌, ◌/◌, ◌≡◌, ◌<◌, ◌≤◌, List, get_or, subst, sym, inl, inr, ◌⊎◌, arith}
use Rattle.implied_differences.specs.declared.candidates.Candidate.{Candidate}
use Rattle.implied_differences.specs.declared.layout.Layout.{Layout}
use Rattle.implied_differences.specs.Candidates.{IsOutOfReach}
use Rattle.implied_differences.specs.Layouts.{base_of}
use Rattle.implied_differences.specs.Blocks.{block_at, gap_at, number_at, IsPassedAt, IsSeen, IsBest}
use Rattle.implied_differences.proofs.Numbers.{through, below_through}
use Rattle.implied_differences.proofs.Pairs.{gap_in}
use Rattle.implied_differences.proofs.Quarters.{gap_quarter, gap_most}
use Rattle.implied_differences.proofs.Visiting.{seen_before}

module _ (cells : List ℕ) (l : Layout) (w n : ℕ) (c : Candidate) where
  -- no cell of the n blocks from the wth on is ahead
  pub record ArePassed : Type 0 where
    pub greatest : (j p q : ℕ) → j < n → p < l.firsts → q < l.seconds → gap_at cells l (w + j) p q ≤ c.distance
    pub least : (j p q : ℕ) → j < n → p < l.firsts → q < l.seconds → number_at l (w + j) p q < c.number → gap_at cells l (w + j) p q < c.distance

  below_end : (u p q : ℕ) → IsSeen l (w + n) 0 0 u p q → u < w + n
  below_end u p q s = lower u (w + n) p q s.block s.row s.column
    where
      zero_of : (m : ℕ) → m ≤ 0 → m ≡ 0
      zero_of m le = omega arith

      at_end : (u v p q : ℕ) → (u ≡ v → p ≤ 0) → (u ≡ v → p ≡ 0 → q < 0) → u ≡ v → ⊥
      at_end u v p q row column e = let lt = column e (zero_of p (row e)) in omega (arith, lt)

      lower : (u v p q : ℕ) → u ≤ v → (u ≡ v → p ≤ 0) → (u ≡ v → p ≡ 0 → q < 0) → u < v
      lower u v p q le row column = let no = at_end u v p q row column in omega (arith, le, no)

  split : (u : ℕ) → u < w + n → (u < w) ⊎ ((j : ℕ) × (j < n) × (w + j ≡ u))
  split u lt = elim (either u w) [
    | inl less ↦ inl less
    | inr le ↦ inr (u - w, below u w n le lt, back u w le)
  ]
    where
      either : (m n : ℕ) → (m < n) ⊎ (n ≤ m)
      either m n = grind arith

      below : (m k n : ℕ) → k ≤ m → m < k + n → m - k < n
      below m k n le lt = omega arith

      back : (m k : ℕ) → k ≤ m → k + (m - k) ≡ m
      back m k le = omega arith

  pub best_passed : IsBest cells l w 0 0 c → ArePassed → IsBest cells l (w + n) 0 0 c
  best_passed b h = record {
    found = b.found;
    distance = b.distance;
    greatest = λ u p q s. greatest u p q s (split u (below_end u p q s));
    least = λ u p q s lt. least u p q s (split u (below_end u p q s)) lt;
  }
    where
      greatest : (u p q : ℕ) → IsSeen l (w + n) 0 0 u p q → (u < w) ⊎ ((j : ℕ) × (j < n) × (w + j ≡ u)) → gap_at cells l u p q ≤ c.distance
      greatest u p q s (inl lt) = b.greatest u p q (seen_before l w u p q lt s.first s.second s.given)
      greatest u p q s (inr (j, lt, e)) = subst (λ v. gap_at cells l v p q ≤ c.distance) e (h.greatest j p q lt s.first s.second)

      least : (u p q : ℕ) → IsSeen l (w + n) 0 0 u p q → (u < w) ⊎ ((j : ℕ) × (j < n) × (w + j ≡ u)) → number_at l u p q < c.number
          → gap_at cells l u p q < c.distance
      least u p q s (inl lt) less = b.least u p q (seen_before l w u p q lt s.first s.second s.given) less
      least u p q s (inr (j, lt, e)) less =
          subst (λ v. gap_at cells l v p q < c.distance) e (h.least j p q lt s.first s.second (subst (λ v. number_at l v p q < c.number) (sym e) less))

-- nor is one, where no block's sum is large enough
pub sums_passed : (cells : List ℕ) (l : Layout) (w n most : ℕ) (c : Candidate) → ((j : ℕ) → j < n → block_at cells l (base_of l (w + j)) ≤ most)
    → IsOutOfReach c (most * most / 4) w → ArePassed cells l w n c
sums_passed cells l w n most c sums out = record {
  greatest = λ j p q lt lp lq. through (gap_at cells l (w + j) p q) (most * most / 4) c.distance (near j p q lt lp lq) out.distance;
  least = λ j p q lt lp lq less. below_through (gap_at cells l (w + j) p q) (most * most / 4) c.distance (near j p q lt lp lq) (out.number (lower j p q less));
}
  where
    near : (j p q : ℕ) → j < n → p < l.firsts → q < l.seconds → gap_at cells l (w + j) p q ≤ most * most / 4
    near j p q lt lp lq =
        let begin = base_of l (w + j) in
        gap_most (block_at cells l begin) most (gap_at cells l (w + j) p q) (gap_quarter cells l begin p q lp lq) (sums j lt)

    lower : (j p q : ℕ) → number_at l (w + j) p q < c.number → w < c.number
    lower j p q less = omega (arith, less)

-- nor is one, where the cells at each two levels are passed
pub cells_passed : (cells : List ℕ) (l : Layout) (begins : List ℕ) (w n : ℕ) (c : Candidate) → ((j : ℕ) → j < n → get_or begins j 0 ≡ base_of l (w + j))
    → ((x y : ℕ) → x < l.firsts → y < l.seconds → IsPassedAt cells l begins n w x y c) → ArePassed cells l w n c
cells_passed cells l begins w n c bases h = record {
  greatest = λ j p q lt lp lq. subst (λ b. gap_in cells l b p q ≤ c.distance) (bases j lt) ((h p q lp lq).each j lt).distance;
  least = λ j p q lt lp lq less. subst (λ b. gap_in cells l b p q < c.distance) (bases j lt) (((h p q lp lq).each j lt).number less);
}
