-- Cells of a block whose distances are known from others: of two levels one is enough.
use Rattle.std.proofs.Common.{ℕ, zero, suc, ◌+◌, ◌*◌, ◌≡◌, ◌<◌, ◌≤◌, List, get_or, refl, sym, ap, ap₂, subst, ◌∙◌, inl, inr, arith}
use Rattle.std.specs.Int.{abs_diff}
use Rattle.std.proofs.lemmas.Bool.{cases_eq}
use Rattle.count_table.specs.Vocabulary.{sum_below}
use Rattle.implied_differences.specs.declared.candidates.Candidate.{Candidate}
use Rattle.implied_differences.specs.declared.layout.Layout.{Layout}
use Rattle.implied_differences.specs.Candidates.{IsOutOfReach}
use Rattle.implied_differences.specs.Blocks.{value_at, row_at, column_at, block_at, number_at, IsPassedAt}
use Rattle.implied_differences.proofs.BlockSums.{term-most, sum-most}
use Rattle.implied_differences.proofs.Numbers.{through, below_through}

-- the distance at the levels x and y of a block
abbrev pub gap_in : List ℕ → Layout → ℕ → ℕ → ℕ → ℕ
gap_in cells l begin x y = abs_diff (value_at cells l begin x y * block_at cells l begin) (row_at cells l begin x * column_at cells l begin y)

sum-both : (n : ℕ) (f g : ℕ → ℕ) → sum_below n (λ k. f k + g k) ≡ sum_below n f + sum_below n g
sum-both zero f g = refl
sum-both (suc n) f g = let a = sum-both n f g in omega (arith, a)

-- two cells of a row, and their columns' sums
turned : (u v c d : ℕ) → abs_diff (v * (c + d)) ((u + v) * d) ≡ abs_diff (u * (c + d)) ((u + v) * c)
turned u v c d =
    let e : v * (c + d) ≡ v * c + v * d = grind arith in
    let f : (u + v) * d ≡ u * d + v * d = grind arith in
    let g : u * (c + d) ≡ u * c + u * d = grind arith in
    let h : (u + v) * c ≡ u * c + v * c = grind arith in
    ap₂ abs_diff e f ∙ shifted (v * c) (u * d) (v * d) (u * c) ∙ sym (ap₂ abs_diff g h)
  where
    shifted : (p q k m : ℕ) → abs_diff (p + k) (q + k) ≡ abs_diff (m + q) (m + p)
    shifted p q k m = omega arith

two : (f : ℕ → ℕ) → sum_below 2 f ≡ f 0 + f 1
two f = omega arith

module _ (cells : List ℕ) (l : Layout) (begin : ℕ) where
  pub second_of_two : (x : ℕ) → l.seconds ≡ 2 → gap_in cells l begin x 1 ≡ gap_in cells l begin x 0
  second_of_two x e =
      let row : row_at cells l begin x ≡ value_at cells l begin x 0 + value_at cells l begin x 1 = ap (λ n. sum_below n (λ y. value_at cells l begin x y)) e
      ∙ two (λ y. value_at cells l begin x y) in
      let block : block_at cells l begin ≡ column_at cells l begin 0 + column_at cells l begin 1 = ap (λ n. sum_below n (λ y. column_at cells l begin y)) e
      ∙ two (λ y. column_at cells l begin y) in
      ap₂ (λ r b. abs_diff (value_at cells l begin x 1 * b) (r * column_at cells l begin 1)) row block
      ∙ turned (value_at cells l begin x 0) (value_at cells l begin x 1) (column_at cells l begin 0) (column_at cells l begin 1)
      ∙ sym (ap₂ (λ r b. abs_diff (value_at cells l begin x 0 * b) (r * column_at cells l begin 0)) row block)

  pub first_of_two : (y : ℕ) → l.firsts ≡ 2 → gap_in cells l begin 1 y ≡ gap_in cells l begin 0 y
  first_of_two y e =
      let column : (z : ℕ) → column_at cells l begin z ≡ value_at cells l begin 0 z + value_at cells l begin 1 z =
      λ z. ap (λ n. sum_below n (λ x. value_at cells l begin x z)) e ∙ two (λ x. value_at cells l begin x z) in
      let block : block_at cells l begin ≡ row_at cells l begin 0 + row_at cells l begin 1 =
      ap (λ n. sum_below l.seconds (λ z. sum_below n (λ x. value_at cells l begin x z))) e
      ∙ sum-alike l.seconds (λ z. sum_below 2 (λ x. value_at cells l begin x z)) (λ z. value_at cells l begin 0 z + value_at cells l begin 1 z)
      (λ z. two (λ x. value_at cells l begin x z))
      ∙ sum-both l.seconds (λ z. value_at cells l begin 0 z) (λ z. value_at cells l begin 1 z) in
      ap₂ (λ c b. abs_diff (value_at cells l begin 1 y * b) (row_at cells l begin 1 * c)) (column y) block
      ∙ crossed (value_at cells l begin 0 y) (value_at cells l begin 1 y) (row_at cells l begin 0) (row_at cells l begin 1)
      ∙ sym (ap₂ (λ c b. abs_diff (value_at cells l begin 0 y * b) (row_at cells l begin 0 * c)) (column y) block)
    where
      sum-alike : (n : ℕ) (f g : ℕ → ℕ) → ((k : ℕ) → f k ≡ g k) → sum_below n f ≡ sum_below n g
      sum-alike zero f g h = refl
      sum-alike (suc n) f g h = let a = sum-alike n f g h in let b = h n in omega (arith, a, b)

      crossed : (u v c d : ℕ) → abs_diff (v * (c + d)) (d * (u + v)) ≡ abs_diff (u * (c + d)) (c * (u + v))
      crossed u v c d =
          let e : d * (u + v) ≡ (u + v) * d = grind arith in
          let f : c * (u + v) ≡ (u + v) * c = grind arith in
          ap (λ n. abs_diff (v * (c + d)) n) e ∙ turned u v c d ∙ sym (ap (λ n. abs_diff (u * (c + d)) n) f)

  -- each sum is at most that of the block
  pub column_most : (y : ℕ) → y < l.seconds → column_at cells l begin y ≤ block_at cells l begin
  column_most y ly = term-most l.seconds (λ z. column_at cells l begin z) y ly

  pub value_most : (x y : ℕ) → x < l.firsts → y < l.seconds → value_at cells l begin x y ≤ block_at cells l begin
  value_most x y lx ly = through (value_at cells l begin x y) (column_at cells l begin y) (block_at cells l begin)
      (term-most l.firsts (λ z. value_at cells l begin z y) x lx) (column_most y ly)

  pub row_most : (x : ℕ) → x < l.firsts → row_at cells l begin x ≤ block_at cells l begin
  row_most x lx = sum-most l.seconds (λ y. value_at cells l begin x y) (λ y. column_at cells l begin y)
      (λ y ly. term-most l.firsts (λ z. value_at cells l begin z y) x lx)

first : (y n : ℕ) → y ≡ 0 → n ≡ 1 → y < n
first y n e f = omega arith

one : (y n : ℕ) → y < n → n ≡ 2 → (y ≡ 0 → ⊥) → y ≡ 1
one y n lt e nz = omega (arith, nz)

module _ (cells : List ℕ) (l : Layout) (begins : List ℕ) (width w : ℕ) (c : Candidate) where
  pub out_alike : (g h m n : ℕ) → h ≡ g → m ≤ n → IsOutOfReach c g m → IsOutOfReach c h n
  out_alike g h m n e le out = record {
    distance = subst (λ k. k ≤ c.distance) (sym e) out.distance;
    number = λ lt. subst (λ k. k < c.distance) (sym e) (out.number (below_through m n c.number le lt));
  }

  -- where the first level of b is passed, so is the second of two
  pub passed_second : (x : ℕ) → l.seconds ≡ 2 → IsPassedAt cells l begins width w x 0 c → IsPassedAt cells l begins width w x 1 c
  passed_second x e h = record {
    each = λ j lt. out_alike (gap_in cells l (get_or begins j 0) x 0) (gap_in cells l (get_or begins j 0) x 1) (number_at l (w + j) x 0)
        (number_at l (w + j) x 1)
        (second_of_two cells l (get_or begins j 0) x e) (later x l.seconds l.count (w + j)) (h.each j lt);
  }
    where
      later : (x n k u : ℕ) → (x * n + 0) * k + u ≤ (x * n + 1) * k + u
      later x n k u = let e : (x * n + 1) * k ≡ (x * n + 0) * k + k = grind arith in omega (arith, e)

  -- the same of a
  pub passed_first : (y : ℕ) → l.firsts ≡ 2 → IsPassedAt cells l begins width w 0 y c → IsPassedAt cells l begins width w 1 y c
  passed_first y e h = record {
    each = λ j lt. out_alike (gap_in cells l (get_or begins j 0) 0 y) (gap_in cells l (get_or begins j 0) 1 y) (number_at l (w + j) 0 y)
        (number_at l (w + j) 1 y)
        (first_of_two cells l (get_or begins j 0) y e) (later y l.seconds l.count (w + j)) (h.each j lt);
  }
    where
      later : (y n k u : ℕ) → (0 * n + y) * k + u ≤ (1 * n + y) * k + u
      later y n k u = let e : (1 * n + y) * k ≡ (0 * n + y) * k + n * k = grind arith in omega (arith, e)

  -- the levels that are looked at are enough
  pub seconds_passed : (x seen : ℕ) → (l.seconds ≡ 2 → seen ≡ 1) → ((l.seconds ≡ 2 → ⊥) → seen ≡ l.seconds)
      → ((y : ℕ) → y < seen → IsPassedAt cells l begins width w x y c)
      → (y : ℕ) → y < l.seconds → IsPassedAt cells l begins width w x y c
  seconds_passed x seen pair other h y lt = elim (cases_eq l.seconds 2) [
    | inl e ↦ elim (cases_eq y 0) [
      | inl z ↦ h y (first y seen z (pair e))
      | inr nz ↦ subst (λ k. IsPassedAt cells l begins width w x k c) (sym (one y l.seconds lt e nz)) (passed_second x e (h 0 (first 0 seen refl (pair e))))
    ]
    | inr ne ↦ h y (subst (λ n. y < n) (sym (other ne)) lt)
  ]

  pub firsts_passed : (seen : ℕ) → (l.firsts ≡ 2 → seen ≡ 1) → ((l.firsts ≡ 2 → ⊥) → seen ≡ l.firsts)
      → ((x : ℕ) → x < seen → (y : ℕ) → y < l.seconds → IsPassedAt cells l begins width w x y c)
      → (x y : ℕ) → x < l.firsts → y < l.seconds → IsPassedAt cells l begins width w x y c
  firsts_passed seen pair other h x y lt ly = elim (cases_eq l.firsts 2) [
    | inl e ↦ elim (cases_eq x 0) [
      | inl z ↦ h x (first x seen z (pair e)) y ly
      | inr nz ↦ subst (λ k. IsPassedAt cells l begins width w k y c) (sym (one x l.firsts lt e nz)) (passed_first y e (h 0 (first 0 seen refl (pair e)) y ly))
    ]
    | inr ne ↦ h x (subst (λ n. x < n) (sym (other ne)) lt) y ly
  ]

-- a level that is looked at is one
pub seen_below : (n seen k : ℕ) → (n ≡ 2 → seen ≡ 1) → ((n ≡ 2 → ⊥) → seen ≡ n) → k < seen → k < n
seen_below n seen k pair other lt = elim (cases_eq n 2) [
  | inl e ↦ (let f = pair e in omega (arith, lt, f))
  | inr ne ↦ subst (λ m. k < m) (other ne) lt
]
