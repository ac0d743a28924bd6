-- Where the sum for a cell stands, and what the sums over levels are.
use Rattle.std.proofs.Common.{ℕ, suc, ◌+◌, ◌*◌, ◌-◌, ◌≡◌, ◌≢◌, ◌<◌, ◌≤◌, Bool, true, false, cond, ◌||◌, List, [], ◌∷◌, ◌++◌, length, get_or, map, All}
use Rattle.std.proofs.Common.{refl, sym, ap, ap₂, subst, ◌∙◌, inl, inr, arith}
use Rattle.std.specs.Int.{abs_diff}
use Rattle.std.specs.List.{AllPairs, filter}
use Rattle.std.proofs.lemmas.Bool.{ne_eqb}
use Rattle.std.proofs.lemmas.Bool.Decides.{eqb_tells}
use Rattle.std.proofs.lemmas.List.{length-map, map-append}
use Rattle.count_table.specs.Vocabulary.{sum_below, IsCell, place_of, levels_in, AreCounts, axes_of, place_at, cells_over, AreSums}
use Rattle.mixed_graph.specs.Vocabulary.{has}
use Rattle.count_rows.specs.Vocabulary.{Field, product, Table, counted}
use Rattle.count_table.proofs.CellLists.{place_of-lt}
use Rattle.count_table.proofs.TableSteps.{IsCell-length}
use Rattle.count_table.proofs.SumCells.{place_of-append, IsCell-append, IsCell-split, cell_with}
use Rattle.count_table.proofs.Choosing.{size_in, axes-are}
use Rattle.count_table.proofs.Counting.{put_level, put-same, put-other, counted-over, IsWith, HasLevel, sum-same}
use Rattle.count_table.proofs.Lists.{map-same, product-append, product-pos}
use Rattle.count_table.proofs.VertexSums.{row-levels}
use Rattle.implications.specs.declared.pairs.Implication.{Implication}
use Rattle.implications.specs.Vocabulary.{only}
use Rattle.implied_differences.specs.declared.layout.Layout.{Layout}
use Rattle.implied_differences.specs.Differences.{whole_of, first_of_pair, second_of_pair, left, right, distance, IsReadable, axes_in}
use Rattle.implied_differences.specs.Layouts.{between_pair, behind_pair, IsLayoutOf, IsStepped, base_of, gap_of}
use Rattle.implied_differences.specs.Blocks.{value_at, row_at, column_at, block_at, AreBlocks, left_at, right_at, gap_at, number_at}
use Rattle.implied_differences.proofs.Agreeing.{counted_most}
use Rattle.implied_differences.proofs.Bases.{base_is}
use Rattle.implied_differences.proofs.Parts.{before_pair, ascending_tail, given_parts, whole_parts}
use Rattle.implied_differences.proofs.Walking.{a_level, b_level, a_outside, b_outside}

-- a vertex with a level stands among the vertices of the table
index_of : (vs : List ℕ) (levels : List (List Field)) (v : ℕ) → 0 < length (levels_in vs levels v) → (j : ℕ) × ((j < length vs) × (get_or vs j 0 ≡ v))
index_of [] levels v lt = absurd (omega arith)
index_of (u ∷ us) [] v lt = absurd (omega arith)
index_of (u ∷ us) (ys ∷ levels) v lt = elim (eqb_tells u v) [
  | inl same ↦ (0, (omega arith, same.1))
  | inr other ↦
      let e = ap (λ b. length (cond b ys (levels_in us levels v))) other.0 in
      let (j, (less, is)) = index_of us levels v (omega (arith, lt, e)) in
      (suc j, (omega arith, is))
]

or_swap : (x y : Bool) → (x || y) ≡ (y || x)
or_swap true true = refl
or_swap true false = refl
or_swap false true = refl
or_swap false false = refl

-- ---- cells of lists of vertices

module _ (f s : ℕ → ℕ) where
  abbrev pub place_in : List ℕ → ℕ
  place_in vs = place_of (map f vs) (map s vs)

  abbrev pub IsCellOf : List ℕ → Type 0
  IsCellOf vs = IsCell (map f vs) (map s vs)

  abbrev pub many : List ℕ → ℕ
  many vs = product (map f vs)

  many-append : (us vs : List ℕ) → many (us ++ vs) ≡ many us * many vs
  many-append us vs = ap product (map-append f us vs) ∙ product-append (map f us) (map f vs)

  place-append : (us vs : List ℕ) → IsCellOf us → place_in (us ++ vs) ≡ place_in us * many vs + place_in vs
  place-append us vs h =
      ap (λ (l : List ℕ). place_of l (map s (us ++ vs))) (map-append f us vs) ∙ ap (place_of (map f us ++ map f vs)) (map-append s us vs)
      ∙ place_of-append (map f us) (map f vs) (map s us) (map s vs) h

  place-cons : (v : ℕ) (vs : List ℕ) → place_in (v ∷ vs) ≡ s v * many vs + place_in vs
  unfolding place_of
  place-cons v vs = refl

  cell-append : (us vs : List ℕ) → IsCellOf us → IsCellOf vs → IsCellOf (us ++ vs)
  cell-append us vs h k =
      let P : List ℕ → List ℕ → Type 0 = λ ns xs. IsCell ns xs in
      subst (λ (l : List ℕ). P (map f (us ++ vs)) l) (sym (map-append s us vs)) (subst (λ (l : List ℕ). P l (map s us ++ map s vs)) (sym (map-append f us vs))
      (IsCell-append (map f us) (map f vs) (map s us) (map s vs) h k))

  cell-split : (us vs : List ℕ) → IsCellOf (us ++ vs) → IsCellOf us × IsCellOf vs
  cell-split us vs h =
      let P : List ℕ → List ℕ → Type 0 = λ ns xs. IsCell ns xs in
      IsCell-split (map f us) (map f vs) (map s us) (map s vs) (length-map us s ∙ sym (length-map us f))
      (subst (λ (l : List ℕ). P (map f us ++ map f vs) l) (map-append s us vs) (subst (λ (l : List ℕ). P l (map s (us ++ vs))) (map-append f us vs) h))

  -- the cell of three parts, and of the same with two more vertices between them
  module _ (front middle rest : List ℕ) (a b : ℕ) where
    pub record ArePlaced : Type 0 where
      pub cell : IsCellOf ((front ++ a ∷ middle) ++ b ∷ rest)
      pub without : place_in ((front ++ middle) ++ rest) ≡ (place_in front * many middle + place_in middle) * many rest + place_in rest
      pub with : place_in ((front ++ a ∷ middle) ++ b ∷ rest)
          ≡ (place_in front * (f a * many middle) + (s a * many middle + place_in middle)) * (f b * many rest) + (s b * many rest + place_in rest)
      pub middle_less : place_in middle < many middle
      pub rest_less : place_in rest < many rest

    pub placed : s a < f a → s b < f b → IsCellOf ((front ++ middle) ++ rest) → ArePlaced
    placed la lb h =
        let (fm, r) = cell-split (front ++ middle) rest h in
        let (g, m) = cell-split front middle fm in
        let am : IsCellOf (a ∷ middle) = (la, m) in
        let br : IsCellOf (b ∷ rest) = (lb, r) in
        let head = cell-append front (a ∷ middle) g am in
        record {
          cell = cell-append (front ++ a ∷ middle) (b ∷ rest) head br;
          without = place-append (front ++ middle) rest fm ∙ ap (λ k. k * many rest + place_in rest) (place-append front middle g);
          with = place-append (front ++ a ∷ middle) (b ∷ rest) head
              ∙ ap₂ (λ k n. k * (f b * many rest) + n) (place-append front (a ∷ middle) g
              ∙ ap (λ k. place_in front * (f a * many middle) + k) (place-cons a middle)) (place-cons b rest);
          middle_less = place_of-lt (map f middle) (map s middle) m;
          rest_less = place_of-lt (map f rest) (map s rest) r;
        }

    pub many_with : many ((front ++ a ∷ middle) ++ b ∷ rest) ≡ (many front * (f a * many middle)) * (f b * many rest)
    many_with = many-append (front ++ a ∷ middle) (b ∷ rest) ∙ ap (λ k. k * (f b * many rest)) (many-append front (a ∷ middle))

    pub many_without : many ((front ++ middle) ++ rest) ≡ (many front * many middle) * many rest
    many_without = many-append (front ++ middle) rest ∙ ap (λ k. k * many rest) (many-append front middle)

-- an assignment with these levels of these vertices
assigned : List ℕ → List ℕ → ℕ → ℕ
assigned [] xs u = 0
assigned (v ∷ vs) [] u = 0
assigned (v ∷ vs) (x ∷ xs) u = put_level (assigned vs xs) v x u

map-assigned : (vs xs : List ℕ) → AllPairs (λ u v. u < v) vs → length xs ≡ length vs → map (assigned vs xs) vs ≡ xs
unfolding assigned
map-assigned [] [] up e = refl
map-assigned [] (x ∷ xs) up e = absurd (omega arith)
map-assigned (v ∷ vs) [] up e = absurd (omega arith)
map-assigned (v ∷ vs) (x ∷ xs) up e =
    ap₂ (λ n (l : List ℕ). n ∷ l) (put-same (assigned vs xs) v x)
    (map-same (put_level (assigned vs xs) v x) (assigned vs xs) vs (λ i d lt. put-other (assigned vs xs) v x (get_or vs i d) (apart i d lt))
    ∙ map-assigned vs xs (ascending_tail v vs up) (omega arith))
  where
    apart : (i d : ℕ) → i < length vs → get_or vs i d ≢ v
    apart i d lt = λ same. (let less : v < get_or vs i d = up 0 (suc i) d (omega arith) (omega arith) in omega (arith, less, same))

-- ---- an implication

module _ (t : Table) (are : AreCounts t) (i : Implication) (r : IsReadable t i) (l : Layout) (h : IsLayoutOf t i l) where
  abbrev pub IsCellIn : (ℕ → ℕ) → Type 0
  IsCellIn s = IsCell (axes_in t i).sizes (map s (axes_in t i).vertices)

  abbrev pub given_place : (ℕ → ℕ) → ℕ
  given_place s = place_at (axes_of t (has i.given.bits)) s

  a_at : (j : ℕ) × ((j < length t.vertices) × (get_or t.vertices j 0 ≡ i.a))
  a_at = index_of t.vertices t.levels i.a (a_level t are i r)

  b_at : (j : ℕ) × ((j < length t.vertices) × (get_or t.vertices j 0 ≡ i.b))
  b_at = index_of t.vertices t.levels i.b (b_level t are i r)

  parts_of_given : filter (has i.given.bits) t.vertices ≡ (filter (before_pair i) t.vertices ++ filter (between_pair i) t.vertices)
      ++ filter (behind_pair i) t.vertices
  parts_of_given = given_parts i t.vertices are.ascending

  parts_of_whole : filter (whole_of i) t.vertices ≡ (filter (before_pair i) t.vertices ++ i.a ∷ filter (between_pair i) t.vertices) ++ i.b
      ∷ filter (behind_pair i) t.vertices
  parts_of_whole = whole_parts i t.vertices are.ascending r.order r.a_apart r.b_apart a_at.0 b_at.0 a_at.1.0 a_at.1.1 b_at.1.0 b_at.1.1

  front : ℕ
  front = many (size_in t) (λ v. 0) (filter (before_pair i) t.vertices)

  stepped : IsStepped l
  stepped = record {
    firsts = subst (λ n. 0 < n) (sym h.firsts) (a_level t are i r);
    seconds = subst (λ n. 0 < n) (sym h.seconds) (b_level t are i r);
    between = subst (λ n. 0 < n) (sym h.between) (product-pos (axes_of t (between_pair i)).sizes (axes-are t (between_pair i) are).each);
    behind = subst (λ n. 0 < n) (sym h.second_step) (product-pos (axes_of t (behind_pair i)).sizes (axes-are t (behind_pair i) are).each);
    first_step = h.first_step;
  }

  module _ (s : ℕ → ℕ) (cell : IsCellIn s) where
    given_cell : IsCellOf (size_in t) s ((filter (before_pair i) t.vertices ++ filter (between_pair i) t.vertices) ++ filter (behind_pair i) t.vertices)
    given_cell = subst (λ (vs : List ℕ). IsCellOf (size_in t) s vs) parts_of_given cell.1.1

    placed_parts : ArePlaced (size_in t) s (filter (before_pair i) t.vertices) (filter (between_pair i) t.vertices) (filter (behind_pair i) t.vertices) i.a i.b
    placed_parts = placed (size_in t) s (filter (before_pair i) t.vertices) (filter (between_pair i) t.vertices) (filter (behind_pair i) t.vertices)
        i.a i.b cell.0 cell.1.0 given_cell

    whole_cell : IsCell (axes_of t (whole_of i)).sizes (map s (axes_of t (whole_of i)).vertices)
    whole_cell = subst (λ (vs : List ℕ). IsCellOf (size_in t) s vs) (sym parts_of_whole) placed_parts.cell

    -- the place in the sums over the whole
    spot : place_at (axes_of t (whole_of i)) s ≡ base_of l (given_place s) + s i.a * l.first_step + s i.b * l.second_step
    spot =
        let p = place_in (size_in t) s (filter (before_pair i) t.vertices) in
        let m = place_in (size_in t) s (filter (between_pair i) t.vertices) in
        let q = place_in (size_in t) s (filter (behind_pair i) t.vertices) in
        let given : given_place s ≡ p * (l.between * l.second_step) + (m * l.second_step + q) =
        ap (λ (vs : List ℕ). place_in (size_in t) s vs) parts_of_given ∙ placed_parts.without
        ∙ ap₂ (λ x y. (p * x + m) * y + q) (sym h.between) (sym h.second_step)
        ∙ two p l.between m l.second_step q in
        let begin = base_is l p m q (given_place s) given (subst (λ n. m < n) (sym h.between) placed_parts.middle_less)
        (subst (λ n. q < n) (sym h.second_step) placed_parts.rest_less) in
        ap (λ (vs : List ℕ). place_in (size_in t) s vs) parts_of_whole ∙ placed_parts.with
        ∙ ap₂ (λ x y. (p * (x * many (size_in t) s (filter (between_pair i) t.vertices))
        + (s i.a * many (size_in t) s (filter (between_pair i) t.vertices) + m)) * (y * many (size_in t) s (filter (behind_pair i) t.vertices))
        + (s i.b * many (size_in t) s (filter (behind_pair i) t.vertices) + q))
        (sym h.firsts) (sym h.seconds)
        ∙ ap₂ (λ x y. (p * (l.firsts * x) + (s i.a * x + m)) * (l.seconds * y) + (s i.b * y + q)) (sym h.between) (sym h.second_step)
        ∙ turn p l.firsts l.between (s i.a) m l.seconds l.second_step (s i.b) q
        ∙ ap (λ k. p * (l.firsts * k) + (m * (l.seconds * l.second_step) + q) + s i.a * k + s i.b * l.second_step) (sym h.first_step)
        ∙ ap (λ k. k + s i.a * l.first_step + s i.b * l.second_step) (sym begin)
      where
        two : (p n m y q : ℕ) → (p * n + m) * y + q ≡ p * (n * y) + (m * y + q)
        two p n m y q = grind arith

        turn : (p a n x m b y z q : ℕ) → (p * (a * n) + (x * n + m)) * (b * y) + (z * y + q) ≡ p * (a * (n * (b * y))) + (m * (b * y) + q) + x * (n * (b * y))
            + z * y
        turn p a n x m b y z q = grind arith

    inside : place_at (axes_of t (whole_of i)) s < cells_over (axes_of t (whole_of i))
    inside = place_of-lt (axes_of t (whole_of i)).sizes (map s (axes_of t (whole_of i)).vertices) whole_cell

    pub numbered : place_at (axes_in t i) s ≡ number_at l (given_place s) (s i.a) (s i.b)
    unfolding place_of
    numbered =
        horner (s i.a) (size_in t i.b) (cells_over (axes_of t (has i.given.bits))) (s i.b) (given_place s)
        ∙ ap₂ (λ x y. (s i.a * x + s i.b) * y + given_place s) (sym h.seconds) (sym h.count)
      where
        horner : (x b g y w : ℕ) → x * (b * g) + (y * g + w) ≡ (x * b + y) * g + w
        horner x b g y w = grind arith

    pub first_below : s i.a < l.firsts
    first_below = subst (λ n. s i.a < n) (sym h.firsts) cell.0

    pub second_below : s i.b < l.seconds
    second_below = subst (λ n. s i.b < n) (sym h.seconds) cell.1.0

    pub given_below : given_place s < l.count
    given_below = subst (λ n. given_place s < n) (sym h.count)
        (place_of-lt (axes_of t (has i.given.bits)).sizes (map s (axes_of t (has i.given.bits)).vertices) cell.1.1)

  -- a level of a or b replaced
  a_not_b : i.a ≢ i.b
  a_not_b = λ e. (let lt = r.order in omega (arith, lt, e))

  b_not_a : i.b ≢ i.a
  b_not_a = λ e. (let lt = r.order in omega (arith, lt, e))

  given_kept : (s : ℕ → ℕ) (v x : ℕ) → All (λ u. u ≢ v) (filter (has i.given.bits) t.vertices) → map (put_level s v x) (filter (has i.given.bits) t.vertices)
      ≡ map s (filter (has i.given.bits) t.vertices)
  given_kept s v x none = map-same (put_level s v x) s (filter (has i.given.bits) t.vertices)
      (λ j d lt. put-other s v x (get_or (filter (has i.given.bits) t.vertices) j d) (none j d lt))

  cell_from : (s : ℕ → ℕ) → s i.a < size_in t i.a → s i.b < size_in t i.b → IsCellOf (size_in t) s (filter (has i.given.bits) t.vertices) → IsCellIn s
  cell_from s la lb c = (la, (lb, c))

  same_given : (s s' : ℕ → ℕ) → map s' (filter (has i.given.bits) t.vertices) ≡ map s (filter (has i.given.bits) t.vertices)
      → IsCellOf (size_in t) s (filter (has i.given.bits) t.vertices) → IsCellOf (size_in t) s' (filter (has i.given.bits) t.vertices)
  same_given s s' e c =
      let P : List ℕ → List ℕ → Type 0 = λ ns xs. IsCell ns xs in
      subst (λ (xs : List ℕ). P (map (size_in t) (filter (has i.given.bits) t.vertices)) xs) (sym e) c

  put_a : (s : ℕ → ℕ) (x : ℕ) → IsCellIn s → x < size_in t i.a → IsCellIn (put_level s i.a x)
  put_a s x c lt =
      cell_from (put_level s i.a x) (subst (λ n. n < size_in t i.a) (sym (put-same s i.a x)) lt)
      (subst (λ n. n < size_in t i.b) (sym (put-other s i.a x i.b b_not_a)) c.1.0)
      (same_given s (put_level s i.a x) (given_kept s i.a x (a_outside t are i r)) c.1.1)

  put_b : (s : ℕ → ℕ) (y : ℕ) → IsCellIn s → y < size_in t i.b → IsCellIn (put_level s i.b y)
  put_b s y c lt =
      cell_from (put_level s i.b y) (subst (λ n. n < size_in t i.a) (sym (put-other s i.b y i.a a_not_b)) c.0)
      (subst (λ n. n < size_in t i.b) (sym (put-same s i.b y)) lt)
      (same_given s (put_level s i.b y) (given_kept s i.b y (b_outside t are i r)) c.1.1)

  place_put_a : (s : ℕ → ℕ) (x : ℕ) → given_place (put_level s i.a x) ≡ given_place s
  place_put_a s x = ap (λ (xs : List ℕ). place_of (map (size_in t) (filter (has i.given.bits) t.vertices)) xs) (given_kept s i.a x (a_outside t are i r))

  place_put_b : (s : ℕ → ℕ) (y : ℕ) → given_place (put_level s i.b y) ≡ given_place s
  place_put_b s y = ap (λ (xs : List ℕ). place_of (map (size_in t) (filter (has i.given.bits) t.vertices)) xs) (given_kept s i.b y (b_outside t are i r))

  -- there is a cell with these levels and this place
  pub record HasCoordinates (x y w : ℕ) (s : ℕ → ℕ) : Type 0 where
    pub cell : IsCellIn s
    pub first : s i.a ≡ x
    pub second : s i.b ≡ y
    pub given : given_place s ≡ w

  pub assignment : (x y w : ℕ) → x < l.firsts → y < l.seconds → w < l.count → (s : ℕ → ℕ) × HasCoordinates x y w s
  assignment x y w lx ly lw =
      let vs = filter (has i.given.bits) t.vertices in
      let (xs, c) = cell_with (map (size_in t) vs) w (subst (λ n. w < n) h.count lw) in
      let wide : length xs ≡ length vs = IsCell-length (map (size_in t) vs) xs c.cell ∙ length-map vs (size_in t) in
      let levels : map (assigned vs xs) vs ≡ xs = map-assigned vs xs (axes-are t (has i.given.bits) are).ascending wide in
      let s = put_level (put_level (assigned vs xs) i.b y) i.a x in
      let kept : map s vs ≡ xs = given_kept (put_level (assigned vs xs) i.b y) i.a x (a_outside t are i r)
      ∙ given_kept (assigned vs xs) i.b y (b_outside t are i r) ∙ levels in
      let first : s i.a ≡ x = put-same (put_level (assigned vs xs) i.b y) i.a x in
      let second : s i.b ≡ y = put-other (put_level (assigned vs xs) i.b y) i.a x i.b b_not_a ∙ put-same (assigned vs xs) i.b y in
      let P : List ℕ → List ℕ → Type 0 = λ ns zs. IsCell ns zs in (
        s,
        record {
          cell = cell_from s (subst (λ n. n < size_in t i.a) (sym first) (subst (λ n. x < n) h.firsts lx))
              (subst (λ n. n < size_in t i.b) (sym second) (subst (λ n. y < n) h.seconds ly))
              (subst (λ (zs : List ℕ). P (map (size_in t) vs) zs) (sym kept) c.cell);
          first = first;
          second = second;
          given = ap (λ (zs : List ℕ). place_of (map (size_in t) vs) zs) kept ∙ c.place;
        },
      )

  -- ---- the sums

  module _ (cells : List ℕ) (sums : AreSums t (whole_of i) cells) where
    whole_is : (s : ℕ → ℕ) → IsCellIn s → counted t.vertices t.rows (whole_of i) s ≡ value_at cells l (base_of l (given_place s)) (s i.a) (s i.b)
    whole_is s c = sym (sums.each s (whole_cell s c)) ∙ ap (λ k. get_or cells k 0) (spot s c)

    with_b : IsWith (whole_of i) (first_of_pair i) i.b
    with_b = record {
      with = λ u. turn (only i.a u) (only i.b u) (has i.given.bits u);
      without = ap (λ b. b || has i.given.bits i.b) (ne_eqb i.b i.a b_not_a) ∙ r.b_apart;
    }
      where
        turn : (x y z : Bool) → (x || (y || z)) ≡ ((x || z) || y)
        turn true y z = refl
        turn false y z = or_swap y z

    with_a : IsWith (whole_of i) (second_of_pair i) i.a
    with_a = record {
      with = λ u. or_swap (only i.a u) (only i.b u || has i.given.bits u);
      without = ap (λ b. b || has i.given.bits i.a) (ne_eqb i.a i.b a_not_b) ∙ r.a_apart;
    }

    given_with_b : IsWith (second_of_pair i) (has i.given.bits) i.b
    given_with_b = record { with = λ u. or_swap (only i.b u) (has i.given.bits u); without = r.b_apart }

    over_b : (of without : ℕ → Bool) → IsWith of without i.b → (s : ℕ → ℕ) → counted t.vertices t.rows without s
        ≡ sum_below (size_in t i.b) (λ y. counted t.vertices t.rows of (put_level s i.b y))
    over_b of without w s = sym (counted-over t.vertices t.rows of without s i.b b_at.0 (size_in t i.b) w are.ascending b_at.1.0 b_at.1.1
        (subst (λ v. All (HasLevel (length t.vertices) b_at.0 (size_in t v)) t.rows) b_at.1.1 (row-levels t are b_at.0 b_at.1.0)))

    over_a : (of without : ℕ → Bool) → IsWith of without i.a → (s : ℕ → ℕ) → counted t.vertices t.rows without s
        ≡ sum_below (size_in t i.a) (λ x. counted t.vertices t.rows of (put_level s i.a x))
    over_a of without w s = sym (counted-over t.vertices t.rows of without s i.a a_at.0 (size_in t i.a) w are.ascending a_at.1.0 a_at.1.1
        (subst (λ v. All (HasLevel (length t.vertices) a_at.0 (size_in t v)) t.rows) a_at.1.1 (row-levels t are a_at.0 a_at.1.0)))

    first_is : (s : ℕ → ℕ) → IsCellIn s → counted t.vertices t.rows (first_of_pair i) s ≡ row_at cells l (base_of l (given_place s)) (s i.a)
    first_is s c =
        over_b (whole_of i) (first_of_pair i) with_b s
        ∙ sum-same (size_in t i.b) (λ y. counted t.vertices t.rows (whole_of i) (put_level s i.b y))
        (λ y. value_at cells l (base_of l (given_place s)) (s i.a) y)
        (λ y lt. whole_is (put_level s i.b y) (put_b s y c lt)
        ∙ ap₂ (λ w x. value_at cells l (base_of l w) x (put_level s i.b y i.b)) (place_put_b s y) (put-other s i.b y i.a a_not_b)
        ∙ ap (λ z. value_at cells l (base_of l (given_place s)) (s i.a) z) (put-same s i.b y))
        ∙ ap (λ n. sum_below n (λ y. value_at cells l (base_of l (given_place s)) (s i.a) y)) (sym h.seconds)

    second_is : (s : ℕ → ℕ) → IsCellIn s → counted t.vertices t.rows (second_of_pair i) s ≡ column_at cells l (base_of l (given_place s)) (s i.b)
    second_is s c =
        over_a (whole_of i) (second_of_pair i) with_a s
        ∙ sum-same (size_in t i.a) (λ x. counted t.vertices t.rows (whole_of i) (put_level s i.a x))
        (λ x. value_at cells l (base_of l (given_place s)) x (s i.b))
        (λ x lt. whole_is (put_level s i.a x) (put_a s x c lt)
        ∙ ap₂ (λ w y. value_at cells l (base_of l w) (put_level s i.a x i.a) y) (place_put_a s x) (put-other s i.a x i.b b_not_a)
        ∙ ap (λ z. value_at cells l (base_of l (given_place s)) z (s i.b)) (put-same s i.a x))
        ∙ ap (λ n. sum_below n (λ x. value_at cells l (base_of l (given_place s)) x (s i.b))) (sym h.firsts)

    given_is : (s : ℕ → ℕ) → IsCellIn s → counted t.vertices t.rows (has i.given.bits) s ≡ block_at cells l (base_of l (given_place s))
    given_is s c =
        over_b (second_of_pair i) (has i.given.bits) given_with_b s
        ∙ sum-same (size_in t i.b) (λ y. counted t.vertices t.rows (second_of_pair i) (put_level s i.b y))
        (λ y. column_at cells l (base_of l (given_place s)) y)
        (λ y lt. second_is (put_level s i.b y) (put_b s y c lt)
        ∙ ap₂ (λ w z. column_at cells l (base_of l w) z) (place_put_b s y) (put-same s i.b y))
        ∙ ap (λ n. sum_below n (λ y. column_at cells l (base_of l (given_place s)) y)) (sym h.seconds)

    pub left_is : (s : ℕ → ℕ) → IsCellIn s → left t i s ≡ left_at cells l (given_place s) (s i.a) (s i.b)
    left_is s c = ap₂ (λ x y. x * y) (whole_is s c) (given_is s c)

    pub right_is : (s : ℕ → ℕ) → IsCellIn s → right t i s ≡ right_at cells l (given_place s) (s i.a) (s i.b)
    right_is s c = ap₂ (λ x y. x * y) (first_is s c) (second_is s c)

    pub distance_is : (s : ℕ → ℕ) → IsCellIn s → distance t i s ≡ gap_at cells l (given_place s) (s i.a) (s i.b)
    distance_is s c = ap₂ abs_diff (left_is s c) (right_is s c)

    -- ---- the blocks are inside

    within : (x y w : ℕ) → x < l.firsts → y < l.seconds → w < l.count → base_of l w + x * l.first_step + y * l.second_step < length cells
    within x y w lx ly lw =
        let (s, c) = assignment x y w lx ly lw in
        let here : place_at (axes_of t (whole_of i)) s ≡ base_of l w + x * l.first_step + y * l.second_step =
        spot s c.cell ∙ ap₂ (λ u v. base_of l u + v * l.first_step + s i.b * l.second_step) c.given c.first
        ∙ ap (λ v. base_of l w + x * l.first_step + v * l.second_step) c.second in
        let less = inside s c.cell in
        let long = sums.long in
        omega (arith, here, less, long)

    small_sum : (w : ℕ) → w < l.count → block_at cells l (base_of l w) ≤ 1000000000000000
    small_sum w lw =
        let (s, c) = assignment 0 0 w stepped.firsts stepped.seconds lw in
        subst (λ u. block_at cells l (base_of l u) ≤ 1000000000000000) c.given
        (subst (λ n. n ≤ 1000000000000000) (given_is s c.cell) (counted_most t are (has i.given.bits) s))

    some_given : 0 < l.count
    some_given = subst (λ n. 0 < n) (sym h.count) (product-pos (axes_of t (has i.given.bits)).sizes (axes-are t (has i.given.bits) are).each)

    few_cells : length cells ≤ 1048576
    few_cells = let long = sums.long in let few = (axes-are t (whole_of i) are).few in omega (arith, long, few)

    many_is : l.firsts * l.seconds * l.count ≡ length cells
    many_is =
        ap₂ (λ x y. x * y * l.count) h.firsts h.seconds
        ∙ ap (λ n. size_in t i.a * size_in t i.b * n) (h.count ∙ ap product (ap (map (size_in t)) parts_of_given)
        ∙ many_without (size_in t) (λ v. 0) (filter (before_pair i) t.vertices) (filter (between_pair i) t.vertices) (filter (behind_pair i) t.vertices)
        i.a i.b)
        ∙ turn (size_in t i.a) (size_in t i.b) (product (map (size_in t) (filter (before_pair i) t.vertices)))
        (product (map (size_in t) (filter (between_pair i) t.vertices))) (product (map (size_in t) (filter (behind_pair i) t.vertices)))
        ∙ sym (sums.long ∙ ap product (ap (map (size_in t)) parts_of_whole)
        ∙ many_with (size_in t) (λ v. 0) (filter (before_pair i) t.vertices) (filter (between_pair i) t.vertices) (filter (behind_pair i) t.vertices) i.a i.b)
      where
        turn : (a b p m q : ℕ) → a * b * ((p * m) * q) ≡ (p * (a * m)) * (b * q)
        turn a b p m q = grind arith

    pub blocks : AreBlocks cells l
    blocks = record {
      stepped = stepped;
      gap = gap_small (within (l.firsts - 1) (l.seconds - 1) 0 (below l.firsts stepped.firsts) (below l.seconds stepped.seconds) some_given);
      few = (let e = many_is in let few = few_cells in omega (arith, e, few));
      small = λ w lw. (let less = within 0 0 w stepped.firsts stepped.seconds lw in let few = few_cells in omega (arith, less, few));
      each = λ w lw. record { some = stepped.seconds; inside = λ x y lx ly. within x y w lx ly lw; few = small_sum w lw };
    }
      where
        below : (n : ℕ) → 0 < n → n - 1 < n
        below n lt = omega arith

        gap_small : base_of l 0 + (l.firsts - 1) * l.first_step + (l.seconds - 1) * l.second_step < length cells → gap_of l ≤ 1048576
        gap_small less = let few = few_cells in omega (arith, less, few)
