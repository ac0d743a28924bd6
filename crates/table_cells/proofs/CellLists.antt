-- Lists of cells.
use Rattle.std.proofs.Common.{◌≡◌, ℕ, zero, suc, ◌+◌, ◌-◌, ◌<◌, ◌≤◌, List, [], ◌∷◌, ◌++◌, map, length, set, get_or, drop, true, All, refl, sym, ap, subst}
use Rattle.std.proofs.Common.{◌∙◌, arith, zero-add}
use Rattle.std.specs.List.{flat_map, range_with_len}
use Rattle.std.proofs.lemmas.List.{map-append, append-nil}
use Rattle.std.proofs.lemmas.List.Concat.{flat_map-append}
use Rattle.std.proofs.lemmas.List.Elements.{All-nil, All-cons, All-head, All-tail, All-append}
use Rattle.count_rows.specs.Vocabulary.{Table}
use Rattle.count_table.specs.Vocabulary.{cells_of}
use Rattle.count_eval.specs.Vocabulary.{is_used}
use Rattle.table_cells.specs.Cells.{with_levels, cells_along, level_count, IsCell}
use Rattle.table_cells.specs.Laws.{EachAlongIsCell}
use Rattle.table_cells.proofs.Tables.{set_is_cell}

-- ---- cells

-- no vertex varies
pub cells_none : (t : Table) (cell : List ℕ) → cells_along t cell [] ≡ cell ∷ []
unfolding cells_of
cells_none t cell = refl

one_number : (cell : List ℕ) (v : ℕ) (vs : List ℕ) (k : ℕ) (tails : List (List ℕ))
    → map (with_levels cell (v ∷ vs)) (map (λ (ks : List ℕ). k ∷ ks) tails) ≡ map (with_levels (set cell v k) vs) tails
one_number cell v vs k [] = refl
one_number cell v vs k (ks ∷ tails) = ap (λ (cs : List (List ℕ)). with_levels (set cell v k) vs ks ∷ cs) (one_number cell v vs k tails)

-- the cells of all numbers of the first vertex
pub each_number : (cell : List ℕ) (v : ℕ) (vs : List ℕ) (tails : List (List ℕ)) (numbers : List ℕ)
    → map (with_levels cell (v ∷ vs)) (flat_map (λ k. map (λ (ks : List ℕ). k ∷ ks) tails) numbers)
    ≡ flat_map (λ k. map (with_levels (set cell v k) vs) tails) numbers
each_number cell v vs tails [] = refl
each_number cell v vs tails (k ∷ numbers) =
    map-append (with_levels cell (v ∷ vs)) (map (λ (ks : List ℕ). k ∷ ks) tails) (flat_map (λ j. map (λ (ks : List ℕ). j ∷ ks) tails) numbers)
    ∙ ap (λ (cs : List (List ℕ)). cs ++ map (with_levels cell (v ∷ vs)) (flat_map (λ j. map (λ (ks : List ℕ). j ∷ ks) tails) numbers))
    (one_number cell v vs k tails)
    ∙ ap (λ (cs : List (List ℕ)). map (with_levels (set cell v k) vs) tails ++ cs) (each_number cell v vs tails numbers)

-- the cells by the level of the first vertex
pub cells_first : (t : Table) (cell : List ℕ) (v : ℕ) (vs : List ℕ) → cells_along t cell (v ∷ vs)
    ≡ flat_map (λ k. cells_along t (set cell v k) vs) (range_with_len 0 (level_count t v))
unfolding cells_of
cells_first t cell v vs = each_number cell v vs (cells_of (map (level_count t) vs)) (range_with_len 0 (level_count t v))

-- ---- numbers in order

range_split : (a i j : ℕ) → range_with_len a (i + j) ≡ range_with_len a i ++ range_with_len (a + i) j
range_split a zero j = ap (range_with_len a) (zero-add j) ∙ ap (λ b. range_with_len b j) {x = a} {y = a + zero} (omega arith)
range_split a (suc i) j =
    ap (range_with_len a) {x = suc i + j} {y = suc (i + j)} (omega arith)
    ∙ ap (λ (ks : List ℕ). a ∷ ks) (range_split (a + 1) i j)
    ∙ ap (λ b. a ∷ (range_with_len (a + 1) i ++ range_with_len b j)) {x = (a + 1) + i} {y = a + suc i} (omega arith)

-- one number more
pub numbers_more : {A : Type 0} (f : ℕ → List A) (k : ℕ) → flat_map f (range_with_len 0 (k + 1)) ≡ flat_map f (range_with_len 0 k) ++ f k
numbers_more f k =
    ap (flat_map f) (range_split 0 k 1)
    ∙ flat_map-append f (range_with_len 0 k) (range_with_len (0 + k) 1)
    ∙ ap (λ b. flat_map f (range_with_len 0 k) ++ (f b ++ [])) (zero-add k)
    ∙ ap (λ xs. flat_map f (range_with_len 0 k) ++ xs) (append-nil (f k))

-- those before k, k, and those behind it
pub numbers_around : {A : Type 0} (f : ℕ → List A) (k n : ℕ) → k < n
    → flat_map f (range_with_len 0 n) ≡ flat_map f (range_with_len 0 k) ++ (f k ++ flat_map f (range_with_len (k + 1) (n - (k + 1))))
numbers_around f k n lt =
    let m = n - (k + 1) in
    ap (λ j. flat_map f (range_with_len 0 j)) {x = n} {y = k + suc m} (omega (arith, lt))
    ∙ ap (flat_map f) (range_split 0 k (suc m))
    ∙ flat_map-append f (range_with_len 0 k) (range_with_len (0 + k) (suc m))
    ∙ ap (λ b. flat_map f (range_with_len 0 k) ++ (f b ++ flat_map f (range_with_len (b + 1) m))) (zero-add k)

-- ---- the first of some vertices

-- no vertex
pub cells_at_none : (t : Table) (cell vs : List ℕ) → length vs < 1 → cells_along t cell vs ≡ cell ∷ []
cells_at_none t cell [] lt = cells_none t cell
cells_at_none t cell (v ∷ vs) lt = absurd (omega (arith, lt))

-- the first and the others
pub cells_at_first : (t : Table) (cell vs : List ℕ) → 1 ≤ length vs
    → cells_along t cell vs ≡ flat_map (λ k. cells_along t (set cell (get_or vs 0 0) k) (drop 1 vs)) (range_with_len 0 (level_count t (get_or vs 0 0)))
cells_at_first t cell [] some = absurd (omega (arith, some))
cells_at_first t cell (v ∷ vs) some = cells_first t cell v vs

-- ---- each is a cell

-- what holds of each turn's lists
each_turn : {A : Type 0} (P : A → Type 0) (f : ℕ → List A) (a n : ℕ) → ((k : ℕ) → k < a + n → All P (f k)) → All P (flat_map f (range_with_len a n))
each_turn P f a zero h = All-nil P
each_turn P f a (suc n) h =
    All-append P (f a) (flat_map f (range_with_len (a + 1) n)) (h a (omega arith))
    (each_turn P f (a + 1) n (λ k lt. h k (omega (arith, lt))))

-- those along used vertices
pub each_along : EachAlongIsCell
each_along n t cell [] is used = subst (All (IsCell n t)) (sym (cells_none t cell)) (All-cons (IsCell n t) cell [] is (All-nil (IsCell n t)))
each_along n t cell (v ∷ vs) is used =
    subst (All (IsCell n t)) (sym (cells_first t cell v vs))
    (each_turn (IsCell n t) (λ k. cells_along t (set cell v k) vs) 0 (level_count t v)
    (λ k lt. each_along n t (set cell v k) vs
    (set_is_cell n t cell v k is (All-head (λ u. is_used t u ≡ true) v vs used) (omega (arith, lt)))
    (All-tail (λ u. is_used t u ≡ true) v vs used)))
