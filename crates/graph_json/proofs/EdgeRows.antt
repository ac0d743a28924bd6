-- Edges that are written row by row.
use Rattle.std.proofs.Common.{◌≡◌, ℕ, ◌+◌, ◌≤◌, Bool, ◌&&◌, List, [], ◌∷◌, ◌++◌, map, inl, inr, refl, sym, ap, ap₂, ◌∙◌, arith}
use Rattle.std.specs.Prelude.{nat_lt, not}
use Rattle.std.proofs.lemmas.Bool.{lt-ltb, le-ltb, cases_lt}
use Rattle.std.specs.List.{flat_map}
use Rattle.std.proofs.lemmas.List.{map-append}
use Rattle.mixed_graph.specs.Vocabulary.{has, members_below}
use Rattle.dag_reader.specs.Vocabulary.{count_up}
use Rattle.dag_reader.proofs.RowPairs.{rows_begin, rows_more}
use Rattle.dag_reader.proofs.Joined.{members-cut}
use Rattle.answer_json.specs.Progress.{Progress}
use Rattle.answer_json.specs.Vocabulary.{with_values, pair_json}
use Rattle.answer_json.proofs.Arrays.{both_written}

-- the pairs of vertex a
abbrev pub row : (joined : ℕ → ℕ → Bool) (n a : ℕ) → List (ℕ × ℕ)
row joined n a = map (λ b. (a, b)) (members_below (joined a) n)

-- with those of the vertices below k
abbrev pub with_rows : List (List ℕ) → (n : ℕ) → (ℕ → ℕ → Bool) → (k : ℕ) → Progress → Progress
with_rows names n joined k p = with_values (map (pair_json names) (flat_map (row joined n) (count_up k))) p

-- no vertex is below 0
pub no_rows : (names : List (List ℕ)) (n : ℕ) (joined : ℕ → ℕ → Bool) (p : Progress) → p ≡ with_rows names n joined 0 p
no_rows names n joined p = ap (λ pairs. with_values (map (pair_json names) pairs) p) (rows_begin [] (row joined n) refl)

-- each pair of a row is written
each_pair : (names : List (List ℕ)) (a : ℕ) (ends : List ℕ) → map (λ b. pair_json names (a, b)) ends ≡ map (pair_json names) (map (λ b. (a, b)) ends)
each_pair names a [] = refl
each_pair names a (b ∷ ends) = ap (λ js. pair_json names (a, b) ∷ js) (each_pair names a ends)

-- and those of one vertex more, whose ends are these
pub one_row_more : (names : List (List ℕ)) (n : ℕ) (joined : ℕ → ℕ → Bool) (a ends : ℕ) → n ≤ 64 → ((v : ℕ) → has ends v ≡ (joined a v && nat_lt v n))
    → (old p q : Progress) → p ≡ with_rows names n joined a old
    → q ≡ with_values (map (λ b. pair_json names (a, b)) (members_below (has ends) 64)) p → q ≡ with_rows names n joined (a + 1) old
one_row_more names n joined a ends few are old p q so is =
    let f = pair_json names in
    let before = flat_map (row joined n) (count_up a) in
    is
    ∙ ap (λ l. with_values (map (λ b. pair_json names (a, b)) l) p) (members-cut (joined a) (has ends) n 64 few are)
    ∙ ap (λ js. with_values js p) (each_pair names a (members_below (joined a) n))
    ∙ ap (with_values (map f (row joined n a))) so
    ∙ sym (both_written (map f before) (map f (row joined n a)) old)
    ∙ ap (λ js. with_values js old) (sym (map-append f before (row joined n a)))
    ∙ ap (λ pairs. with_values (map f pairs) old) (rows_more before (before ++ row joined n a) (row joined n) a refl refl)

-- ---- rows

-- a row that is cut off at n
pub cut_off : (n row all ends : ℕ) (s : ℕ → Bool) → ((v : ℕ) → has row v ≡ s v) → ((v : ℕ) → has all v ≡ nat_lt v n)
    → ((v : ℕ) → has ends v ≡ (has row v && has all v)) → (v : ℕ) → has ends v ≡ (s v && nat_lt v n)
cut_off n row all ends s is below both v = both v ∙ ap₂ (λ p q. p && q) (is v) (below v)

-- what isn't below a + 1 is behind a
behind : (a v : ℕ) → not (nat_lt v (a + 1)) ≡ nat_lt a v
behind a v = elim (cases_lt a v) [
  | inl lt ↦ ap not (le-ltb v (a + 1) (omega (arith, lt))) ∙ sym (lt-ltb a v lt)
  | inr ge ↦ ap not (lt-ltb v (a + 1) (omega (arith, ge))) ∙ sym (le-ltb a v ge)
]

-- a row without what is below a + 1
pub behind_in : (a row until later : ℕ) (s : ℕ → Bool) → ((v : ℕ) → has row v ≡ s v) → ((v : ℕ) → has until v ≡ nat_lt v (a + 1))
    → ((v : ℕ) → has later v ≡ (has row v && not (has until v))) → (v : ℕ) → has later v ≡ (s v && nat_lt a v)
behind_in a row until later s is below both v = both v ∙ ap₂ (λ p q. p && not q) (is v) (below v) ∙ ap (λ q. s v && q) (behind a v)
