-- The first cell in whose stratum bounds cross.
use Rattle.std.proofs.Common.{◌≡◌, ℕ, ◌+◌, ◌-◌, ◌<◌, ◌≤◌, Bool, true, false, cond, List, [], ◌∷◌, ◌++◌, length, set, get_or, drop, refl, ap, sym}
use Rattle.std.proofs.Common.{Some, None, ◌∙◌}
use Rattle.std.specs.Option.{option_or}
use Rattle.std.specs.List.{find, flat_map, range_with_len}
use Rattle.std.proofs.lemmas.List.Folds.{find-append}
use Rattle.count_rows.specs.Vocabulary.{Table}
use Rattle.table_cells.specs.Vocabulary.{cells_along, level_count}
use Rattle.table_cells.proofs.CellLists.{cells_at_first, numbers_more, numbers_around}

module _ {A : Type 0} (p : A → Bool) where
  pub found_here : (x : A) → p x ≡ true → find p (x ∷ []) ≡ Some x
  found_here x e = ap (λ b. cond b (Some x) None) e

  pub none_here : (x : A) → p x ≡ false → find p (x ∷ []) ≡ None
  none_here x e = ap (λ b. cond b (Some x) None) e

  pub none_in_both : (xs ys : List A) → find p xs ≡ None → find p ys ≡ None → find p (xs ++ ys) ≡ None
  none_in_both xs ys e f = find-append p xs ys ∙ ap (λ o. option_or o (find p ys)) e ∙ f

  pub found_later : (xs ys zs : List A) (a : A) → find p xs ≡ None → find p ys ≡ Some a → find p (xs ++ (ys ++ zs)) ≡ Some a
  found_later xs ys zs a e f =
      find-append p xs (ys ++ zs) ∙ ap (λ o. option_or o (find p (ys ++ zs))) e ∙ find-append p ys zs ∙ ap (λ o. option_or o (find p zs)) f

  -- nothing passes a test that nothing passes
  pub none_at_all : ((x : A) → p x ≡ false) → (xs : List A) → find p xs ≡ None
  none_at_all never [] = refl
  none_at_all never (x ∷ xs) = ap (λ b. cond b (Some x) (find p xs)) (never x) ∙ none_at_all never xs

-- ---- a test of cells along vertices
module _ (p : List ℕ → Bool) (t : Table) (cell vs : List ℕ) (rest : List ℕ) (v : ℕ) (is_v : v ≡ get_or vs 0 0) (is_rest : rest ≡ drop 1 vs)
    (some : 1 ≤ length vs) where
  -- the cells at a level of the first vertex
  abbrev pub at_level : ℕ → List (List ℕ)
  at_level j = cells_along t (set cell v j) rest

  pub whole : flat_map at_level (range_with_len 0 (level_count t v)) ≡ cells_along t cell vs
  whole =
      ap (λ us. flat_map (λ j. cells_along t (set cell v j) us) (range_with_len 0 (level_count t v))) is_rest
      ∙ ap (λ u. flat_map (λ j. cells_along t (set cell u j) (drop 1 vs)) (range_with_len 0 (level_count t u))) is_v
      ∙ sym (cells_at_first t cell vs some)

  pub none_turn : (k : ℕ) → find p (flat_map at_level (range_with_len 0 k)) ≡ None → find p (at_level k) ≡ None
      → find p (flat_map at_level (range_with_len 0 (k + 1))) ≡ None
  none_turn k before here =
      ap (find p) (numbers_more at_level k) ∙ none_in_both p (flat_map at_level (range_with_len 0 k)) (at_level k) before here

  pub none_after : (k : ℕ) → k ≡ level_count t v → find p (flat_map at_level (range_with_len 0 k)) ≡ None → find p (cells_along t cell vs) ≡ None
  none_after k e h = ap (find p) (sym whole ∙ ap (λ j. flat_map at_level (range_with_len 0 j)) (sym e)) ∙ h

  pub found_turn : (k : ℕ) (a : List ℕ) → k < level_count t v → find p (flat_map at_level (range_with_len 0 k)) ≡ None → find p (at_level k) ≡ Some a
      → find p (cells_along t cell vs) ≡ Some a
  found_turn k a lt before here =
      ap (find p) (sym whole ∙ numbers_around at_level k (level_count t v) lt)
      ∙ found_later p (flat_map at_level (range_with_len 0 k)) (at_level k) (flat_map at_level (range_with_len (k + 1) (level_count t v - (k + 1)))) a before here
