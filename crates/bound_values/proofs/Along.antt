-- Bounds along the levels of a vertex.
use Rattle.std.proofs.Common.{◌≡◌, ℕ, ◌+◌, ◌-◌, ◌<◌, ◌≤◌, Bool, List, ◌++◌, length, set, get_or, drop, Err, sym, ap, subst, ◌∙◌, append_assoc}
use Rattle.std.specs.List.{flat_map, range_with_len}
use Rattle.count_rows.specs.Vocabulary.{Table}
use Rattle.natural_bounds.specs.Vocabulary.{Asked}
use Rattle.bound_values.specs.declared.questions.Method.{Method}
use Rattle.bound_values.specs.declared.values.CellBounds.{CellBounds}
use Rattle.bound_values.specs.declared.values.CellFault.{CellFault}
use Rattle.bound_values.specs.declared.values.CellFault.TheVariants.{NoRecords, TooWide, NoMemory}
use Rattle.table_cells.specs.Vocabulary.{cells_along, level_count}
use Rattle.bound_values.specs.Told.{cell_bounds, bounds_at, Appends, IsFaultAt}
use Rattle.table_cells.proofs.CellLists.{cells_at_first, numbers_more, numbers_around}
use Rattle.bound_values.proofs.CellLists.{bounds_both, bounds_later, bounds_sooner}

module _ (is_exact : Bool) (method : Method) (n : ℕ) (t : Table) (q : Asked) (cell vs rest : List ℕ) (v : ℕ) where
  -- the cells at a level of the first vertex
  abbrev pub at_level : ℕ → List (List ℕ)
  at_level j = cells_along t (set cell v j) rest

  pub appends_turn : (k : ℕ) (a b c : List CellBounds) → Appends is_exact method n t q (flat_map at_level (range_with_len 0 k)) a b
      → Appends is_exact method n t q (at_level k) b c → Appends is_exact method n t q (flat_map at_level (range_with_len 0 (k + 1))) a c
  appends_turn k a b c x y = record {
    list = x.list ++ y.list;
    are = ap (bounds_at (cell_bounds is_exact method n t q)) (numbers_more at_level k)
        ∙ bounds_both (cell_bounds is_exact method n t q) (flat_map at_level (range_with_len 0 k)) (at_level k) x.list y.list x.are y.are;
    items = y.items ∙ ap (λ (l : List CellBounds). l ++ y.list) x.items ∙ append_assoc a x.list y.list;
  }

  module _ (is_v : v ≡ get_or vs 0 0) (is_rest : rest ≡ drop 1 vs) (some : 1 ≤ length vs) where
    whole : flat_map at_level (range_with_len 0 (level_count t v)) ≡ cells_along t cell vs
    whole =
        ap (λ us. flat_map (λ j. cells_along t (set cell v j) us) (range_with_len 0 (level_count t v))) is_rest
        ∙ ap (λ u. flat_map (λ j. cells_along t (set cell u j) (drop 1 vs)) (range_with_len 0 (level_count t u))) is_v
        ∙ sym (cells_at_first t cell vs some)

    pub appends_all : (k : ℕ) (a b : List CellBounds) → k ≡ level_count t v → Appends is_exact method n t q (flat_map at_level (range_with_len 0 k)) a b
        → Appends is_exact method n t q (cells_along t cell vs) a b
    appends_all k a b e x = subst (λ (cs : List (List ℕ)). Appends is_exact method n t q cs a b)
        (ap (λ j. flat_map at_level (range_with_len 0 j)) e ∙ whole) x

    around : (k : ℕ) → k < level_count t v → cells_along t cell vs
        ≡ flat_map at_level (range_with_len 0 k) ++ (at_level k ++ flat_map at_level (range_with_len (k + 1) (level_count t v - (k + 1))))
    around k lt = sym whole ∙ numbers_around at_level k (level_count t v) lt

    stopped : (k : ℕ) (a b : List CellBounds) (f : CellFault) → k < level_count t v
        → Appends is_exact method n t q (flat_map at_level (range_with_len 0 k)) a b
        → bounds_at (cell_bounds is_exact method n t q) (at_level k) ≡ Err f → bounds_at (cell_bounds is_exact method n t q) (cells_along t cell vs) ≡ Err f
    stopped k a b f lt x h =
        ap (bounds_at (cell_bounds is_exact method n t q)) (around k lt)
        ∙ bounds_later (cell_bounds is_exact method n t q) (flat_map at_level (range_with_len 0 k)) _ x.list f x.are
        (bounds_sooner (cell_bounds is_exact method n t q) (at_level k) _ f h)

    pub fault_turn : (k : ℕ) (a b : List CellBounds) (f : CellFault) → k < level_count t v
        → Appends is_exact method n t q (flat_map at_level (range_with_len 0 k)) a b
        → IsFaultAt is_exact method n t q (at_level k) f → IsFaultAt is_exact method n t q (cells_along t cell vs) f
    fault_turn k a b NoMemory lt x h = tt
    fault_turn k a b (NoRecords c) lt x h = stopped k a b (NoRecords c) lt x h
    fault_turn k a b TooWide lt x h = stopped k a b TooWide lt x h
