-- The values at cells: one list after another.
use Rattle.std.proofs.Common.{◌≡◌, ℕ, ◌+◌, ◌-◌, ◌<◌, List, [], ◌∷◌, ◌++◌, Some, None, Result, Ok, Err, OnOk, IfErr, true, false, true≢false, refl, sym, ap, subst, ◌∙◌, append-nil, append_assoc}
use Rattle.std.specs.List.{flat_map, range_with_len}
use Rattle.quantity.specs.Kinds.{Pair}
use Rattle.quantity.specs.Vocabulary.{Kind}
use Rattle.differences.specs.Vocabulary.{Subtraction}
use Rattle.count_rows.specs.Vocabulary.{Table}
use Rattle.table_cells.proofs.CellLists.{numbers_more, numbers_around}
use Rattle.evaluate_command.specs.Vocabulary.{CellValue}
use Rattle.paired_values.specs.Readings.{PlainPaired}
use Rattle.paired_values.specs.Values.{IsBelow, below, is_wanting, value_by, values_at}
use Rattle.paired_values.specs.Walking.{Appends, IsFaultAt}
use Rattle.paired_values.specs.declared.fault.PairFault.{PairFault}
use Rattle.paired_values.specs.declared.fault.PairFault.TheVariants.{Stopped, Below}
use Rattle.paired_values.proofs.Walks.{below_one, values_both, values_later, values_one, values_sooner}

module _ (kind : Kind) (minus : Subtraction) (e : PlainPaired) (t : Table) where
  pub appends_none : (old : List CellValue) → Appends kind minus e t [] old old
  appends_none old = record { values = []; evaluated = refl; list = sym (append-nil old) }

  pub appends_one : (cell : List ℕ) (q : Pair) (old new : List CellValue) → value_by kind minus e t cell ≡ Ok (Some q)
      → new ≡ old ++ (record { cell = cell; quantity = q } ∷ []) → Appends kind minus e t (cell ∷ []) old new
  appends_one cell q old new is list =
      record { values = record { cell = cell; quantity = q } ∷ []; evaluated = values_one (value_by kind minus e t) cell q is; list = list }

  pub appends_both : (cs ds : List (List ℕ)) (old mid new : List CellValue)
      → Appends kind minus e t cs old mid → Appends kind minus e t ds mid new → Appends kind minus e t (cs ++ ds) old new
  appends_both cs ds old mid new a b = record {
    values = a.values ++ b.values;
    evaluated = values_both (value_by kind minus e t) cs ds a.values b.values a.evaluated b.evaluated;
    list = b.list ∙ ap (λ (vs : List CellValue). vs ++ b.values) a.list ∙ append_assoc old a.values b.values;
  }

  -- the cells of one more level
  pub appends_turn : (cells : ℕ → List (List ℕ)) (k : ℕ) (old mid new : List CellValue)
      → Appends kind minus e t (flat_map cells (range_with_len 0 k)) old mid → Appends kind minus e t (cells k) mid new
      → Appends kind minus e t (flat_map cells (range_with_len 0 (k + 1))) old new
  appends_turn cells k old mid new a b =
      subst (λ (cs : List (List ℕ)). Appends kind minus e t cs old new) (sym (numbers_more cells k))
      (appends_both (flat_map cells (range_with_len 0 k)) (cells k) old mid new a b)

  -- the fault at the cells of one level is that of all cells
  pub fault_turn : (cells : ℕ → List (List ℕ)) (k n : ℕ) (old mid : List CellValue) (f : PairFault) → k < n
      → Appends kind minus e t (flat_map cells (range_with_len 0 k)) old mid → IsFaultAt kind minus e t (cells k) f
      → IsFaultAt kind minus e t (flat_map cells (range_with_len 0 n)) f
  fault_turn cells k n old mid f lt a h =
      let before = flat_map cells (range_with_len 0 k) in
      let later = flat_map cells (range_with_len (k + 1) (n - (k + 1))) in
      subst (λ (cs : List (List ℕ)). IsFaultAt kind minus e t cs f) (sym (numbers_around cells k n lt)) (
        h.0,
        values_later (value_by kind minus e t) before (cells k ++ later) a.values h.0 a.evaluated (values_sooner (value_by kind minus e t) (cells k) later h.0 h.1),
        h.2,
      )

  -- a cell without a value
  pub below_at : (cell : List ℕ) → value_by kind minus e t cell ≡ Ok None → (f : PairFault) → IsBelow cell f → IsFaultAt kind minus e t (cell ∷ []) f
  below_at cell is (Below c) h = (below cell, below_one (value_by kind minus e t) cell is, h)
  below_at cell is (Stopped fault) h = absurd h

  -- appended to none, they are all there are
  pub all_appended : (cells : List (List ℕ)) (old new : List CellValue) → old ≡ [] → Appends kind minus e t cells old new
      → values_at (value_by kind minus e t) cells ≡ Ok new
  all_appended cells old new none a = a.evaluated ∙ ap (λ (vs : List CellValue). Ok vs) (sym (a.list ∙ ap (λ (vs : List CellValue). vs ++ a.values) none))

  pub appended_one : (cell : List ℕ) (q : Pair) (old new : List CellValue) {U : Type 0} (r : Result U PairFault) → value_by kind minus e t cell ≡ Ok (Some q)
      → OnOk r (new ≡ old ++ (record { cell = cell; quantity = q } ∷ [])) → OnOk r (Appends kind minus e t (cell ∷ []) old new)
  appended_one cell q old new (Ok u) is list = appends_one cell q old new is list
  appended_one cell q old new (Err f) is list = tt

  -- want of memory is no fault of a cell
  pub never_kept : (cell : List ℕ) {U : Type 0} (r : Result U PairFault) → IfErr r (λ f. is_wanting f ≡ true)
      → IfErr r (λ f. is_wanting f ≡ false → IsFaultAt kind minus e t (cell ∷ []) f)
  never_kept cell (Ok u) h = tt
  never_kept cell (Err f) h = λ kept. absurd (true≢false (sym h ∙ kept))
