-- The values at lists of cells.
use Rattle.std.proofs.Common.{◌≡◌, ℕ, List, [], ◌∷◌, ◌++◌, Option, Some, None, Result, Ok, Err, All, refl, ap, subst, ◌∙◌}
use Rattle.std.proofs.lemmas.List.Elements.{All-nil, All-cons, All-head, All-tail}
use Rattle.quantity.specs.Kinds.{Pair}
use Rattle.count_eval.specs.Stops.{Stop}
use Rattle.count_eval.specs.Vocabulary.{after}
use Rattle.evaluate_command.specs.Vocabulary.{CellValue}
use Rattle.paired_values.specs.Values.{PlainFault, below, found_at, stopped, values_at}

-- ---- one list after another

values_whole : (r : Result (List CellValue) PlainFault) → r ≡ after r (λ ws. Ok ws)
values_whole (Ok ws) = refl
values_whole (Err f) = refl

arrange : (cell : List ℕ) (r : Result Pair PlainFault) (a b : Result (List CellValue) PlainFault)
    → after r (λ q. after (after a (λ us. after b (λ ws. Ok (us ++ ws)))) (λ vs. Ok (record { cell = cell; quantity = q } ∷ vs)))
    ≡ after (after r (λ q. after a (λ vs. Ok (record { cell = cell; quantity = q } ∷ vs)))) (λ us. after b (λ ws. Ok (us ++ ws)))
arrange cell (Err f) a b = refl
arrange cell (Ok q) (Err f) b = refl
arrange cell (Ok q) (Ok us) (Err f) = refl
arrange cell (Ok q) (Ok us) (Ok ws) = refl

module _ (value : List ℕ → Result (Option Pair) Stop) where
  -- the values of one list and then of another
  values_split : (cs ds : List (List ℕ)) → values_at value (cs ++ ds)
      ≡ after (values_at value cs) (λ us. after (values_at value ds) (λ ws. Ok (us ++ ws)))
  values_split [] ds = values_whole (values_at value ds)
  values_split (c ∷ cs) ds =
      ap (λ (r : Result (List CellValue) PlainFault). after (found_at c (value c)) (λ q. after r (λ vs. Ok (record { cell = c; quantity = q } ∷ vs))))
      (values_split cs ds)
      ∙ arrange c (found_at c (value c)) (values_at value cs) (values_at value ds)

  pub values_both : (cs ds : List (List ℕ)) (us ws : List CellValue)
      → values_at value cs ≡ Ok us → values_at value ds ≡ Ok ws → values_at value (cs ++ ds) ≡ Ok (us ++ ws)
  values_both cs ds us ws e f =
      values_split cs ds
      ∙ ap (λ (r : Result (List CellValue) PlainFault). after r (λ us. after (values_at value ds) (λ ws. Ok (us ++ ws)))) e
      ∙ ap (λ (r : Result (List CellValue) PlainFault). after r (λ ws. Ok (us ++ ws))) f

  pub values_later : (cs ds : List (List ℕ)) (us : List CellValue) (f : PlainFault)
      → values_at value cs ≡ Ok us → values_at value ds ≡ Err f → values_at value (cs ++ ds) ≡ Err f
  values_later cs ds us f e h =
      values_split cs ds
      ∙ ap (λ (r : Result (List CellValue) PlainFault). after r (λ us. after (values_at value ds) (λ ws. Ok (us ++ ws)))) e
      ∙ ap (λ (r : Result (List CellValue) PlainFault). after r (λ ws. Ok (us ++ ws))) h

  pub values_sooner : (cs ds : List (List ℕ)) (f : PlainFault) → values_at value cs ≡ Err f → values_at value (cs ++ ds) ≡ Err f
  values_sooner cs ds f e =
      values_split cs ds
      ∙ ap (λ (r : Result (List CellValue) PlainFault). after r (λ us. after (values_at value ds) (λ ws. Ok (us ++ ws)))) e

  -- a cell alone
  alone : (cell : List ℕ) (r : Result (Option Pair) Stop) → value cell ≡ r → values_at value (cell ∷ [])
      ≡ after (found_at cell r) (λ q. Ok (record { cell = cell; quantity = q } ∷ []))
  alone cell r e = ap (λ (r : Result (Option Pair) Stop). after (found_at cell r) (λ q. Ok (record { cell = cell; quantity = q } ∷ []))) e

  pub values_one : (cell : List ℕ) (q : Pair) → value cell ≡ Ok (Some q) → values_at value (cell ∷ []) ≡ Ok (record { cell = cell; quantity = q } ∷ [])
  values_one cell q e = alone cell (Ok (Some q)) e

  pub stops_one : (cell : List ℕ) (s : Stop) → value cell ≡ Err s → values_at value (cell ∷ []) ≡ Err (stopped s)
  stops_one cell s e = alone cell (Err s) e

  pub below_one : (cell : List ℕ) → value cell ≡ Ok None → values_at value (cell ∷ []) ≡ Err (below cell)
  below_one cell e = alone cell (Ok None) e

-- ---- what is so of each cell

abbrev list_of : Result (List CellValue) PlainFault → List CellValue
list_of (Ok vs) = vs
list_of (Err f) = []

abbrev cell_in : Result (List CellValue) PlainFault → List ℕ
cell_in (Err (below c)) = c
cell_in r = []

module _ (value : List ℕ → Result (Option Pair) Stop) (P : List ℕ → Type 0) where
  abbrev IsValued : CellValue → Type 0
  IsValued v = P v.cell × (value v.cell ≡ Ok (Some v.quantity))

  valued_rest : (c : List ℕ) (q : Pair) → P c → value c ≡ Ok (Some q) → (r : Result (List CellValue) PlainFault)
      → ((vs : List CellValue) → r ≡ Ok vs → All IsValued vs) → (values : List CellValue)
      → after r (λ vs. Ok (record { cell = c; quantity = q } ∷ vs)) ≡ Ok values → All IsValued values
  valued_rest c q p is (Err f) rest values e = absurd (cc e)
  valued_rest c q p is (Ok vs) rest values e =
      let v : CellValue = record { cell = c; quantity = q } in subst (All IsValued) (ap list_of e) (All-cons IsValued v vs (p, is) (rest vs refl))

  valued_first : (c : List ℕ) (cs : List (List ℕ)) → P c → (r : Result (Option Pair) Stop) → value c ≡ r
      → ((vs : List CellValue) → values_at value cs ≡ Ok vs → All IsValued vs) → (values : List CellValue)
      → after (found_at c r) (λ q. after (values_at value cs) (λ vs. Ok (record { cell = c; quantity = q } ∷ vs))) ≡ Ok values → All IsValued values
  valued_first c cs p (Ok (Some q)) is rest values e = valued_rest c q p is (values_at value cs) rest values e
  valued_first c cs p (Ok None) is rest values e = absurd (cc e)
  valued_first c cs p (Err s) is rest values e = absurd (cc e)

  -- each value is that of its cell
  pub each_valued : (cells : List (List ℕ)) → All P cells → (values : List CellValue) → values_at value cells ≡ Ok values → All IsValued values
  each_valued [] all values e = subst (All IsValued) (ap list_of e) (All-nil IsValued)
  each_valued (c ∷ cs) all values e =
      valued_first c cs (All-head P c cs all) (value c) refl (λ vs is. each_valued cs (All-tail P c cs all) vs is) values e

  below_rest : (c : List ℕ) (q : Pair) (r : Result (List CellValue) PlainFault) (d : List ℕ) → (r ≡ Err (below d) → P d × (value d ≡ Ok None))
      → after r (λ vs. Ok (record { cell = c; quantity = q } ∷ vs)) ≡ Err (below d) → P d × (value d ≡ Ok None)
  below_rest c q (Ok vs) d rest e = absurd (cc e)
  below_rest c q (Err f) d rest e = rest e

  below_first : (c : List ℕ) (cs : List (List ℕ)) → P c → (r : Result (Option Pair) Stop) → value c ≡ r → (d : List ℕ)
      → (values_at value cs ≡ Err (below d) → P d × (value d ≡ Ok None))
      → after (found_at c r) (λ q. after (values_at value cs) (λ vs. Ok (record { cell = c; quantity = q } ∷ vs))) ≡ Err (below d)
      → P d × (value d ≡ Ok None)
  below_first c cs p (Ok (Some q)) is d rest e = below_rest c q (values_at value cs) d rest e
  below_first c cs p (Ok None) is d rest e = subst (λ (b : List ℕ). P b × (value b ≡ Ok None)) (ap cell_in e) (p, is)
  below_first c cs p (Err s) is d rest e = absurd (cc e)

  -- a cell that is named has no value
  pub named_below : (cells : List (List ℕ)) → All P cells → (d : List ℕ) → values_at value cells ≡ Err (below d) → P d × (value d ≡ Ok None)
  named_below [] all d e = absurd (cc e)
  named_below (c ∷ cs) all d e = below_first c cs (All-head P c cs all) (value c) refl d (λ is. named_below cs (All-tail P c cs all) d is) e
