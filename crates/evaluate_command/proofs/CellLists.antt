-- The values at lists of cells.
use Rattle.std.proofs.Common.{◌≡◌, ℕ, List, [], ◌∷◌, ◌++◌, Result, Ok, Err, refl, ap, ◌∙◌}
use Rattle.quantity.specs.Kinds.{Pair}
use Rattle.count_eval.specs.Stops.{Stop}
use Rattle.count_eval.specs.Vocabulary.{after}
use Rattle.evaluate_command.specs.Cells.{CellValue, values_at}

values_whole : (r : Result (List CellValue) Stop) → r ≡ after r (λ ws. Ok ws)
values_whole (Ok ws) = refl
values_whole (Err s) = refl

arrange : (cell : List ℕ) (r : Result Pair Stop) (a b : Result (List CellValue) Stop)
    → after r (λ q. after (after a (λ us. after b (λ ws. Ok (us ++ ws)))) (λ vs. Ok (record { cell = cell; quantity = q } ∷ vs)))
    ≡ after (after r (λ q. after a (λ vs. Ok (record { cell = cell; quantity = q } ∷ vs)))) (λ us. after b (λ ws. Ok (us ++ ws)))
arrange cell (Err s) a b = refl
arrange cell (Ok q) (Err s) b = refl
arrange cell (Ok q) (Ok us) (Err s) = refl
arrange cell (Ok q) (Ok us) (Ok ws) = refl

-- the values of one list and then of another
values_split : (value : List ℕ → Result Pair Stop) (cs ds : List (List ℕ)) → values_at value (cs ++ ds)
    ≡ after (values_at value cs) (λ us. after (values_at value ds) (λ ws. Ok (us ++ ws)))
values_split value [] ds = values_whole (values_at value ds)
values_split value (c ∷ cs) ds =
    ap (λ (r : Result (List CellValue) Stop). after (value c) (λ q. after r (λ vs. Ok (record { cell = c; quantity = q } ∷ vs)))) (values_split value cs ds)
    ∙ arrange c (value c) (values_at value cs) (values_at value ds)

pub values_both : (value : List ℕ → Result Pair Stop) (cs ds : List (List ℕ)) (us ws : List CellValue)
    → values_at value cs ≡ Ok us → values_at value ds ≡ Ok ws → values_at value (cs ++ ds) ≡ Ok (us ++ ws)
values_both value cs ds us ws e f =
    values_split value cs ds
    ∙ ap (λ (r : Result (List CellValue) Stop). after r (λ us. after (values_at value ds) (λ ws. Ok (us ++ ws)))) e
    ∙ ap (λ (r : Result (List CellValue) Stop). after r (λ ws. Ok (us ++ ws))) f

pub values_later : (value : List ℕ → Result Pair Stop) (cs ds : List (List ℕ)) (us : List CellValue) (s : Stop)
    → values_at value cs ≡ Ok us → values_at value ds ≡ Err s → values_at value (cs ++ ds) ≡ Err s
values_later value cs ds us s e f =
    values_split value cs ds
    ∙ ap (λ (r : Result (List CellValue) Stop). after r (λ us. after (values_at value ds) (λ ws. Ok (us ++ ws)))) e
    ∙ ap (λ (r : Result (List CellValue) Stop). after r (λ ws. Ok (us ++ ws))) f

pub values_sooner : (value : List ℕ → Result Pair Stop) (cs ds : List (List ℕ)) (s : Stop) → values_at value cs ≡ Err s → values_at value (cs ++ ds) ≡ Err s
values_sooner value cs ds s e =
    values_split value cs ds
    ∙ ap (λ (r : Result (List CellValue) Stop). after r (λ us. after (values_at value ds) (λ ws. Ok (us ++ ws)))) e

-- a cell alone
pub values_one : (value : List ℕ → Result Pair Stop) (cell : List ℕ) (q : Pair) → value cell ≡ Ok q → values_at value (cell ∷ [])
    ≡ Ok (record { cell = cell; quantity = q } ∷ [])
values_one value cell q e = ap (λ (r : Result Pair Stop). after r (λ q. after (values_at value []) (λ vs. Ok (record { cell = cell; quantity = q } ∷ vs)))) e

pub stops_one : (value : List ℕ → Result Pair Stop) (cell : List ℕ) (s : Stop) → value cell ≡ Err s → values_at value (cell ∷ []) ≡ Err s
stops_one value cell s e = ap (λ (r : Result Pair Stop). after r (λ q. after (values_at value []) (λ vs. Ok (record { cell = cell; quantity = q } ∷ vs)))) e
