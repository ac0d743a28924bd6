-- The bounds at lists of cells.
use Rattle.std.proofs.Common.{◌≡◌, ℕ, List, [], ◌∷◌, ◌++◌, Result, Ok, Err, refl, ap, ◌∙◌}
use Rattle.bound_values.specs.declared.values.CellBounds.{CellBounds}
use Rattle.bound_values.specs.declared.values.CellFault.{CellFault}
use Rattle.bound_values.specs.Told.{in_front, bounds_at}

-- both lists, or the first fault
both : Result (List CellBounds) CellFault → Result (List CellBounds) CellFault → Result (List CellBounds) CellFault
both (Ok us) (Ok ws) = Ok (us ++ ws)
both (Ok us) (Err e) = Err e
both (Err e) b = Err e

both_none : (r : Result (List CellBounds) CellFault) → r ≡ both (Ok []) r
unfolding both
both_none (Ok ws) = refl
both_none (Err e) = refl

arrange : (r : Result CellBounds CellFault) (a b : Result (List CellBounds) CellFault) → in_front r (both a b) ≡ both (in_front r a) b
unfolding both
arrange (Err e) a b = refl
arrange (Ok x) (Err e) b = refl
arrange (Ok x) (Ok us) (Err e) = refl
arrange (Ok x) (Ok us) (Ok ws) = refl

bounds_split : (at : List ℕ → Result CellBounds CellFault) (cs ds : List (List ℕ)) → bounds_at at (cs ++ ds) ≡ both (bounds_at at cs) (bounds_at at ds)
bounds_split at [] ds = both_none (bounds_at at ds)
bounds_split at (c ∷ cs) ds = ap (in_front (at c)) (bounds_split at cs ds) ∙ arrange (at c) (bounds_at at cs) (bounds_at at ds)

pub bounds_both : (at : List ℕ → Result CellBounds CellFault) (cs ds : List (List ℕ)) (us ws : List CellBounds) → bounds_at at cs ≡ Ok us → bounds_at at ds ≡ Ok ws
    → bounds_at at (cs ++ ds) ≡ Ok (us ++ ws)
unfolding both
bounds_both at cs ds us ws e f =
    bounds_split at cs ds ∙ ap (λ (r : Result (List CellBounds) CellFault). both r (bounds_at at ds)) e
    ∙ ap (λ (r : Result (List CellBounds) CellFault). both (Ok us) r) f

pub bounds_later : (at : List ℕ → Result CellBounds CellFault) (cs ds : List (List ℕ)) (us : List CellBounds) (s : CellFault) → bounds_at at cs ≡ Ok us
    → bounds_at at ds ≡ Err s → bounds_at at (cs ++ ds) ≡ Err s
unfolding both
bounds_later at cs ds us s e f =
    bounds_split at cs ds ∙ ap (λ (r : Result (List CellBounds) CellFault). both r (bounds_at at ds)) e
    ∙ ap (λ (r : Result (List CellBounds) CellFault). both (Ok us) r) f

pub bounds_sooner : (at : List ℕ → Result CellBounds CellFault) (cs ds : List (List ℕ)) (s : CellFault) → bounds_at at cs ≡ Err s → bounds_at at (cs ++ ds) ≡ Err s
unfolding both
bounds_sooner at cs ds s e = bounds_split at cs ds ∙ ap (λ (r : Result (List CellBounds) CellFault). both r (bounds_at at ds)) e

-- a cell alone
pub bounds_one : (at : List ℕ → Result CellBounds CellFault) (cell : List ℕ) (b : CellBounds) → at cell ≡ Ok b → bounds_at at (cell ∷ []) ≡ Ok (b ∷ [])
bounds_one at cell b e = ap (λ (r : Result CellBounds CellFault). in_front r (Ok [])) e

pub fault_one : (at : List ℕ → Result CellBounds CellFault) (cell : List ℕ) (s : CellFault) → at cell ≡ Err s → bounds_at at (cell ∷ []) ≡ Err s
fault_one at cell s e = ap (λ (r : Result CellBounds CellFault). in_front r (Ok [])) e
