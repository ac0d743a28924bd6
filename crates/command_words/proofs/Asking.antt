-- From the call that words are to what they ask for.
use Rattle.std.proofs.Common.{◌≡◌, List, Some, Result, Ok, Err, sym, ap, ◌∙◌, subst}
use Rattle.std.specs.Prelude.{IfOk}
use Rattle.command_words.specs.Form.{Text, Row, Use, row_named, HasForm, IsCall, IsOnlyCall}
use Rattle.command_words.specs.Asks.{AsksBy}

-- the row of a call is the one of its name
pub named : (rows table : List Row) (words : List Text) (row : Row) (uses : List Use) → rows ≡ table → IsCall rows words row uses → row_named table row.name
    ≡ Some row
named rows table words row uses same call = ap (λ t. row_named t row.name) (sym same) ∙ call.command

module _ {Asked : Type 0} (rows table : List Row) (row_for : Asked → Row) (gives : List Use → Asked → Type 0) (words : List Text) (same : rows ≡ table) where
  -- a call of the table is one of the rows
  by_rows : (q : Asked) (a : AsksBy table row_for gives words q) → IsCall rows words (row_for q) a.uses
  by_rows q a = subst (λ t. IsCall t words (row_for q) a.uses) (sym same) a.call

  -- words without the form of the table ask for nothing
  pub no_form : (HasForm rows words → ⊥) → (q : Asked) → AsksBy table row_for gives words q → ⊥
  no_form none q a = none (row_for q, a.uses, by_rows q a)

  module _ (row : Row) (uses : List Use) where
    -- the words of a call ask for the request of its row that its uses give
    pub asked : {Code E : Type 0} (of : Code → Asked) (r : Result Code E) → IsCall rows words row uses → IfOk r (λ x. row_for (of x) ≡ row)
        → IfOk r (λ x. gives uses (of x))
        → IfOk r (λ x. AsksBy table row_for gives words (of x))
    asked of (Err e) call h is = tt
    asked of (Ok x) call h is =
        record { uses = uses; call = subst (λ t. IsCall t words (row_for (of x)) uses) same (subst (λ o. IsCall rows words o uses) (sym h) call); asks = is }

    -- and for no other one
    pub not_asked : IsOnlyCall rows words row uses → ((q : Asked) → row_for q ≡ row → gives uses q → ⊥) → (q : Asked) → AsksBy table row_for gives words q → ⊥
    not_asked only none q a = let h = only (row_for q) a.uses (by_rows q a) in none q h.0 (subst (λ us. gives us q) h.1 a.asks)
