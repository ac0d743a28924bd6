-- No item is left where the list is empty.
use Rattle.std.proofs.Common.{◌≡◌, List, [], ◌∷◌, length, eqb, refl, sym, arith, ne_eqb}
use Rattle.serde_json.specs.View.{items_view}
use Rattle.serde_json.specs.declared.value.Value.{Value}
use Rattle.step_json.specs.Reading.{is_end}

-- the items are at their end exactly where there are 0 of them
pub end_is : (ds : List Value) → is_end (items_view ds) ≡ eqb (length ds) 0
end_is [] = refl
end_is (d ∷ ds) = sym (ne_eqb (length (d ∷ ds)) 0 (λ e. omega arith))
