-- Where a text is cut: at the first `;` that stands behind an even number of quotes.
use Rattle.std.specs.Prelude.{ℕ, ◌≡◌, ◌==◌, ◌&&◌, Bool, true, not, List, [], ◌∷◌, ◌++◌, Option, Some, None, if◌then◌else◌}

-- whether what stands behind a byte is outside quotes
abbrev pub after_byte : Bool → ℕ → Bool
after_byte outside b = if b == 34 then not outside else outside

-- whether what stands behind these bytes is outside quotes, where none of them is a `;` outside quotes
abbrev pub outside_after : Bool → List ℕ → Option Bool
outside_after outside [] = Some outside
outside_after outside (b ∷ bs) = if outside && b == 59 then None else outside_after (after_byte outside b) bs

-- the text up to its first `;` outside quotes, and what stands behind that, where there is one
abbrev pub IsCut : List ℕ → List ℕ → Option (List ℕ) → Type 0
IsCut text part None = (text ≡ part) × ((outside : Bool) × (outside_after true part ≡ Some outside))
IsCut text part (Some rest) = (text ≡ part ++ 59 ∷ rest) × (outside_after true part ≡ Some true)
