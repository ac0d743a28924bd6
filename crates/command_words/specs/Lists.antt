-- A list of names in a word.
use Rattle.std.specs.Prelude.{◌≡◌, ◌==◌, ◌&&◌, ◌-◌, ◌⊎◌, ℕ, Bool, true, false, not, nat_le, List, [], ◌∷◌, ◌++◌, length, slice_index_or, slice_range, codes}
use Rattle.std.specs.Prelude.{map, if◌then◌else◌}
use Rattle.std.specs.List.{list_all}

-- an item as it stands: a name, or a name between quotes
pub data Item : Type 0 where
  bare : List ℕ → Item
  quoted : List ℕ → Item

-- the name of an item: quotes are no part of it
abbrev pub name_of : Item → List ℕ
name_of (bare name) = name
name_of (quoted name) = name

-- the item as it is written
abbrev pub text_of : Item → List ℕ
text_of (bare name) = name
text_of (quoted name) = 34 ∷ (name ++ 34 ∷ [])

-- one or more bytes
abbrev pub is_some_text : List ℕ → Bool
is_some_text [] = false
is_some_text (b ∷ bs) = true

-- neither a comma nor a quote
abbrev pub is_bare_byte : ℕ → Bool
is_bare_byte b = not (b == 44) && not (b == 34)

-- no quote: between quotes a comma may stand
abbrev pub is_quoted_byte : ℕ → Bool
is_quoted_byte b = not (b == 34)

-- a name isn't empty, and has no quote, nor a comma unless it stands between quotes
abbrev pub is_item : Item → Bool
is_item (bare name) = is_some_text name && list_all is_bare_byte name
is_item (quoted name) = is_some_text name && list_all is_quoted_byte name

-- the items after the first, each behind a comma
abbrev pub more_text : List Item → List ℕ
more_text [] = []
more_text (item ∷ items) = 44 ∷ (text_of item ++ more_text items)

-- one or more items, joined by commas
abbrev pub list_text : Item → List Item → List ℕ
list_text item items = text_of item ++ more_text items

-- the text is one or more items joined by commas, with these names
pub record IsItems (text : List ℕ) (names : List (List ℕ)) : Type 0 where
  pub first : Item
  pub more : List Item
  pub spelling : text ≡ list_text first more
  pub items : list_all is_item (first ∷ more) ≡ true
  pub gives : names ≡ map name_of (first ∷ more)

-- braces stand around the text
abbrev pub is_braced : List ℕ → Bool
is_braced text = nat_le 2 (length text) && (slice_index_or text 0 0 == 123 && slice_index_or text (length text - 1) 0 == 125)

-- what stands between the braces, or the text where there are none around it
abbrev pub unbraced : List ℕ → List ℕ
unbraced text = if is_braced text then slice_range text 1 (length text - 1) else text

-- the text is the list of these names: `{}` alone is the list of none, and any other list is its items, between braces, as sets are printed, or without them
abbrev pub IsList : List ℕ → List (List ℕ) → Type 0
IsList text names = ((text ≡ codes "{}") × (names ≡ [])) ⊎ ((text ≡ codes "{}" → ⊥) × IsItems (unbraced text) names)
