-- What each byte does as a list is read from the first byte to the last.
use Rattle.std.specs.Prelude.{◌==◌, ℕ, Bool, true, false, List, [], ◌∷◌, ◌++◌, Option, Some, None, option_map, if◌then◌else◌, codes}
use Rattle.std.specs.Str.{bytes_eq}
use Rattle.command_words.specs.Lists.{unbraced}
use Rattle.command_words.specs.declared.lists.Position.{Position}
use Rattle.command_words.specs.declared.lists.Position.TheVariants.{Due, Plain, Inside, Closed}
use Rattle.command_words.specs.declared.lists.Next.{Next}
use Rattle.command_words.specs.declared.lists.Next.TheVariants.{Take, Pass, End, Bad}

-- names, as their bytes
abbrev pub Names : Type 0
Names = List (List ℕ)

-- nothing is there of an item
abbrev pub is_none : List ℕ → Bool
is_none [] = true
is_none (b ∷ bs) = false

-- what a byte does, where the item so far is empty or not
abbrev pub next_of : Position → Bool → ℕ → Next
next_of Due empty b = if b == 34 then Pass Inside else (if b == 44 then Bad else Take Plain)
next_of Plain empty b = if b == 44 then End else (if b == 34 then Bad else Take Plain)
next_of Inside empty b = if b == 34 then (if empty then Bad else Pass Closed) else Take Inside
next_of Closed empty b = if b == 44 then End else Bad

-- an item may end here
abbrev pub can_end : Position → Bool
can_end Due = false
can_end Plain = true
can_end Inside = false
can_end Closed = true

-- the last name, where the list may end
abbrev pub at_end : Position → List ℕ → Option Names
at_end Due name = None
at_end Plain name = Some (name ∷ [])
at_end Inside name = None
at_end Closed name = Some (name ∷ [])

-- one more name before these
abbrev pub with_name : List ℕ → Option Names → Option Names
with_name name = option_map (λ names. name ∷ names)

-- what follows a byte, where `go` says what the bytes after it give
abbrev pub after_byte : Next → List ℕ → ℕ → (Position → List ℕ → Option Names) → Option Names
after_byte (Take p) name b go = go p (name ++ b ∷ [])
after_byte (Pass p) name b go = go p name
after_byte End name b go = with_name name (go Due [])
after_byte Bad name b go = None

-- the names of the rest, where `name` is what there is of an item
unfoldable pub names_of : Position → List ℕ → List ℕ → Option Names
names_of place name [] = at_end place name
names_of place name (b ∷ bs) = after_byte (next_of place (is_none name) b) name b (λ p n. names_of p n bs)

-- the names of a list
abbrev pub list_of : List ℕ → Option Names
list_of text = if bytes_eq text (codes "{}") then Some [] else names_of Due [] (unbraced text)
