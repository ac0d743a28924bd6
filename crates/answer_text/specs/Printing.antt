-- How names are printed.
use Rattle.std.specs.Prelude.{ℕ, ◌+◌, ◌-◌, ◌*◌, Bool, false, not, ◌&&◌, ◌||◌, ◌==◌, nat_le, List, [], ◌∷◌, ◌++◌, if◌then◌else◌}
use Rattle.std.specs.List.{list_all}

-- white space of graph text: space, tab, carriage return, line feed
abbrev pub is_white : ℕ → Bool
is_white b = b == 32 || b == 9 || b == 13 || b == 10

-- the characters of edges: < > - @
abbrev pub is_edge_byte : ℕ → Bool
is_edge_byte b = b == 60 || b == 62 || b == 45 || b == 64

-- the signs of graph text: { } [ ] ; = ,
abbrev pub is_sign : ℕ → Bool
is_sign b = b == 123 || b == 125 || b == 91 || b == 93 || b == 59 || b == 61 || b == 44

-- what a bare name is made of in graph text: no white space, no sign, no edge character, no quotation mark
abbrev pub is_name_byte : ℕ → Bool
is_name_byte b = not (is_white b || is_edge_byte b || is_sign b || b == 34)

-- what a name is made of that is printed bare: in formulas ( ) | * / are signs too
abbrev pub is_plain_byte : ℕ → Bool
is_plain_byte b = is_name_byte b && not (b == 40 || b == 41 || b == 124 || b == 42 || b == 47)

-- a bare name of formulas: such characters alone, the first of which isn't #
abbrev pub is_bare : List ℕ → Bool
is_bare [] = false
is_bare (b ∷ bs) = list_all is_plain_byte (b ∷ bs) && not (b == 35)

-- whether a character of Unicode is an arrow: U+2190 to U+21FF, U+27F0 to U+27FF, U+2900 to U+297F
abbrev pub is_arrow : ℕ → Bool
is_arrow n = nat_le 8592 n && nat_le n 8703 || nat_le 10224 n && nat_le n 10239 || nat_le 10496 n && nat_le n 10623

-- the character from U+2000 on that UTF-8 writes as the byte 226 and these two
abbrev pub character_of : ℕ → ℕ → ℕ
character_of b c = 8192 + (b - 128) * 64 + (c - 128)

-- whether a text begins with an arrow of Unicode; UTF-8 writes each of them with the byte 226 and two more
abbrev pub begins_with_arrow : List ℕ → Bool
begins_with_arrow (a ∷ b ∷ c ∷ bs) = a == 226 && is_arrow (character_of b c)
begins_with_arrow bytes = false

-- whether a name is printed bare: a bare name of formulas that doesn't begin with an arrow
abbrev pub is_plain : List ℕ → Bool
is_plain name = is_bare name && not (begins_with_arrow name)

-- a name as it is printed: bare, or else between quotation marks
abbrev pub printed : List ℕ → List ℕ
printed name = if is_plain name then name else 34 ∷ name ++ 34 ∷ []
