-- The levels of a cell, as they are printed.
use Rattle.std.specs.Prelude.{ℕ, ◌≡◌, Bool, true, false, not, ◌||◌, ◌==◌, if◌then◌else◌, List, [], ◌∷◌, ◌++◌, map, codes, slice_index_or}
use Rattle.std.specs.List.{flat_map, list_all}
use Rattle.mixed_graph.specs.Vocabulary.{name_of}
use Rattle.answer_text.specs.Vocabulary.{printed}
use Rattle.count_rows.specs.Vocabulary.{Table}
use Rattle.count_table.specs.Vocabulary.{levels_in}

-- the bytes of a vertex's level with that number; none where it has no such level
abbrev pub level_text : Table → ℕ → ℕ → List ℕ
level_text t v k = slice_index_or (levels_in t.vertices t.levels v) k []

-- a line feed, a carriage return or a quotation mark
abbrev pub is_break : ℕ → Bool
is_break b = b == 10 || (b == 13 || b == 34)

-- a byte as it is printed between quotation marks: a backslash stands before quotation marks and backslashes, and `\n` and `\r` for the ends of lines
abbrev pub escaped : ℕ → List ℕ
escaped b = if b == 10 then 92 ∷ 110 ∷ [] else (if b == 13 then 92 ∷ 114 ∷ [] else (if (b == 34 || b == 92) then 92 ∷ b ∷ [] else b ∷ []))

-- a level as it is printed: its bytes, or between quotation marks where one of them is a line feed, a carriage return or a quotation mark
abbrev pub printed_level : List ℕ → List ℕ
printed_level level = if list_all (λ b. not (is_break b)) level then level else 34 ∷ flat_map escaped level ++ 34 ∷ []

-- no line feed is printed of a level
abbrev pub LevelsKeepToLine : Type 0
LevelsKeepToLine = (level : List ℕ) → list_all (λ b. not (b == 10)) (printed_level level) ≡ true

-- no two levels are printed alike
abbrev pub LevelsAreToldApart : Type 0
LevelsAreToldApart = (a b : List ℕ) → printed_level a ≡ printed_level b → a ≡ b

-- `Z=level`
abbrev pub assignment : List (List ℕ) → Table → (ℕ → ℕ) → ℕ → List ℕ
assignment names t cell v = printed (name_of names v) ++ (codes "=" ++ printed_level (level_text t v (cell v)))

-- texts with commas between them
abbrev pub with_commas : List (List ℕ) → List ℕ
with_commas [] = []
with_commas (a ∷ []) = a
with_commas (a ∷ b ∷ rest) = a ++ (codes "," ++ with_commas (b ∷ rest))

-- `Z=level,W=level`: the levels of these vertices in a cell
abbrev pub assignments : List (List ℕ) → Table → (ℕ → ℕ) → List ℕ → List ℕ
assignments names t cell vs = with_commas (map (assignment names t cell) vs)
