-- The object of a fault: its stage, its number, a sentence, and its place, name or names.
use Rattle.std.specs.Prelude.{ℕ, ◌+◌, ◌==◌, ◌&&◌, nat_lt, List, [], ◌∷◌, take, codes, decimal, if◌then◌else◌}
use Rattle.json.specs.Json.{Json, string, number}
use Rattle.answer_json.specs.Progress.{Progress, nothing, members, at_key, object_of}
use Rattle.answer_json.specs.Values.{text_json, texts_json}

-- a fault with what tells its place
abbrev pub fault_json : (stage : List ℕ) (n : ℕ) (sentence : List ℕ) → List (List ℕ × Json) → Json
fault_json stage n sentence place = object_of ((
  codes "fault",
  object_of (
      (codes "stage", string stage) ∷ (codes "number", number (decimal n)) ∷ (codes "message", string sentence) ∷ place),
) ∷ [])

-- the object of a fault up to its sentence
abbrev pub fault_begun : (stage : List ℕ) (n : ℕ) (sentence : List ℕ) → Progress
fault_begun stage n sentence = members (at_key nothing [] (codes "fault"))
    ((codes "stage", string stage) ∷ (codes "number", number (decimal n)) ∷ (codes "message", string sentence) ∷ [])

-- a fault without a place
unfoldable pub bare_fault_json : (stage : List ℕ) (n : ℕ) (sentence : List ℕ) → Json
bare_fault_json stage n sentence = fault_json stage n sentence []

-- a fault of a name, or of another text, under that key
unfoldable pub text_fault_json : (stage : List ℕ) (n : ℕ) (sentence key text : List ℕ) → Json
text_fault_json stage n sentence key text = fault_json stage n sentence ((key, text_json text) ∷ [])

-- a fault of names
unfoldable pub names_fault_json : (stage : List ℕ) (n : ℕ) (sentence : List ℕ) → List (List ℕ) → Json
names_fault_json stage n sentence names = fault_json stage n sentence ((codes "names", texts_json names) ∷ [])

-- a fault with a number under that key
unfoldable pub number_fault_json : (stage : List ℕ) (n : ℕ) (sentence key : List ℕ) (value : ℕ) → Json
number_fault_json stage n sentence key value = fault_json stage n sentence ((key, number (decimal value)) ∷ [])

-- the line behind a byte, where this one is that before it
abbrev pub next_line : (line b : ℕ) → ℕ
next_line line b = if b == 10 then line + 1 else line

-- the line behind these bytes, where this one is that before them
abbrev pub line_behind : ℕ → List ℕ → ℕ
line_behind line [] = line
line_behind line (b ∷ bytes) = line_behind (next_line line b) bytes

-- the column behind a byte: a character counts where its first byte stands
abbrev pub next_column : (column b : ℕ) → ℕ
next_column column b = if b == 10 then 1 else (if nat_lt 127 b && nat_lt b 192 then column else column + 1)

-- the column behind these bytes
abbrev pub column_behind : ℕ → List ℕ → ℕ
column_behind column [] = column
column_behind column (b ∷ bytes) = column_behind (next_column column b) bytes

-- a byte, its line and its column
abbrev pub place_members : (byte line column : ℕ) → List (List ℕ × Json)
place_members byte line column = (codes "byte", number (decimal byte)) ∷ (codes "line", number (decimal line)) ∷ (codes "column", number (decimal column)) ∷ []

-- a fault at a byte of a text, with its line and its column, both counted from 1
unfoldable pub placed_fault_json : (stage : List ℕ) (n : ℕ) (sentence bytes : List ℕ) (at : ℕ) → Json
placed_fault_json stage n sentence bytes at = fault_json stage n sentence (place_members at (line_behind 1 (take at bytes)) (column_behind 1 (take at bytes)))
