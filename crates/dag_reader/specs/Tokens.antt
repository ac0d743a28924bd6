-- The tokens of a graph text, and where each stands.
use Rattle.std.specs.Prelude.{ℕ, ◌-◌, Bool, true, false, not, ◌||◌, ◌&&◌, ◌==◌, List, [], ◌∷◌, length, take, drop, Option, Some, None, if◌then◌else◌, codes}
use Rattle.std.specs.List.{prefix_len, starts_with, list_any}
use Rattle.std.specs.Str.{bytes_eq}
use Rattle.dag_reader.specs.declared.marks.Arrow.{Arrow}
use Rattle.dag_reader.specs.declared.marks.Arrow.TheVariants as arrows
use Rattle.dag_reader.specs.declared.tokens.Due.{Due}
use Rattle.dag_reader.specs.declared.tokens.Due.TheVariants as dues
use Rattle.answer_text.specs.Vocabulary.{is_white, is_edge_byte, is_name_byte, begins_with_arrow}
use Rattle.dag_reader.specs.Bytes.{is_run_byte, is_edge_sign}
use Rattle.mixed_graph.specs.Vocabulary.{is_line_byte}

-- the tokens
pub data Tok : Type 0 where
  open_brace : Tok
  close_brace : Tok
  open_bracket : Tok
  close_bracket : Tok
  semicolon : Tok
  equals : Tok
  comma : Tok
  edge : Arrow → Tok
  name : Bool → List ℕ → Tok  -- whether it is quoted, and its characters
  value : Bool → Tok  -- of an attribute or of a dropped statement; whether it may be dropped
  end : Tok  -- nothing is left
  bad : Tok  -- no token stands there
  bad_edge : Tok  -- an edge of another kind of graph, or an arrow of Unicode

-- a run of edge bytes
abbrev pub edge_token : List ℕ → Tok
edge_token run =
    if bytes_eq run (codes "->") then edge arrows.Right
    else (if bytes_eq run (codes "<-") then edge arrows.Left
    else (if bytes_eq run (codes "<->") then edge arrows.Both
    else (if bytes_eq run (codes "--") || list_any (λ b. b == 64) run then bad_edge else bad)))

-- whether a run begins with these bytes
abbrev pub begins_with : List ℕ → List ℕ → Bool
begins_with run front = starts_with (λ a b. a == b) run front

-- a run of name bytes; one that looks like a comment is no token, and one that begins with an arrow of Unicode is no edge of this language
abbrev pub name_token : List ℕ → Tok
name_token run =
    if (begins_with run (codes "//") || begins_with run (codes "/*") || begins_with run (codes "#")) then bad
    else (if begins_with_arrow run then bad_edge else name false run)

-- a - at the front that no character of a name follows
abbrev pub begins_with_dash : List ℕ → Bool
begins_with_dash [] = false
begins_with_dash (b ∷ []) = b == 45
begins_with_dash (b ∷ c ∷ bs) = b == 45 && not (is_name_byte c)

-- whether a value without quotes may be dropped, so that no edge is lost with it: it has none of < > { ( and doesn't begin with such a -
abbrev pub is_droppable : List ℕ → Bool
is_droppable run = not (list_any is_edge_sign run || begins_with_dash run)

-- a sign, or no token
abbrev pub sign_token : ℕ → Tok
sign_token b =
    if b == 123 then open_brace
    else (if b == 125 then close_brace
    else (if b == 91 then open_bracket
    else (if b == 93 then close_bracket
    else (if b == 59 then semicolon
    else (if b == 61 then equals
    else (if b == 44 then comma else bad))))))

-- a longest run at the front, as a token, and what follows it
abbrev pub run_at : (ℕ → Bool) → (List ℕ → Tok) → List ℕ → Tok × List ℕ
run_at in_run token bytes = (token (take (prefix_len in_run bytes) bytes), drop (prefix_len in_run bytes) bytes)

-- a text up to its closing quote, and what follows that
abbrev pub closed_by : List ℕ → List ℕ → Option (List ℕ × List ℕ)
closed_by text [] = None
closed_by text (b ∷ bs) = if b == 34 then Some (text, bs) else None

-- what stands between the quotes, behind the opening one
abbrev pub quoted_text : List ℕ → Option (List ℕ × List ℕ)
quoted_text bytes = closed_by (take (prefix_len is_line_byte bytes) bytes) (drop (prefix_len is_line_byte bytes) bytes)

-- a quoted name, which is not empty
abbrev pub quoted_name_token : List ℕ → Tok
quoted_name_token [] = bad
quoted_name_token (b ∷ bs) = name true (b ∷ bs)

-- a quoted name with what follows, or no token
abbrev pub quoted_name : List ℕ → Option (List ℕ × List ℕ) → Tok × List ℕ
quoted_name bytes None = (bad, bytes)
quoted_name bytes (Some p) = (quoted_name_token p.0, p.1)

-- a quoted value with what follows, or no token; it may be dropped
abbrev pub quoted_value : List ℕ → Option (List ℕ × List ℕ) → Tok × List ℕ
quoted_value bytes None = (bad, bytes)
quoted_value bytes (Some p) = (value true, p.1)

-- the token that begins with a byte, and what follows it
abbrev pub token_at : ℕ → List ℕ → Tok × List ℕ
token_at b bs =
    if b == 34 then quoted_name bs (quoted_text bs)
    else (if is_edge_byte b then run_at is_edge_byte edge_token (b ∷ bs)
    else (if is_name_byte b then run_at is_name_byte name_token (b ∷ bs)
    else (sign_token b, bs)))

-- the same behind a `=`, where a value is due
abbrev pub value_at : ℕ → List ℕ → Tok × List ℕ
value_at b bs =
    if b == 34 then quoted_value bs (quoted_text bs)
    else (if is_run_byte b then run_at is_run_byte (λ run. value (is_droppable run)) (b ∷ bs)
    else (sign_token b, bs))

-- the token at the front, where no white space stands
abbrev pub token_of : Due → List ℕ → Tok × List ℕ
token_of due [] = (end, [])
token_of dues.Token (b ∷ bs) = token_at b bs
token_of dues.Value (b ∷ bs) = value_at b bs

-- what follows the white space at the front
abbrev pub past_white : List ℕ → List ℕ
past_white bytes = drop (prefix_len is_white bytes) bytes

-- the first token behind white space, and what follows it
unfoldable pub first : Due → List ℕ → Tok × List ℕ
first due bytes = token_of due (past_white bytes)

-- where it stands in a text of so many bytes
unfoldable pub place_of : ℕ → List ℕ → ℕ
place_of size bytes = size - length (past_white bytes)

-- a value is due behind a `=`
abbrev pub due_behind : Tok → Due
due_behind equals = dues.Value
due_behind t = dues.Token
