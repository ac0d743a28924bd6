-- When words have the form that a table of commands asks for, and what they then give.
use Rattle.std.specs.Prelude.{◌≡◌, ◌==◌, ◌&&◌, ◌||◌, ◌+◌, ℕ, Bool, true, false, not, if◌then◌else◌, List, [], ◌∷◌, ◌++◌, length, Option, Some, None}
use Rattle.std.specs.Prelude.{nat_le, find}
use Rattle.std.specs.List.{list_all, list_any, flat_map}
use Rattle.std.specs.Str.{bytes_eq}

-- a text, as its bytes
abbrev pub Text : Type 0
Text = List ℕ

-- a command of the table: the names of its positionals in order, those in brackets after the others,
-- of its options without and with brackets, and of its flags; names stand without their hyphens
pub record Row : Type 0 where
  pub name : Text
  pub positionals : List Text
  pub optional : List Text
  pub required : List Text
  pub options : List Text
  pub flags : List Text

-- what words after the command do: a positional; an option and its value, in two words or in one; a flag
pub data Use : Type 0 where
  positional : Text → Use
  apart : Text → Text → Use
  in_one : Text → Text → Use
  flag : Text → Use

-- `--name`
abbrev pub long : Text → Text
long name = 45 ∷ 45 ∷ name

-- the words of a use: `WORD`, `--x V`, `--x=V` or `--x`
abbrev pub spelled : Use → List Text
spelled (positional word) = word ∷ []
spelled (apart x v) = long x ∷ v ∷ []
spelled (in_one x v) = (long x ++ 61 ∷ v) ∷ []
spelled (flag x) = long x ∷ []

-- a value isn't empty and doesn't begin with `-`
abbrev pub is_value : Text → Bool
is_value [] = false
is_value (b ∷ bs) = not (b == 45)

-- a positional is a value, or `-`
abbrev pub is_positional : Text → Bool
is_positional word = is_value word || bytes_eq word (45 ∷ [])

-- x is one of the names
abbrev pub is_among : List Text → Text → Bool
is_among names x = list_any (λ y. bytes_eq y x) names

-- the options, with and without brackets: each takes a value
abbrev pub value_names : Row → List Text
value_names row = row.required ++ row.options

-- the positionals, with and without brackets
abbrev pub positional_names : Row → List Text
positional_names row = row.positionals ++ row.optional

-- the command knows such a use
abbrev pub fits : Row → Use → Bool
fits row (positional word) = is_positional word
fits row (apart x v) = is_among (value_names row) x && is_value v
fits row (in_one x v) = is_among (value_names row) x && is_value v
fits row (flag x) = is_among row.flags x

-- the use is of the option or flag x
abbrev pub is_of : Text → Use → Bool
is_of x (positional word) = false
is_of x (apart y v) = bytes_eq y x
is_of x (in_one y v) = bytes_eq y x
is_of x (flag y) = bytes_eq y x

-- how many pass a test
abbrev pub counts : {X : Type 0} → (X → Bool) → List X → ℕ
counts p [] = 0
counts p (x ∷ xs) = (if p x then 1 else 0) + counts p xs

-- how often the option or flag x is used
abbrev pub times : List Use → Text → ℕ
times uses x = counts (is_of x) uses

-- the positionals' words, in order
abbrev pub words_in : List Use → List Text
words_in [] = []
words_in (positional word ∷ uses) = word ∷ words_in uses
words_in (apart x v ∷ uses) = words_in uses
words_in (in_one x v ∷ uses) = words_in uses
words_in (flag x ∷ uses) = words_in uses

-- each positional without brackets stands once and those in brackets at most once, each option without
-- brackets stands once, and each option in brackets and each flag at most once
abbrev pub is_complete : Row → List Use → Bool
is_complete row uses = nat_le (length row.positionals) (length (words_in uses))
    && (nat_le (length (words_in uses)) (length row.positionals + length row.optional)
    && (list_all (λ x. times uses x == 1) row.required
    && (list_all (λ x. nat_le (times uses x) 1) row.options
    && list_all (λ x. nat_le (times uses x) 1) row.flags)))

-- the uses are what the row of the table allows
abbrev pub is_allowed : Row → List Use → Bool
is_allowed row uses = list_all (fits row) uses && is_complete row uses

-- the command of this name
abbrev pub row_named : List Row → Text → Option Row
row_named table name = find (λ r. bytes_eq r.name name) table

-- the words are this command of the table, and then these uses in any order, each allowed
pub record IsCall (table : List Row) (words : List Text) (row : Row) (uses : List Use) : Type 0 where
  pub command : row_named table row.name ≡ Some row
  pub spelling : words ≡ row.name ∷ flat_map spelled uses
  pub allowed : is_allowed row uses ≡ true

-- the words have the form
abbrev pub HasForm : List Row → List Text → Type 0
HasForm table words = (row : Row) × (uses : List Use) × IsCall table words row uses

-- the words are no other command and no other uses
abbrev pub IsOnlyCall : List Row → List Text → Row → List Use → Type 0
IsOnlyCall table words row uses = (other : Row) (others : List Use) → IsCall table words other others → (other ≡ row) × (others ≡ uses)

-- ---- what the words give

-- the value of the option x
abbrev pub value_of : List Use → Text → Option Text
value_of [] x = None
value_of (apart y v ∷ uses) x = if bytes_eq y x then Some v else value_of uses x
value_of (in_one y v ∷ uses) x = if bytes_eq y x then Some v else value_of uses x
value_of (_ ∷ uses) x = value_of uses x

-- the flag x is there
abbrev pub has_flag : List Use → Text → Bool
has_flag uses x = list_any (is_of x) uses

-- the word at the place of the name n
abbrev pub word_at : List Text → List Text → Text → Option Text
word_at [] words n = None
word_at (m ∷ names) [] n = None
word_at (m ∷ names) (w ∷ words) n = if bytes_eq m n then Some w else word_at names words n

-- the word of the positional n
abbrev pub word_of : Row → List Use → Text → Option Text
word_of row uses n = word_at (positional_names row) (words_in uses) n

-- ---- the tables that can be read word by word

-- a name isn't empty and has no `=`
abbrev pub is_name : Text → Bool
is_name [] = false
is_name (b ∷ bs) = not (list_any (λ x. x == 61) (b ∷ bs))

-- the options and flags have such names, and no option is a flag too
abbrev pub is_clear : Row → Bool
is_clear row = list_all is_name (value_names row ++ row.flags) && list_all (λ x. not (is_among row.flags x)) (value_names row)
