-- What a graph text says, from left to right, and the first fault that ends the reading.
use Rattle.std.specs.Prelude.{ℕ, Bool, true, false, not, ◌&&◌, nat_le, List, [], ◌∷◌, ◌++◌, length, Option, Some, None, if◌then◌else◌, codes, Result, Ok, Err}
use Rattle.std.specs.List.{list_any}
use Rattle.std.specs.Str.{bytes_eq}
use Rattle.mixed_graph.specs.Vocabulary.{with_name, index_of}
use Rattle.dag_reader.specs.declared.grammar.Braces.{Braces}
use Rattle.dag_reader.specs.declared.grammar.Braces.TheVariants as which
use Rattle.dag_reader.specs.declared.marks.Role.{Role}
use Rattle.dag_reader.specs.declared.marks.Role.TheVariants.{Exposure, Outcome, Adjusted, Latent}
use Rattle.dag_reader.specs.declared.marks.Remark.{Remark}
use Rattle.dag_reader.specs.declared.marks.Remark.TheVariants.{Begins, Joined, Member, HasRole}
use Rattle.dag_reader.specs.Tokens.{Tok, open_brace, close_brace, open_bracket, close_bracket, semicolon, equals, comma, edge, name, value, end, bad, bad_edge}

-- the faults of a text from left to right, with their places and names
pub data Fault : Type 0 where
  not_utf8 : ℕ → Fault
  token : ℕ → Fault
  expected : ℕ → Fault
  not_a_dag : Fault
  edge_kind : ℕ → Fault
  flag : ℕ → Fault
  selected : List ℕ → Fault
  self_loop : List ℕ → Fault
  too_many : Fault
  role_clash : List ℕ → Fault
  cycle : List (List ℕ) → Fault

infixl 10 ◌>>=◌
-- what follows, unless a fault came
abbrev pub ◌>>=◌ : {A B : Type 0} → Result A Fault → (A → Result B Fault) → Result B Fault
(Ok x) >>= f = f x
(Err e) >>= f = Err e

-- what was said: the names of the vertices, and the marks of what was said of them
pub record Said : Type 0 where
  pub names : List (List ℕ)
  pub marks : List Remark

-- nothing was said
abbrev pub nothing : Said
nothing = record { names = []; marks = [] }

-- ---- where a reader is between two tokens

pub data Position : Type 0 where
  at_start : Position
  at_dag : Position  -- behind `dag`
  at_title : Position  -- behind the graph's name
  at_statement : Position
  after_name : List ℕ → Position  -- the first name of a statement, whose use the next token settles
  at_key_value : Position
  in_group : Braces → Position  -- in the first braces of a statement or in later ones
  group_name : Braces → List ℕ → Position  -- behind a name in braces
  after_first : Position  -- behind the braces that begin a statement
  after_edge : Position
  chain_name : List ℕ → Position  -- behind a name that is a group of a chain
  after_group : Position  -- behind the braces of a group of a chain
  at_attrs : Option (List ℕ) → Position  -- behind `[`: of a vertex or of a chain
  attr_name : Option (List ℕ) → ℕ → List ℕ → Position  -- behind an attribute's name, which stands there
  at_attr_value : Option (List ℕ) → Position
  after_attr : Option (List ℕ) → Position
  after_comma : Option (List ℕ) → Position
  at_end : Position  -- behind the last `}`

-- ---- the grammar of tokens alone

-- what may begin at a statement's place, or end the text
abbrev pub next_statement : Tok → Option Position
next_statement semicolon = Some at_statement
next_statement (name q n) = Some (after_name n)
next_statement open_brace = Some (in_group which.First)
next_statement close_brace = Some at_end
next_statement t = None

-- behind a group of a chain
abbrev pub next_in_chain : Tok → Option Position
next_in_chain (edge a) = Some after_edge
next_in_chain open_bracket = Some (at_attrs None)
next_in_chain t = next_statement t

-- behind a first name
abbrev pub next_after_name : List ℕ → Tok → Option Position
next_after_name n equals = Some at_key_value
next_after_name n (edge a) = Some after_edge
next_after_name n open_bracket = Some (at_attrs (Some n))
next_after_name n t = next_statement t

-- behind braces
abbrev pub behind_braces : Braces → Position
behind_braces which.First = after_first
behind_braces which.Later = after_group

-- inside braces
abbrev pub next_in_group : Braces → Tok → Option Position
next_in_group b semicolon = Some (in_group b)
next_in_group b (name q n) = Some (group_name b n)
next_in_group b close_brace = Some (behind_braces b)
next_in_group b t = None

-- behind `[`
abbrev pub next_in_attrs : Option (List ℕ) → ℕ → Tok → Option Position
next_in_attrs of at (name q n) = Some (attr_name of at n)
next_in_attrs of at close_bracket = Some at_statement
next_in_attrs of at t = None

-- behind an attribute
abbrev pub next_after_attr : Option (List ℕ) → ℕ → Tok → Option Position
next_after_attr of at comma = Some (after_comma of)
next_after_attr of at t = next_in_attrs of at t

-- The place behind a token that stands at `at`, where it fits.
abbrev pub next : Position → ℕ → Tok → Option Position
next at_start at (name false n) = if bytes_eq n (codes "dag") then Some at_dag else None
next at_dag at (name q n) = Some at_title
next at_dag at open_brace = Some at_statement
next at_title at open_brace = Some at_statement
next at_statement at t = next_statement t
next (after_name n) at t = next_after_name n t
next at_key_value at (value d) = if d then Some at_statement else None
next (in_group b) at t = next_in_group b t
next (group_name b n) at t = next_in_group b t
next after_first at (edge a) = Some after_edge
next after_edge at (name q n) = Some (chain_name n)
next after_edge at open_brace = Some (in_group which.Later)
next (chain_name n) at t = next_in_chain t
next after_group at t = next_in_chain t
next (at_attrs of) at t = next_in_attrs of at t
next (attr_name of k n) at equals = Some (at_attr_value of)
next (attr_name of k n) at t = next_after_attr of at t
next (at_attr_value of) at (value d) = Some (after_attr of)
next (after_attr of) at t = next_after_attr of at t
next (after_comma of) at (name q n) = Some (attr_name of at n)
next p at t = None

-- ---- what is said, and the faults of names and flags

abbrev pub with_marks : List Remark → Said → Said
with_marks ms s = record { names = s.names; marks = s.marks ++ ms }

-- a vertex more; a name that is there keeps its number
abbrev pub with_vertex : List ℕ → Said → Result Said Fault
with_vertex n s =
    if not (list_any (bytes_eq n) s.names) && nat_le 64 (length s.names) then Err too_many
    else Ok (record { names = with_name s.names n; marks = s.marks ++ Member (index_of s.names n) ∷ [] })

-- the role that an attribute names
abbrev pub role_of : List ℕ → Option Role
role_of n =
    if bytes_eq n (codes "exposure") then Some Exposure
    else (if bytes_eq n (codes "outcome") then Some Outcome
    else (if bytes_eq n (codes "adjusted") then Some Adjusted
    else (if bytes_eq n (codes "latent") then Some Latent else None)))

-- a role for the vertex before
abbrev pub with_role : ℕ → Option Role → Said → Result Said Fault
with_role at None s = Err (flag at)
with_role at (Some r) s = Ok (with_marks (HasRole r ∷ []) s)

-- a bare attribute of a vertex or of a chain
abbrev pub with_flag : Option (List ℕ) → ℕ → List ℕ → Said → Result Said Fault
with_flag None at n s = Err (flag at)
with_flag (Some v) at n s = if bytes_eq n (codes "selected") then Err (selected v) else with_role at (role_of n) s

-- what the name before a token is, which the token settles
abbrev pub settled : Position → Tok → Said → Result Said Fault
settled (after_name n) equals s = Ok s
settled (after_name n) t s = with_vertex n (with_marks (Begins ∷ []) s)
settled (group_name b n) t s = with_vertex n s
settled (chain_name n) t s = with_vertex n s
settled (attr_name of at n) equals s = Ok s
settled (attr_name of at n) t s = with_flag of at n s
settled p t s = Ok s

-- what a token itself says, where it fits
abbrev pub noted : Position → Tok → Said → Said
noted at_statement open_brace s = with_marks (Begins ∷ []) s
noted (after_name n) open_brace s = with_marks (Begins ∷ []) s
noted (chain_name n) open_brace s = with_marks (Begins ∷ []) s
noted after_group open_brace s = with_marks (Begins ∷ []) s
noted p (edge a) s = with_marks (Joined a ∷ []) s
noted p t s = s

-- the fault of a token that doesn't fit; a value that may not be dropped is none of a statement
abbrev pub misfit : Position → ℕ → Tok → Fault
misfit at_start at t = not_a_dag
misfit at_key_value at (value d) = token at
misfit p at t = expected at

-- ---- one token more

pub data Turn : Type 0 where
  goes_on : Position → Said → Turn
  ends : Result Said Fault → Turn

-- where no token stands, or an edge of another kind of graph
abbrev pub own_fault : ℕ → Tok → Option Fault
own_fault at bad = Some (token at)
own_fault at bad_edge = Some (edge_kind at)
own_fault at t = None

-- whether nothing is left
abbrev pub is_end : Tok → Bool
is_end end = true
is_end t = false

-- at the end of the text
abbrev pub ended : Position → ℕ → Said → Turn
ended at_end at s = ends (Ok s)
ended p at s = ends (Err (misfit p at end))

-- behind a token that fits, or the fault where it does not
abbrev pub fitted : Position → ℕ → Tok → Option Position → Said → Turn
fitted p at t None s = ends (Err (misfit p at t))
fitted p at t (Some q) s = goes_on q (noted p t s)

-- a token behind what the name before it has become
abbrev pub taken : Position → ℕ → Tok → Result Said Fault → Turn
taken p at t (Err e) = ends (Err e)
taken p at t (Ok s) = if is_end t then ended p at s else fitted p at t (next p at t) s

-- the first of two, or the second
abbrev pub judged : Option Fault → Turn → Turn
judged (Some f) turn = ends (Err f)
judged None turn = turn

-- A token's own fault, then that of the name before it, then that of the grammar.
unfoldable pub step : Position → Said → ℕ → Tok → Turn
step p s at t = judged (own_fault at t) (taken p at t (settled p t s))
