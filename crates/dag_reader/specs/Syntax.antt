-- The grammar of graph text: what a text is made of, how it is spelled, and what it says.
use Rattle.std.specs.Prelude.{ℕ, Bool, true, false, List, [], ◌∷◌, Option, Some, None, codes, Result, Ok, Err}
use Rattle.dag_reader.specs.declared.marks.Arrow.{Arrow}
use Rattle.dag_reader.specs.declared.marks.Remark.TheVariants.{Begins, Joined}
use Rattle.dag_reader.specs.Tokens.{Tok, open_brace, close_brace, open_bracket, close_bracket, semicolon, equals, comma, edge, name, value, end}
use Rattle.dag_reader.specs.Grammar.{Fault, Said, nothing, with_marks, with_vertex, with_flag}

-- a name as it stands in a text: whether it is quoted, and its characters
pub record Word : Type 0 where
  pub quoted : Bool
  pub text : List ℕ

-- what stands in the braces of a group: { name | ";" }
pub data Inner : Type 0 where
  inner_semicolon : Inner
  inner_name : Word → Inner

-- group = name | "{" { name | ";" } "}"
pub data Group : Type 0 where
  single : Word → Group
  braces : List Inner → Group

-- attr = name | name "=" value, where any value will do
pub data Attr : Type 0 where
  bare : Word → Attr
  valued : Word → (droppable : Bool) → Attr

-- [","] attr
pub data Later : Type 0 where
  next_attr : Attr → Later
  comma_attr : Attr → Later

-- attrs = "[" [attr { [","] attr }] "]"
pub data Attrs : Type 0 where
  no_attr : Attrs
  attr_list : Attr → List Later → Attrs

-- statement = name "=" value | name [attrs] | group edge group { edge group } [attrs], or a ";" among them;
-- a value behind a name alone is one that may be dropped
pub data Statement : Type 0 where
  lone_semicolon : Statement
  dropped : Word → Statement
  vertex : Word → Option Attrs → Statement
  chain : Group → Arrow × Group → List (Arrow × Group) → Option Attrs → Statement

-- text = "dag" [name] "{" { statement | ";" } "}" end
pub record Text : Type 0 where
  pub title : Option Word
  pub statements : List Statement

-- ---- how it is spelled

abbrev pub word_token : Word → Tok
word_token w = name w.quoted w.text

-- a semicolon or a name
abbrev pub inner_token : Inner → Tok
inner_token inner_semicolon = semicolon
inner_token (inner_name w) = word_token w

-- what stands in braces, and the closing brace
abbrev pub inner_tokens : List Inner → List Tok → List Tok
inner_tokens [] more = close_brace ∷ more
inner_tokens (i ∷ is) more = inner_token i ∷ inner_tokens is more

-- the tokens of each part, and then more
abbrev pub group_tokens : Group → List Tok → List Tok
group_tokens (single w) more = word_token w ∷ more
group_tokens (braces is) more = open_brace ∷ inner_tokens is more

-- an attribute, with its value where it has one
abbrev pub attr_tokens : Attr → List Tok → List Tok
attr_tokens (bare w) more = word_token w ∷ more
attr_tokens (valued w d) more = word_token w ∷ equals ∷ value d ∷ more

-- further attributes, each behind a comma or not, and the closing bracket
abbrev pub later_tokens : List Later → List Tok → List Tok
later_tokens [] more = close_bracket ∷ more
later_tokens (next_attr a ∷ ls) more = attr_tokens a (later_tokens ls more)
later_tokens (comma_attr a ∷ ls) more = comma ∷ attr_tokens a (later_tokens ls more)

-- what stands in brackets
abbrev pub inside_tokens : Attrs → List Tok → List Tok
inside_tokens no_attr more = close_bracket ∷ more
inside_tokens (attr_list a ls) more = attr_tokens a (later_tokens ls more)

-- the brackets, where there are some
abbrev pub attrs_tokens : Option Attrs → List Tok → List Tok
attrs_tokens None more = more
attrs_tokens (Some attrs) more = open_bracket ∷ inside_tokens attrs more

-- edges with the groups behind them
abbrev pub links_tokens : List (Arrow × Group) → List Tok → List Tok
links_tokens [] more = more
links_tokens (l ∷ ls) more = edge l.0 ∷ group_tokens l.1 (links_tokens ls more)

-- a statement
abbrev pub statement_tokens : Statement → List Tok → List Tok
statement_tokens lone_semicolon more = semicolon ∷ more
statement_tokens (dropped w) more = word_token w ∷ equals ∷ value true ∷ more
statement_tokens (vertex w attrs) more = word_token w ∷ attrs_tokens attrs more
statement_tokens (chain g l ls attrs) more = group_tokens g (links_tokens (l ∷ ls) (attrs_tokens attrs more))

-- the statements, the closing brace and the end
abbrev pub body_tokens : List Statement → List Tok → List Tok
body_tokens [] more = close_brace ∷ end ∷ more
body_tokens (x ∷ xs) more = statement_tokens x (body_tokens xs more)

-- the graph's name, where it has one, and the opening brace
abbrev pub title_tokens : Option Word → List Tok → List Tok
title_tokens None more = open_brace ∷ more
title_tokens (Some w) more = word_token w ∷ open_brace ∷ more

-- the whole text
abbrev pub text_tokens : Text → List Tok → List Tok
text_tokens t more = name false (codes "dag") ∷ title_tokens t.title (body_tokens t.statements more)

-- ---- what it says, where no vertex is one too many and each bare attribute is allowed

infixl 10 ◌>>=◌
-- what follows, where something was said
abbrev pub ◌>>=◌ : {A B : Type 0} → Option A → (A → Option B) → Option B
(Some x) >>= f = f x
None >>= f = None

-- what was said, where no fault came
abbrev pub allowed : Result Said Fault → Option Said
allowed (Ok s) = Some s
allowed (Err e) = None

-- a vertex
abbrev pub vertex_says : Word → Said → Option Said
vertex_says w s = allowed (with_vertex w.text s)

-- the names in braces
abbrev pub inner_say : List Inner → Said → Option Said
inner_say [] s = Some s
inner_say (inner_semicolon ∷ is) s = inner_say is s
inner_say (inner_name w ∷ is) s = vertex_says w s >>= inner_say is

-- a group
abbrev pub group_says : Group → Said → Option Said
group_says (single w) s = vertex_says w s
group_says (braces is) s = inner_say is s

-- the attributes of a vertex, or of a chain; a place is in the faults alone
abbrev pub attr_says : Option (List ℕ) → Attr → Said → Option Said
attr_says of (bare w) s = allowed (with_flag of 0 w.text s)
attr_says of (valued w d) s = Some s

-- further attributes
abbrev pub later_say : Option (List ℕ) → List Later → Said → Option Said
later_say of [] s = Some s
later_say of (next_attr a ∷ ls) s = attr_says of a s >>= later_say of ls
later_say of (comma_attr a ∷ ls) s = attr_says of a s >>= later_say of ls

-- the attributes in brackets
abbrev pub attrs_say : Option (List ℕ) → Option Attrs → Said → Option Said
attrs_say of None s = Some s
attrs_say of (Some no_attr) s = Some s
attrs_say of (Some (attr_list a attrs)) s = attr_says of a s >>= later_say of attrs

-- the edges of a chain
abbrev pub links_say : List (Arrow × Group) → Said → Option Said
links_say [] s = Some s
links_say (l ∷ ls) s = group_says l.1 (with_marks (Joined l.0 ∷ []) s) >>= links_say ls

-- a statement
abbrev pub statement_says : Statement → Said → Option Said
statement_says lone_semicolon s = Some s
statement_says (dropped w) s = Some s
statement_says (vertex w attrs) s = vertex_says w (with_marks (Begins ∷ []) s) >>= attrs_say (Some w.text) attrs
statement_says (chain g l ls attrs) s = group_says g (with_marks (Begins ∷ []) s) >>= (λ u. links_say (l ∷ ls) u >>= attrs_say None attrs)

-- statements in turn
abbrev pub statements_say : List Statement → Said → Option Said
statements_say [] s = Some s
statements_say (x ∷ xs) s = statement_says x s >>= statements_say xs

-- what the whole text says
abbrev pub text_says : Text → Option Said
text_says t = statements_say t.statements nothing
