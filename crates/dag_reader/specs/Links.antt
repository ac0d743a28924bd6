-- Edges between two bare names, read as a whole.
use Rattle.std.specs.Prelude.{◌≡◌, ℕ, Bool, true, false, not, List, [], ◌∷◌, codes, Result, Ok}
use Rattle.answer_text.specs.Vocabulary.{is_edge_byte}
use Rattle.dag_reader.specs.declared.marks.Arrow.{Arrow}
use Rattle.dag_reader.specs.declared.marks.Arrow.TheVariants.{Right, Left, Both}
use Rattle.dag_reader.specs.declared.marks.Remark.TheVariants.{Begins, Joined}
use Rattle.dag_reader.specs.declared.tokens.Due.TheVariants as dues
use Rattle.dag_reader.specs.Tokens.{edge, name, first}
use Rattle.dag_reader.specs.Grammar.{Fault, ◌>>=◌, Said, Position, at_statement, after_name, chain_name, after_group, with_marks, with_vertex, settled}

-- an edge as it is written
abbrev pub sign_of : Arrow → List ℕ
sign_of Right = codes "->"
sign_of Left = codes "<-"
sign_of Both = codes "<->"

-- no byte of an edge is at the front
abbrev pub ends_edge : List ℕ → Bool
ends_edge [] = true
ends_edge (b ∷ bs) = not (is_edge_byte b)

-- the first three tokens are a bare name, an edge and a bare name, and `rest` follows them
pub record IsLink (bytes left : List ℕ) (a : Arrow) (right rest : List ℕ) : Type 0 where
  pub behind_left : List ℕ
  pub behind_edge : List ℕ
  pub left_first : first dues.Token bytes ≡ (name false left, behind_left)
  pub edge_first : first dues.Token behind_left ≡ (edge a, behind_edge)
  pub right_first : first dues.Token behind_edge ≡ (name false right, rest)

-- whether a name that comes here begins a statement
abbrev pub begins_statement : Position → Bool
begins_statement at_statement = true
begins_statement (after_name n) = true
begins_statement (chain_name n) = true
begins_statement after_group = true
begins_statement p = false

-- what a name that begins a statement and the edge behind it say
abbrev pub with_link : Position → List ℕ → Arrow → Said → Result Said Fault
with_link p left a s =
    settled p (name false left) s
    >>= (λ u. with_vertex left (with_marks (Begins ∷ []) u) >>= (λ v. Ok (with_marks (Joined a ∷ []) v)))
