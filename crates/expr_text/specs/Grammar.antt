-- The grammar of expressions and formulas: which bytes spell which tree. White space, or none, stands before each token.
--
--     expr    = "sum" "{" names "}" expr | operand { "*" operand } | operand "/" operand
--     operand = "P(" names ["|" conds] ")" | "q" number | "(" expr ")"
--     conds   = "do(" names ")" ["," names] | names
--     names   = name { "," name }
--
-- Each relation is of the bytes from a part on, and the bytes behind it.
use Rattle.std.specs.Prelude.{◌≡◌, ℕ, zero, suc, ◌+◌, ◌^◌, ◌<◌, Bool, true, false, List, [], ◌∷◌, ◌++◌, length, codes, decimal}
use Rattle.std.specs.List.{list_all}
use Rattle.mixed_graph.specs.Vocabulary.{has, is_line_byte, name_of, union, one}
use Rattle.answer_text.specs.Vocabulary.{is_white, is_plain_byte, is_bare}
use Rattle.prob_expr.specs.Tree.{Tree, prob, sum, product, quotient, named}
use Rattle.prob_expr.specs.Vocabulary.{trees_of, PlainFormula}
use Rattle.expr_text.specs.Bytes.{is_digit}

-- white space alone, or nothing
abbrev pub IsBlank : List ℕ → Type 0
IsBlank bytes = list_all is_white bytes ≡ true

-- the bytes don't begin with one of the class
abbrev pub EndsRun : (ℕ → Bool) → List ℕ → Type 0
EndsRun p [] = Unit {0}
EndsRun p (b ∷ bytes) = p b ≡ false

-- a token, behind white space
pub record Token (token bytes rest : List ℕ) : Type 0 where
  pub white : List ℕ
  pub blank : IsBlank white
  pub here : bytes ≡ white ++ (token ++ rest)

-- a name: bare, which is a maximal run of the characters of bare names; or between quotation marks
pub data Name (name bytes rest : List ℕ) : Type 0 where
  bare_name : is_bare name ≡ true → EndsRun is_plain_byte rest → Token name bytes rest → Name name bytes rest
  quoted_name : 0 < length name → list_all is_line_byte name ≡ true → Token (34 ∷ name ++ 34 ∷ []) bytes rest → Name name bytes rest

-- the name of vertex v, which isn't a member of the set that the names before it make
pub record Member (names : List (List ℕ)) (v have : ℕ) (bytes rest : List ℕ) : Type 0 where
  pub below : v < length names
  pub new : has have v ≡ false
  pub name : Name (name_of names v) bytes rest

-- { "," name }, where the names before make one set, and all of them another
abbrev pub MoreNames : List (List ℕ) → List ℕ → ℕ → ℕ → List ℕ → List ℕ → Type 0
MoreNames names [] have set bytes rest = (have ≡ set) × (bytes ≡ rest)
MoreNames names (v ∷ vs) have set bytes rest =
    (a : List ℕ) × (b : List ℕ) × Token (codes ",") bytes a × Member names v have a b × MoreNames names vs (union have (one v)) set b rest

-- names = name { "," name }
pub record Set (names : List (List ℕ)) (set : ℕ) (bytes rest : List ℕ) : Type 0 where
  pub first : ℕ
  pub others : List ℕ
  pub behind : List ℕ
  pub name : Member names first 0 bytes behind
  pub more : MoreNames names others (union 0 (one first)) set behind rest

-- a number of 32 bits in decimal, without a zero at the front of others: a maximal run of digits
pub record Number (k : ℕ) (bytes rest : List ℕ) : Type 0 where
  pub fits : k < 2 ^ 32
  pub ends : EndsRun is_digit rest
  pub digits : Token (decimal k) bytes rest

-- ["|" conds]: what is done and what is given
pub data Conds (names : List (List ℕ)) (doing given : ℕ) (bytes rest : List ℕ) : Type 0 where
  no_conds : 0 ≡ doing → 0 ≡ given → bytes ≡ rest → Conds names doing given bytes rest
  given_alone : (a : List ℕ) → 0 ≡ doing → Token (codes "|") bytes a → Set names given a rest → Conds names doing given bytes rest
  done_alone : (a b c : List ℕ) → 0 ≡ given → Token (codes "|") bytes a → Token (codes "do(") a b → Set names doing b c → Token (codes ")") c rest
      → Conds names doing given bytes rest
  done_and_given : (a b c d e : List ℕ) → Token (codes "|") bytes a → Token (codes "do(") a b → Set names doing b c → Token (codes ")") c d
      → Token (codes ",") d e → Set names given e rest → Conds names doing given bytes rest

-- an operand, where `inside` is what may stand in its parentheses
pub data Operand (names : List (List ℕ)) (inside : Tree → List ℕ → List ℕ → Type 0) (t : Tree) (bytes rest : List ℕ) : Type 0 where
  term : (of doing given : ℕ) (a b c : List ℕ) → prob of doing given ≡ t → Token (codes "P(") bytes a → Set names of a b → Conds names doing given b c
      → Token (codes ")") c rest → Operand names inside t bytes rest
  definition : (k : ℕ) (a : List ℕ) → named k ≡ t → Token (codes "q") bytes a → Number k a rest → Operand names inside t bytes rest
  nested : (a b : List ℕ) → Token (codes "(") bytes a → inside t a b → Token (codes ")") b rest → Operand names inside t bytes rest

-- { "*" operand }
abbrev pub MoreFactors : List (List ℕ) → (Tree → List ℕ → List ℕ → Type 0) → List Tree → List ℕ → List ℕ → Type 0
MoreFactors names inside [] bytes rest = bytes ≡ rest
MoreFactors names inside (t ∷ ts) bytes rest =
    (a : List ℕ) × (b : List ℕ) × Token (codes "*") bytes a × Operand names inside t a b × MoreFactors names inside ts b rest

-- an expression, where `inside` is what may stand in parentheses and under a sum
pub data Expr (names : List (List ℕ)) (inside : Tree → List ℕ → List ℕ → Type 0) (t : Tree) (bytes rest : List ℕ) : Type 0 where
  summed : (over : ℕ) (body : Tree) (a b c d : List ℕ) → sum over body ≡ t → Token (codes "sum") bytes a → Token (codes "{") a b → Set names over b c
      → Token (codes "}") c d → inside body d rest → Expr names inside t bytes rest
  alone : Operand names inside t bytes rest → Expr names inside t bytes rest
  multiplied : (p q : Tree) (ts : List Tree) (a : List ℕ) → product (trees_of (p ∷ q ∷ ts)) ≡ t → Operand names inside p bytes a
      → MoreFactors names inside (q ∷ ts) a rest → Expr names inside t bytes rest
  divided : (p q : Tree) (a b : List ℕ) → quotient p q ≡ t → Operand names inside p bytes a → Token (codes "/") a b → Operand names inside q b rest
      → Expr names inside t bytes rest

-- an expression in which fewer than d parentheses and sums nest
abbrev pub Inside : List (List ℕ) → ℕ → Tree → List ℕ → List ℕ → Type 0
Inside names zero t bytes rest = ⊥
Inside names (suc d) t bytes rest = Expr names (Inside names d) t bytes rest

-- an expression in which at most 60 parentheses and sums nest
abbrev pub Nested : List (List ℕ) → Tree → List ℕ → List ℕ → Type 0
Nested names t bytes rest = Expr names (Inside names 60) t bytes rest

-- { "q" number "=" expr }, with the numbers in order from k on
abbrev pub Definitions : List (List ℕ) → ℕ → List Tree → List ℕ → List ℕ → Type 0
Definitions names k [] bytes rest = bytes ≡ rest
Definitions names k (d ∷ ds) bytes rest =
    (a : List ℕ) × (b : List ℕ) × (c : List ℕ) × (e : List ℕ) × Token (codes "q") bytes a × Number k a b × Token (codes "=") b c × Nested names d c e
    × Definitions names (k + 1) ds e rest

-- the text is one expression
pub record IsExprText (names : List (List ℕ)) (t : Tree) (text : List ℕ) : Type 0 where
  pub rest : List ℕ
  pub expr : Nested names t text rest
  pub end : IsBlank rest

-- the text is an expression and definitions in order
pub record IsFormulaText (names : List (List ℕ)) (f : PlainFormula) (text : List ℕ) : Type 0 where
  pub behind : List ℕ
  pub rest : List ℕ
  pub main : Nested names f.main text behind
  pub defs : Definitions names 0 f.defs behind rest
  pub end : IsBlank rest
