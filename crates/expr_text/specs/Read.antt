-- Reading an expression from left to right. White space may stand before each token. A fault is how many
-- bytes are left from the token on that doesn't fit.
use Rattle.std.specs.Prelude.{◌≡◌, ℕ, zero, suc, ◌+◌, ◌-◌, ◌*◌, ◌^◌, Bool, false, not, ◌||◌, ◌&&◌, ◌==◌, is_none, nat_lt, List, [], ◌∷◌, ◌++◌, length}
use Rattle.std.specs.Prelude.{take, drop, Option, Some, None, Result, Ok, Err, if◌then◌else◌, codes}
use Rattle.std.specs.List.{prefix_len}
use Rattle.prob_expr.specs.Tree.{Tree, prob, sum, product, quotient, named}
use Rattle.prob_expr.specs.Vocabulary.{trees_of, PlainFormula, fault_in}
use Rattle.mixed_graph.specs.Vocabulary.{has, is_line_byte, is_named, index_of, union, one}
use Rattle.answer_text.specs.Vocabulary.{is_white, is_plain_byte}
use Rattle.expr_text.specs.Bytes.{is_digit}
use Rattle.expr_text.specs.declared.stop.ReadStop.{ReadStop}
use Rattle.expr_text.specs.declared.stop.ReadStop.TheVariants.{Left, NoMemory}

infixl 10 ◌>>=◌
-- what follows, where no fault came
abbrev pub ◌>>=◌ : {A B : Type 0} → Result A ℕ → (A → Result B ℕ) → Result B ℕ
(Ok x) >>= f = f x
(Err e) >>= f = Err e

-- one answer where there is no value, another where there is one
abbrev pub when : {A B : Type 0} → Option A → B → (A → B) → B
when None absent present = absent
when (Some x) absent present = present x

-- What a function returned, seen by view, is what reading gives, unless memory ran out.
abbrev pub Fails : {Y : Type 0} → ReadStop → Result Y ℕ → Type 0
Fails (Left n) read = read ≡ Err n
Fails NoMemory read = Unit {0}

-- the same of any answer
abbrev pub Gives : {X Y : Type 0} → (X → Y) → Result X ReadStop → Result Y ℕ → Type 0
Gives view (Ok x) read = read ≡ Ok (view x)
Gives view (Err e) read = Fails e read

-- A value, and the bytes behind what stands for it.
abbrev pub Parse : Type 0 → Type 0
Parse A = Result (A × List ℕ) ℕ

-- the bytes from the next token on
unfoldable pub trim : List ℕ → List ℕ
trim bytes = drop (prefix_len is_white bytes) bytes

-- the bytes behind a text, where they begin with it
abbrev pub after : List ℕ → List ℕ → Option (List ℕ)
after [] bytes = Some bytes
after (t ∷ ts) [] = None
after (t ∷ ts) (b ∷ bytes) = if t == b then after ts bytes else None

-- the bytes behind a token, where it is the next
unfoldable pub next_is : List ℕ → List ℕ → Option (List ℕ)
next_is token bytes = after token (trim bytes)

-- the fault at the next token
abbrev pub bad : {A : Type 0} → List ℕ → Result A ℕ
bad bytes = Err (length (trim bytes))

-- the bytes behind a token that has to be the next
unfoldable pub expect : List ℕ → List ℕ → Result (List ℕ) ℕ
expect token bytes = when (next_is token bytes) (bad bytes) (λ rest. Ok rest)

-- ---- names and sets

-- behind an opening quote: what stands before the closing quote, and what follows it
abbrev pub closed : List ℕ → List ℕ → Option (List ℕ × List ℕ)
closed [] bytes = None
closed (c ∷ name) [] = None
closed (c ∷ name) (b ∷ bytes) = if b == 34 then Some (c ∷ name, bytes) else None

-- behind an opening quotation mark: a name up to the closing one, and what follows it
abbrev pub quoted : List ℕ → Option (List ℕ × List ℕ)
quoted bytes = closed (take (prefix_len is_line_byte bytes) bytes) (drop (prefix_len is_line_byte bytes) bytes)

-- the bytes of bare names at the front, where there are some, and what follows them
abbrev pub bare : List ℕ → Option (List ℕ × List ℕ)
bare bytes =
    if prefix_len is_plain_byte bytes == 0 then None
    else Some (take (prefix_len is_plain_byte bytes) bytes, drop (prefix_len is_plain_byte bytes) bytes)

-- a name at the front, in quotation marks or bare, and what follows it; a bare one doesn't begin with #
abbrev pub raw_name : List ℕ → Option (List ℕ × List ℕ)
raw_name [] = None
raw_name (b ∷ bytes) = if b == 34 then quoted bytes else (if b == 35 then None else bare (b ∷ bytes))

-- a set with the vertex of that name, where there is one and it isn't a member
abbrev pub with_vertex : List (List ℕ) → ℕ → List ℕ → Option ℕ
with_vertex names have name =
    if not (is_named names name) || has have (index_of names name) then None
    else Some (union have (one (index_of names name)))

-- the next name, beside the members before it
unfoldable pub name_at : List (List ℕ) → ℕ → List ℕ → Parse ℕ
name_at names have bytes =
    when (raw_name (trim bytes)) (bad bytes) (λ name.
    when (with_vertex names have name.0) (bad bytes) (λ more.
    Ok (more, name.1)))

-- steps, one after another, as long as there is one; each takes a byte or more
abbrev pub repeat : {A : Type 0} → (A → List ℕ → Option (Parse A)) → ℕ → A → List ℕ → Parse A
repeat step zero a bytes = Ok (a, bytes)
repeat step (suc fuel) a bytes = when (step a bytes) (Ok (a, bytes)) (λ r. r >>= λ p. repeat step fuel p.0 p.1)

-- a comma and one more name, where the comma is the next token
abbrev pub name_step : List (List ℕ) → ℕ → List ℕ → Option (Parse ℕ)
name_step names have bytes = when (next_is (codes ",") bytes) None (λ rest. Some (name_at names have rest))

-- names = name { "," name }: the set of them, in any order
unfoldable pub names_at : List (List ℕ) → List ℕ → Parse ℕ
names_at names bytes = do
  first ← name_at names 0 bytes
  repeat (name_step names) (length first.1) first.0 first.1

-- ---- numbers

abbrev pub number_of : ℕ → List ℕ → ℕ
number_of n [] = n
number_of n (d ∷ ds) = number_of (10 * n + (d - 48)) ds

-- ten digits or fewer, without a zero at the front of others, below 2 ^ 32
abbrev pub is_number : List ℕ → Bool
is_number [] = false
is_number (d ∷ ds) = (nat_lt (length ds) 10 && not (d == 48 && nat_lt 0 (length ds))) && nat_lt (number_of 0 (d ∷ ds)) (2 ^ 32)

-- a number of these digits, or the fault at it
abbrev pub number_in : List ℕ → List ℕ → List ℕ → Parse ℕ
number_in bytes digits rest = if is_number digits then Ok (number_of 0 digits, rest) else bad bytes

-- the next number
unfoldable pub number_at : List ℕ → Parse ℕ
number_at bytes =
    number_in bytes (take (prefix_len is_digit (trim bytes)) (trim bytes)) (drop (prefix_len is_digit (trim bytes)) (trim bytes))

-- ---- terms

unfoldable pub given_at : List (List ℕ) → ℕ → List ℕ → Parse (ℕ × ℕ)
given_at names doing bytes = do
  given ← names_at names bytes
  Ok ((doing, given.0), given.1)

-- behind `do(`: names ")" ["," names]
unfoldable pub doing_at : List (List ℕ) → List ℕ → Parse (ℕ × ℕ)
doing_at names bytes = do
  doing ← names_at names bytes
  rest ← expect (codes ")") doing.1
  when (next_is (codes ",") rest) (Ok ((doing.0, 0), rest)) (given_at names doing.0)

-- what is done and what is given
unfoldable pub conds_at : List (List ℕ) → List ℕ → Parse (ℕ × ℕ)
conds_at names bytes =
    when (next_is (codes "|") bytes) (Ok ((0, 0), bytes)) (λ rest.
    when (next_is (codes "do(") rest) (given_at names 0 rest) (doing_at names))

-- behind `P(`
unfoldable pub term_at : List (List ℕ) → List ℕ → Parse Tree
term_at names bytes = do
  first ← names_at names bytes
  conds ← conds_at names first.1
  rest ← expect (codes ")") conds.1
  Ok (prob first.0 conds.0.0 conds.0.1, rest)

-- behind `q`: the number of a definition
unfoldable pub named_at : List ℕ → Parse Tree
named_at bytes = do
  k ← number_at bytes
  Ok (named k.0, k.1)

-- ---- expressions: `inner` reads one in parentheses or under a sum, where one may still nest

abbrev pub Inner : Type 0
Inner = Option (List ℕ → Parse Tree)

-- behind `(`: expr ")"
unfoldable pub in_parentheses : (List ℕ → Parse Tree) → List ℕ → Parse Tree
in_parentheses inner bytes = do
  e ← inner bytes
  rest ← expect (codes ")") e.1
  Ok (e.0, rest)

-- operand = "P(" names ["|" conds] ")" | "q" number | "(" expr ")"
unfoldable pub operand_at : List (List ℕ) → Inner → List ℕ → Parse Tree
operand_at names inner bytes =
    when (next_is (codes "P(") bytes) (
    when (next_is (codes "q") bytes) (
    when (next_is (codes "(") bytes) (bad bytes) (λ rest.
    when inner (bad bytes) (λ read. in_parentheses read rest)))
    named_at)
    (term_at names)

-- behind `sum`
unfoldable pub sum_at : List (List ℕ) → (List ℕ → Parse Tree) → List ℕ → Parse Tree
sum_at names inner bytes = do
  start ← expect (codes "{") bytes
  over ← names_at names start
  rest ← expect (codes "}") over.1
  body ← inner rest
  Ok (sum over.0 body.0, body.1)

-- behind `*`: one factor more
unfoldable pub factor_at : List (List ℕ) → Inner → List Tree → List ℕ → Parse (List Tree)
factor_at names inner before bytes = do
  next ← operand_at names inner bytes
  Ok (before ++ next.0 ∷ [], next.1)

-- a star and one factor more, where the star is the next token
abbrev pub factor_step : List (List ℕ) → Inner → List Tree → List ℕ → Option (Parse (List Tree))
factor_step names inner before bytes = when (next_is (codes "*") bytes) None (λ rest. Some (factor_at names inner before rest))

-- behind the first factor and `*`
unfoldable pub factors_at : List (List ℕ) → Inner → Tree → List ℕ → Parse Tree
factors_at names inner first bytes = do
  two ← factor_at names inner (first ∷ []) bytes
  all ← repeat (factor_step names inner) (length two.1) two.0 two.1
  Ok (product (trees_of all.0), all.1)

-- behind the top and `/`
unfoldable pub bottom_at : List (List ℕ) → Inner → Tree → List ℕ → Parse Tree
bottom_at names inner top bytes = do
  bottom ← operand_at names inner bytes
  Ok (quotient top bottom.0, bottom.1)

-- operand { "*" operand } | operand "/" operand
unfoldable pub operands_at : List (List ℕ) → Inner → List ℕ → Parse Tree
operands_at names inner bytes = do
  first ← operand_at names inner bytes
  when (next_is (codes "*") first.1) (
      when (next_is (codes "/") first.1) (Ok first) (bottom_at names inner first.0)
      ) (factors_at names inner first.0)

-- expr = "sum" "{" names "}" expr | operand { "*" operand } | operand "/" operand
unfoldable pub expr_with : List (List ℕ) → Inner → List ℕ → Parse Tree
expr_with names inner bytes =
    when (next_is (codes "sum") bytes) (operands_at names inner bytes) (λ rest.
    when inner (bad bytes) (λ read. sum_at names read rest))

-- what reads inside, where so many may still nest
unfoldable pub inner_of : List (List ℕ) → ℕ → Inner
inner_of names zero = None
inner_of names (suc more) = Some (expr_with names (inner_of names more))

-- one expression, and nothing else
unfoldable pub expr_of : List (List ℕ) → List ℕ → Result Tree ℕ
expr_of names text = do
  e ← expr_with names (inner_of names 60) text
  if length (trim e.1) == 0 then Ok e.0 else bad e.1

-- ---- formulas

-- a definition, behind its `q`; so many were read before
unfoldable pub def_body : List (List ℕ) → List Tree → List ℕ → Parse (List Tree)
def_body names before bytes = do
  rest ← expect (codes "=") bytes
  e ← expr_with names (inner_of names 60) rest
  Ok (before ++ e.0 ∷ [], e.1)

-- behind `q`: the number of the next definition, and its rest
unfoldable pub def_at : List (List ℕ) → List Tree → List ℕ → Parse (List Tree)
def_at names before bytes = do
  k ← number_at bytes
  if k.0 == length before then def_body names before k.1 else bad bytes

-- one definition more, where `q` is the next token
abbrev pub def_step : List (List ℕ) → List Tree → List ℕ → Option (Parse (List Tree))
def_step names before bytes = when (next_is (codes "q") bytes) None (λ rest. Some (def_at names before rest))

-- a formula that `check` accepts, or the fault at the end of the text
abbrev pub checked : ℕ → PlainFormula → Result PlainFormula ℕ
checked n f = if is_none (fault_in n f) then Ok f else Err 0

-- one expression, then definitions from `q0` on, and nothing else
unfoldable pub formula_of : List (List ℕ) → List ℕ → Result PlainFormula ℕ
formula_of names text = do
  main ← expr_with names (inner_of names 60) text
  defs ← repeat (def_step names) (length main.1) [] main.1
  if length (trim defs.1) == 0 then checked (length names) (record { defs = defs.0; main = main.0 }) else bad defs.1
