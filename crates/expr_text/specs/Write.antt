-- The text of an expression, and of a formula, in either notation.
use Rattle.std.specs.Prelude.{ℕ, suc, ◌+◌, max, List, [], ◌∷◌, ◌++◌, codes, decimal}
use Rattle.mixed_graph.specs.Vocabulary.{has}
use Rattle.answer_text.specs.declared.signs.Notation.{Notation}
use Rattle.answer_text.specs.declared.signs.Notation.TheVariants.{Plain, Latex}
use Rattle.answer_text.specs.declared.signs.Sign.TheVariants.{Sum, Times, Open, Close}
use Rattle.answer_text.specs.Vocabulary.{sign_text, by_notation, set_in, term_in}
use Rattle.expr_text.specs.declared.writing.Place.{Place}
use Rattle.expr_text.specs.declared.writing.Place.TheVariants.{First, Later}
use Rattle.prob_expr.specs.Tree.{Tree, prob, sum, product, quotient, named, tree}
use Rattle.prob_expr.specs.Vocabulary.{Trees, no_trees, PlainFormula}

-- a text in parentheses
abbrev pub parenthesized : Notation → List ℕ → List ℕ
parenthesized notation text = sign_text notation Open ++ (text ++ sign_text notation Close)

-- the text of an expression as an operand: sums, products and quotients stand in parentheses
abbrev pub wrapped : Notation → Tree → List ℕ → List ℕ
wrapped notation (prob a b c) text = text
wrapped notation (sum u e) text = parenthesized notation text
wrapped notation (product ts) text = parenthesized notation text
wrapped notation (quotient p q) text = parenthesized notation text
wrapped notation (named k) text = text

-- two operands with a slash between them; in LaTeX a fraction, whose parts have no parentheses
abbrev pub quotient_in : Notation → (p q : Tree) → (top bottom : List ℕ) → List ℕ
quotient_in Plain p q top bottom = wrapped Plain p top ++ (codes " / " ++ wrapped Plain q bottom)
quotient_in Latex p q top bottom = codes "\\frac{" ++ (top ++ (codes "}{" ++ (bottom ++ codes "}")))

-- the name of a definition: `q` and its number
abbrev pub name_of_def : Notation → ℕ → List ℕ
name_of_def notation k = by_notation notation (codes "q" ++ decimal k) (codes "q_{" ++ (decimal k ++ codes "}"))

-- a factor, and before a later one the sign of a product
abbrev pub factor_in : Notation → Place → List ℕ → List ℕ
factor_in notation First text = text
factor_in notation Later text = sign_text notation Times ++ text

abbrev mutual
  -- a term as `P(Y|do(X),Z)`; a sum as its sign, the set and the body; factors as operands
  pub expr_in : Notation → List (List ℕ) → Tree → List ℕ
  expr_in notation names (prob a b c) = term_in notation names (has a) (has b) (has c)
  expr_in notation names (sum u e) = sign_text notation Sum ++ (set_in notation names u ++ (codes " " ++ expr_in notation names e))
  expr_in notation names (product ts) = factors_in notation First names ts
  expr_in notation names (quotient p q) = quotient_in notation p q (expr_in notation names p) (expr_in notation names q)
  expr_in notation names (named k) = name_of_def notation k

  -- factors, from the first one or from a later one on
  pub factors_in : Notation → Place → List (List ℕ) → Trees → List ℕ
  factors_in notation place names no_trees = []
  factors_in notation place names (tree t ts) = factor_in notation place (wrapped notation t (expr_in notation names t)) ++ factors_in notation Later names ts

-- each definition on a line of its own, behind its name and ` = `
abbrev pub defs_in : Notation → List (List ℕ) → ℕ → List Tree → List ℕ
defs_in notation names k [] = []
defs_in notation names k (d ∷ ds) =
    codes "\n" ++ (name_of_def notation k ++ (codes " = " ++ (expr_in notation names d ++ defs_in notation names (k + 1) ds)))

-- the main expression, and then the definitions
abbrev pub formula_in : Notation → List (List ℕ) → PlainFormula → List ℕ
formula_in notation names f = expr_in notation names f.main ++ defs_in notation names 0 f.defs

-- ---- plain text, and LaTeX

-- an expression as plain text
abbrev pub text_of : List (List ℕ) → Tree → List ℕ
text_of names t = expr_in Plain names t

-- an expression as LaTeX
abbrev pub latex_of : List (List ℕ) → Tree → List ℕ
latex_of names t = expr_in Latex names t

-- a formula as plain text, each definition on a line of its own
abbrev pub formula_text : List (List ℕ) → PlainFormula → List ℕ
formula_text names f = formula_in Plain names f

-- a formula as LaTeX, each definition on a line of its own
abbrev pub formula_latex : List (List ℕ) → PlainFormula → List ℕ
formula_latex names f = formula_in Latex names f

-- ---- what is read back

-- how many parentheses and sums stand round the innermost part of a plain text
abbrev pub deeper : Tree → ℕ → ℕ
deeper (prob a b c) n = n
deeper (sum u e) n = suc n
deeper (product ts) n = suc n
deeper (quotient p q) n = suc n
deeper (named k) n = n

abbrev mutual
  pub nesting : Tree → ℕ
  nesting (prob a b c) = 0
  nesting (sum u e) = suc (nesting e)
  nesting (product ts) = nesting_each ts
  nesting (quotient p q) = max (deeper p (nesting p)) (deeper q (nesting q))
  nesting (named k) = 0

  pub nesting_each : Trees → ℕ
  nesting_each no_trees = 0
  nesting_each (tree t ts) = max (deeper t (nesting t)) (nesting_each ts)

-- the deepest nesting in a list of trees
abbrev pub nesting_all : List Tree → ℕ
nesting_all [] = 0
nesting_all (d ∷ ds) = max (nesting d) (nesting_all ds)
