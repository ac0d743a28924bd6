-- The printed answer of an effect that has a formula.
use Rattle.std.specs.Prelude.{ℕ, List, [], ◌++◌, if◌then◌else◌, codes}
use Rattle.answer_text.specs.declared.signs.Notation.{Notation}
use Rattle.answer_text.specs.Vocabulary.{set_text}
use Rattle.mixed_graph.specs.Vocabulary.{is_empty, union, minus}
use Rattle.prob_expr.specs.Tree.{Tree}
use Rattle.prob_expr.specs.Vocabulary.{term_of, effect_on, PlainFormula, PlainTarget, free_of}
use Rattle.expr_text.specs.Vocabulary.{expr_in, formula_in}

-- the effect of x on y as a term: P(y | do(x)), or P(y) for an empty x
abbrev pub effect_term : (x y : ℕ) → Tree
effect_term x y = term_of (effect_on x y)

-- the free variables of a formula that are neither in x nor in y: its value doesn't depend on them, whatever value they get
abbrev pub free_outside : (x y : ℕ) → PlainFormula → ℕ
free_outside x y f = minus (free_of f) (union x y)

-- those that are in none of a target's sets
abbrev pub free_beside : PlainTarget → PlainFormula → ℕ
free_beside t f = minus (free_outside t.x t.y f) t.given

-- the line `free {Z}` of a set; nothing where the set is empty
abbrev pub free_line : List (List ℕ) → ℕ → List ℕ
free_line names free = if is_empty free then [] else codes "free " ++ (set_text names free ++ codes "\n")

-- the target, an equals sign, the lines of the formula, and the line of what is free outside the target's sets
abbrev pub answer_in : Notation → List (List ℕ) → PlainTarget → PlainFormula → List ℕ
answer_in notation names t f =
    expr_in notation names (term_of t) ++ (codes " = " ++ (formula_in notation names f ++ (codes "\n" ++ free_line names (free_beside t f))))
