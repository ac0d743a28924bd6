-- The objects of answers to the effect of x on y: what those of a formula and of a hedge have in common, and that of a hedge.
use Rattle.std.specs.Prelude.{ℕ, List, [], ◌∷◌, ◌++◌, map, codes}
use Rattle.json.specs.Json.{Json, string}
use Rattle.prob_expr.specs.Vocabulary.{PlainFormula, PlainTarget, term_of}
use Rattle.expr_text.specs.Vocabulary.{text_of, latex_of, formula_latex}
use Rattle.hedge.specs.declared.hedge.Hedge.{Hedge}
use Rattle.counter_models.specs.declared.counter_pair.CounterPair.{CounterPair}
use Rattle.identify_text.specs.Vocabulary.{free_beside}
use Rattle.answer_json.specs.Vocabulary.{array_of, object_of, text_json, set_json}
use Rattle.formula_json.specs.Vocabulary.{tree_json, definitions_json}
use Rattle.hedge_json.specs.Vocabulary.{hedge_json, models_json}
use Rattle.certificate_json.specs.Vocabulary.{expr_json}

-- ---- what was asked for

-- the sets of P(y | do(x), given)
abbrev pub target_members : List (List ℕ) → PlainTarget → List (List ℕ × Json)
target_members names t = (codes "y", set_json names t.y) ∷ (codes "x", set_json names t.x) ∷ (codes "given", set_json names t.given) ∷ []

-- its term as text
abbrev pub effect_json : List (List ℕ) → PlainTarget → Json
effect_json names t = text_json (text_of names (term_of t))

-- ---- a formula

-- a target, an equals sign and its formula in LaTeX
abbrev pub equation_latex : List (List ℕ) → PlainTarget → PlainFormula → List ℕ
equation_latex names t f = latex_of names (term_of t) ++ (codes " = " ++ formula_latex names f)

-- a formula for a target: as text, with what is free in it beside the target's sets, in LaTeX, and as trees
abbrev pub formula_members : List (List ℕ) → PlainTarget → PlainFormula → List (List ℕ × Json)
formula_members names t f =
    (codes "effect", effect_json names t)
    ∷ (codes "formula", expr_json names f.main)
    ∷ (codes "definitions", array_of (map (expr_json names) f.defs))
    ∷ (codes "free", set_json names (free_beside t f))
    ∷ (codes "latex", text_json (equation_latex names t f))
    ∷ (codes "tree", tree_json names f.main)
    ∷ (codes "definition_trees", definitions_json names f) ∷ []

-- ---- a hedge

-- the joint effect of x on y
abbrev pub joint_json : List (List ℕ) → (x y : ℕ) → Json
joint_json names x y = object_of ((codes "y", set_json names y) ∷ (codes "x", set_json names x) ∷ [])

-- the members of the object of a hedge up to the effect of x on y that it is of, into which the target turns
abbrev pub joint_members : List (List ℕ) → PlainTarget → (x y : ℕ) → List (List ℕ × Json)
joint_members names t x y =
    (codes "answer", string (codes "hedge")) ∷ (target_members names t
    ++ (codes "effect", effect_json names t)
    ∷ (codes "joint", joint_json names x y) ∷ [])

-- those of the hedge with its two models
abbrev pub hedge_members : List (List ℕ) → Hedge → CounterPair → List (List ℕ × Json)
hedge_members names h pair = (codes "hedge", hedge_json names h) ∷ (codes "models", models_json names pair) ∷ []
