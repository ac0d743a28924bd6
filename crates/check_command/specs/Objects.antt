-- The objects of accepted certificates.
use Rattle.std.specs.Prelude.{ℕ, List, [], ◌∷◌, ◌++◌, codes}
use Rattle.json.specs.Json.{Json, string}
use Rattle.prob_expr.specs.Vocabulary.{PlainFormula, PlainTarget, effect_on}
use Rattle.hedge.specs.declared.hedge.Hedge.{Hedge}
use Rattle.answer_json.specs.Vocabulary.{set_json}
use Rattle.hedge_json.specs.Vocabulary.{hedge_json}
use Rattle.effect_answers.specs.Vocabulary.{target_members, effect_json, formula_members}

-- that a certificate is accepted, and what it is of
abbrev pub accepted_members : (kind : List ℕ) → List (List ℕ × Json)
accepted_members kind = (codes "answer", string (codes "accepted")) ∷ (codes "of", string kind) ∷ []

-- the members of the object of an accepted formula for a target
abbrev pub formula_answer : List (List ℕ) → PlainTarget → PlainFormula → List (List ℕ × Json)
formula_answer names t f = accepted_members (codes "formula") ++ (target_members names t ++ formula_members names t f)

-- the members of the object of an accepted hedge for the effect of x on y
abbrev pub hedge_answer : List (List ℕ) → (x y : ℕ) → Hedge → List (List ℕ × Json)
hedge_answer names x y h = accepted_members (codes "hedge") ++ (
    (codes "y", set_json names y) ∷ (codes "x", set_json names x)
    ∷ (codes "effect", effect_json names (effect_on x y))
    ∷ (codes "hedge", hedge_json names h) ∷ [])
