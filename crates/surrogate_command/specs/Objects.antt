-- The objects of the answers.
use Rattle.std.specs.Prelude.{ℕ, List, [], ◌∷◌, ◌++◌, codes}
use Rattle.json.specs.Json.{Json, string}
use Rattle.prob_expr.specs.Vocabulary.{PlainFormula, PlainTarget}
use Rattle.hedge.specs.declared.hedge.Hedge.{Hedge}
use Rattle.counter_models.specs.declared.counter_pair.CounterPair.{CounterPair}
use Rattle.answer_json.specs.Vocabulary.{set_json, sets_json}
use Rattle.hedge_json.specs.Vocabulary.{hedge_json, models_json}
use Rattle.effect_answers.specs.Vocabulary.{target_members, effect_json, formula_members}

-- what was asked for: the target's sets, and the experiments on zs
abbrev pub asked_members : List (List ℕ) → List ℕ → PlainTarget → List (List ℕ × Json)
asked_members names zs t = target_members names t ++ (codes "experiments", sets_json names zs) ∷ []

-- ---- a formula

-- the members of the object of a formula for a target over experiments on zs
abbrev pub formula_answer : List (List ℕ) → List ℕ → PlainTarget → PlainFormula → List (List ℕ × Json)
formula_answer names zs t f = (codes "answer", string (codes "formula")) ∷ (asked_members names zs t ++ formula_members names t f)

-- ---- a stop

-- the members of a stop up to its hedge: what is said of the effect, and the district that stops
abbrev pub stop_members : (answer : List ℕ) → List (List ℕ) → List ℕ → PlainTarget → (district : ℕ) → Hedge → List (List ℕ × Json)
stop_members answer names zs t district h =
    (codes "answer", string answer) ∷ (asked_members names zs t
    ++ (codes "effect", effect_json names t)
    ∷ (codes "district", set_json names district)
    ∷ (codes "hedge", hedge_json names h) ∷ [])

-- the members of the object of a common hedge, which shows that no formula over the experiments equals the effect: with its two models
abbrev pub common_members : List (List ℕ) → List ℕ → PlainTarget → (district : ℕ) → Hedge → CounterPair → List (List ℕ × Json)
common_members names zs t district h pair = stop_members (codes "hedge") names zs t district h ++ (codes "models", models_json names pair) ∷ []
