-- What is printed.
use Rattle.std.specs.Prelude.{ℕ, List, ◌++◌, codes}
use Rattle.answer_text.specs.Vocabulary.{set_text}
use Rattle.expr_text.specs.Vocabulary.{text_of}
use Rattle.hedge.specs.declared.hedge.Hedge.{Hedge}
use Rattle.counter_models.specs.declared.counter_pair.CounterPair.{CounterPair}
use Rattle.identify_text.specs.Vocabulary.{effect_term, sets_line, models_text}
use Rattle.experiment_lists.specs.Vocabulary.{unidentifiable_with_line}

-- `P(Y|do(X)) has no formula found from these experiments`
abbrev pub unfound_line : List (List ℕ) → (x y : ℕ) → List ℕ
unfound_line names x y = text_of names (effect_term x y) ++ codes " has no formula found from these experiments\n"

-- `district {Y}`
abbrev pub district_line : List (List ℕ) → ℕ → List ℕ
district_line names district = codes "district " ++ (set_text names district ++ codes "\n")

-- that no formula is found, the district that stops, and the sets of the hedge
abbrev pub stop_answer : List (List ℕ) → (x y district : ℕ) → Hedge → List ℕ
stop_answer names x y district h = unfound_line names x y ++ (district_line names district ++ sets_line names h)

-- that no formula equals the effect, the district that stops, and the common hedge with its two models
abbrev pub common_answer : List (List ℕ) → (x y district : ℕ) → Hedge → CounterPair → List ℕ
common_answer names x y district h pair =
    unidentifiable_with_line names x y ++ (district_line names district ++ (sets_line names h ++ models_text names h pair))
