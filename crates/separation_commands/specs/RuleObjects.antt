-- The objects of the answers of `rule`.
use Rattle.std.specs.Prelude.{ℕ, List, [], ◌∷◌, ◌++◌, codes, decimal}
use Rattle.json.specs.Json.{Json, string, number}
use Rattle.mixed_graph.specs.Vocabulary.{has}
use Rattle.m_separation.specs.declared.paths.OpenPath.{OpenPath}
use Rattle.answer_json.specs.Vocabulary.{object_of, text_json, set_json, path_json}
use Rattle.do_rules.specs.declared.rules.Rule.{Rule}
use Rattle.do_rules.specs.Vocabulary.{left_of, right_of, number_of}
use Rattle.separation_commands.specs.RuleLines.{side_text}

-- the rule and its sets
abbrev pub rule_members : Rule → List (List ℕ) → (y x z given : ℕ) → List (List ℕ × Json)
rule_members r names y x z given = (codes "rule", number (decimal (number_of r)))
    ∷ (codes "y", set_json names y) ∷ (codes "do", set_json names x) ∷ (codes "z", set_json names z) ∷ (codes "given", set_json names given) ∷ []

-- both sides of a rule
abbrev pub side_members : Rule → List (List ℕ) → (y x z given : ℕ) → List (List ℕ × Json)
side_members r names y x z given = (codes "left", text_json (side_text names (left_of r (has x) (has y) (has z) (has given))))
    ∷ (codes "right", text_json (side_text names (right_of r (has x) (has y) (has z) (has given)))) ∷ []
