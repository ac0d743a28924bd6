-- The parts of what is told of a rule.
use Rattle.std.specs.Prelude.{ℕ, List, [], ◌∷◌, ◌++◌, codes, decimal}
use Rattle.json.specs.Json.{Json, string}
use Rattle.mixed_graph.specs.Vocabulary.{has}
use Rattle.do_rules.specs.declared.rules.Rule.{Rule}
use Rattle.do_rules.specs.Vocabulary.{number_of}
use Rattle.targets.specs.declared.query.RuleSets.{RuleSets}
use Rattle.separation_commands.specs.RuleLines.{equation_text}
use Rattle.separation_commands.specs.RuleObjects.{rule_members, side_members}

-- `rule 2 holds: P(y|do(x)) = P(y|x)`
abbrev pub rule_sentence : (verb : List ℕ) → List (List ℕ) → Rule → RuleSets → List ℕ
rule_sentence verb names r s = codes "rule " ++ (decimal (number_of r)
    ++ (verb ++ (equation_text r names (has s.x.bits) (has s.y.bits) (has s.z.bits) (has s.given.bits) ++ 10 ∷ [])))

-- the answer's word, the rule, its sets and both its sides
abbrev pub asked_members : (word : List ℕ) → List (List ℕ) → Rule → RuleSets → List (List ℕ × Json)
asked_members word names r s = (codes "answer", string word)
    ∷ (rule_members r names s.y.bits s.x.bits s.z.bits s.given.bits ++ side_members r names s.y.bits s.x.bits s.z.bits s.given.bits)
