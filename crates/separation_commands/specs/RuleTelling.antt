-- What is told of a rule.
use Rattle.std.specs.Prelude.{ℕ, List, [], ◌∷◌, ◌++◌, codes}
use Rattle.json.specs.Json.{Json}
use Rattle.mixed_graph.specs.Vocabulary.{graph_of}
use Rattle.answer_json.specs.Vocabulary.{path_json}
use Rattle.graph_json.specs.Vocabulary.{graph_json}
use Rattle.replies.specs.declared.outcome.Outcome.{Outcome}
use Rattle.replies.specs.declared.outcome.Outcome.TheVariants.{Yes, No}
use Rattle.replies.specs.Vocabulary.{open_text}
use Rattle.told.specs.Telling.{Telling}
use Rattle.separation_commands.specs.declared.rule.answer.Answer.{Answer}
use Rattle.separation_commands.specs.declared.rule.answer.Answer.TheVariants.{Holds, Fails}
use Rattle.separation_commands.specs.RuleSentences.{rule_sentence, asked_members}

-- yes where the rule holds
abbrev pub rule_outcome : Answer → Outcome
rule_outcome (Holds rule sets cut) = Yes
rule_outcome (Fails rule sets cut path) = No

-- a line with the equation, and another with the open path
abbrev pub rule_text : List (List ℕ) → Answer → List ℕ
rule_text names (Holds rule sets cut) = rule_sentence (codes " holds: ") names rule sets
rule_text names (Fails rule sets cut path) = rule_sentence (codes " does not hold: ") names rule sets
    ++ open_text names path.vertices path.marks path.count

-- the members of the object, of which the last is the graph in which the rule asks for separation
abbrev pub rule_object : List (List ℕ) → Answer → List (List ℕ × Json)
rule_object names (Holds rule sets cut) = asked_members (codes "holds") names rule sets ++ (codes "graph", graph_json names (graph_of cut)) ∷ []
rule_object names (Fails rule sets cut path) = asked_members (codes "does not hold") names rule sets
    ++ (codes "open", path_json names path.vertices path.marks path.count) ∷ (codes "graph", graph_json names (graph_of cut)) ∷ []

-- all of these
abbrev pub rule_telling : Telling Answer
rule_telling = record { outcome = rule_outcome; text = λ w. rule_text; members = λ w. rule_object }
