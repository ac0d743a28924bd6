-- The object of a derivation, move by move.
use Rattle.std.specs.Prelude.{ℕ, List, [], ◌∷◌, ◌++◌, map, Option, Some, None, codes, decimal}
use Rattle.json.specs.Json.{Json, null, string, number}
use Rattle.mixed_graph.specs.Vocabulary.{graph_of}
use Rattle.prob_expr.specs.Tree.{Tree}
use Rattle.prob_expr.specs.View.{view}
use Rattle.prob_expr.specs.Vocabulary.{PlainFormula, PlainTarget}
use Rattle.expr_text.specs.Vocabulary.{text_of, latex_of}
use Rattle.do_rules.specs.Vocabulary.{number_of}
use Rattle.do_derivation.specs.Vocabulary.{step_view}
use Rattle.derivation_steps.specs.declared.questions.Question.{Question}
use Rattle.derivation_steps.specs.declared.questions.AskedRule.{AskedRule}
use Rattle.derivation_steps.specs.declared.tracing.Made.{Made}
use Rattle.derivation_steps.specs.declared.parts.Part.{Part}
use Rattle.answer_json.specs.Vocabulary.{array_of, object_of, text_json, set_json}
use Rattle.graph_json.specs.Vocabulary.{graph_json}
use Rattle.formula_json.specs.Vocabulary.{tree_json}
use Rattle.certificate_json.specs.Vocabulary.{step_json}
use Rattle.effect_answers.specs.Vocabulary.{target_members, formula_members}

-- an expression: its text, its LaTeX and its tree
abbrev pub expression_json : List (List ℕ) → Tree → Json
expression_json names x = object_of (
    (codes "text", text_json (text_of names x)) ∷ (codes "latex", text_json (latex_of names x)) ∷ (codes "tree", tree_json names x) ∷ [])

-- the number of a rule and its sets
abbrev pub question_members : List (List ℕ) → Question → List (List ℕ × Json)
question_members names q =
    (codes "number", number (decimal (number_of q.rule)))
    ∷ (codes "y", set_json names q.y.bits)
    ∷ (codes "z", set_json names q.z.bits)
    ∷ (codes "do", set_json names q.doing.bits)
    ∷ (codes "given", set_json names q.given.bits) ∷ []

-- a rule for which a move asks, with the graph in which y and z are to be separated by what is set and what is given together
abbrev pub rule_json : List (List ℕ) → AskedRule → Json
rule_json names a = object_of (question_members names a.question ++ (codes "graph", graph_json names (graph_of a.graph)) ∷ [])

-- that rule, or null
abbrev pub asked_json : List (List ℕ) → Option AskedRule → Json
asked_json names None = null
asked_json names (Some a) = rule_json names a

-- a move: the step, as certificates have it, the rule for which it asks, and the whole expression after it
abbrev pub move_json : List (List ℕ) → Made → Json
move_json names m = object_of (
    (codes "step", step_json names (step_view m.step)) ∷ (codes "rule", asked_json names m.asked)
    ∷ (codes "after", expression_json names (view m.after)) ∷ [])

-- the number of a lemma, or null for the formula itself
abbrev pub lemma_json : Option ℕ → Json
lemma_json None = null
lemma_json (Some k) = number (decimal k)

-- a part: its lemma, the expression from which it starts, and its moves
abbrev pub part_json : List (List ℕ) → Part → Json
part_json names p = object_of (
    (codes "lemma", lemma_json p.lemma) ∷ (codes "start", expression_json names (view p.start))
    ∷ (codes "moves", array_of (map (move_json names) p.moves.items)) ∷ [])

-- the formula for the target, and the parts of its derivation
abbrev pub explained_members : List (List ℕ) → PlainTarget → PlainFormula → List Part → List (List ℕ × Json)
explained_members names t f parts = (codes "answer", string (codes "explained"))
    ∷ (target_members names t ++ (formula_members names t f ++ (codes "parts", array_of (map (part_json names) parts)) ∷ []))
