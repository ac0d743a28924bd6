-- The text of a derivation, move by move.
use Rattle.std.specs.Prelude.{ℕ, List, [], ◌++◌, Option, Some, None, codes, decimal}
use Rattle.std.specs.List.{flat_map}
use Rattle.prob_expr.specs.Tree.{Tree}
use Rattle.prob_expr.specs.View.{view}
use Rattle.expr_text.specs.Vocabulary.{text_of}
use Rattle.do_derivation.specs.Plans.{Plan}
use Rattle.do_derivation.specs.Vocabulary.{move_word, step_view}
use Rattle.derivation_steps.specs.declared.tracing.Made.{Made}
use Rattle.derivation_steps.specs.declared.parts.Part.{Part}

-- `lemma 2`, or `main`, on a line
abbrev pub heading : Option ℕ → List ℕ
heading (Some k) = codes "lemma " ++ (decimal k ++ codes "\n")
heading None = codes "main\n"

-- an expression on a line
abbrev pub expression_line : List (List ℕ) → Tree → List ℕ
expression_line names x = text_of names x ++ codes "\n"

-- the word of a move at its place, as certificates have it; several steps have none
abbrev pub word_of : Plan → List ℕ
word_of (Plan.Make m) = move_word m
word_of (Plan.At i p) = word_of p
word_of (Plan.Then ps) = []

-- `rule2see: P(M|X)`: the word of a move, and the whole expression after it
abbrev pub move_line : List (List ℕ) → Made → List ℕ
move_line names m = word_of (step_view m.step) ++ (codes ": " ++ expression_line names (view m.after))

-- the heading of a part, the expression from which it starts, and the lines of its moves
abbrev pub part_text : List (List ℕ) → Part → List ℕ
part_text names p = heading p.lemma ++ (expression_line names (view p.start) ++ flat_map (move_line names) p.moves.items)

-- all parts, one after another
abbrev pub parts_text : List (List ℕ) → List Part → List ℕ
parts_text names parts = flat_map (part_text names) parts
