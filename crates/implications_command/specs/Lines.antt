-- The lines that `implications` prints.
use Rattle.std.specs.Prelude.{ℕ, ℤ, List, ◌∷◌, ◌++◌, codes}
use Rattle.std.specs.List.{flat_map}
use Rattle.std.specs.Fmt.{signed_decimal}
use Rattle.mixed_graph.specs.Vocabulary.{has, members_below, name_of}
use Rattle.answer_text.specs.Vocabulary.{printed, set_text}
use Rattle.count_rows.specs.Vocabulary.{Table}
use Rattle.count_eval.specs.Vocabulary.{cell_of}
use Rattle.count_answers.specs.Vocabulary.{assignments}
use Rattle.implications.specs.declared.pairs.Implication.{Implication}
use Rattle.implied_differences.specs.declared.largest.Difference.{Difference}
use Rattle.implications_command.specs.declared.differences.Measured.{Measured}

-- the line where no set separates any two vertices
abbrev pub none_line : List ℕ
none_line = codes "none\n"

-- `A from C given {B}`
abbrev pub pair_line : List (List ℕ) → Implication → List ℕ
pair_line names i = printed (name_of names i.a) ++ (codes " from " ++ (printed (name_of names i.b)
    ++ (codes " given " ++ (set_text names i.given.bits ++ codes "\n"))))

-- the lines of pairs
abbrev pub pair_lines : List (List ℕ) → List Implication → List ℕ
pair_lines names list = flat_map (pair_line names) list

-- the vertices of a pair, and then those that are given, in index order
abbrev pub vertices_of : Implication → List ℕ
vertices_of i = i.a ∷ i.b ∷ members_below (has i.given.bits) 64

-- `largest difference -5 at `
abbrev pub value_text : ℤ → List ℕ
value_text z = codes "largest difference " ++ (signed_decimal z ++ codes " at ")

-- `largest difference -5 at A=0,C=0,B=1`
abbrev pub difference_line : List (List ℕ) → Table → Implication → Difference → List ℕ
difference_line names t i d = value_text d.value ++ (assignments names t (cell_of d.cell) (vertices_of i) ++ codes "\n")

-- the two lines of a pair with its difference
abbrev pub measured_lines : List (List ℕ) → Table → Measured → List ℕ
measured_lines names t m = pair_line names m.pair ++ difference_line names t m.pair m.difference
