-- The members of the object.
use Rattle.std.specs.Prelude.{ℕ, List, [], ◌∷◌, ◌++◌, codes}
use Rattle.json.specs.Json.{Json, boolean}
use Rattle.prob_expr.specs.Vocabulary.{PlainTarget}
use Rattle.answer_json.specs.Vocabulary.{array_of}
use Rattle.primed_names.specs.Vocabulary.{primed_names}
use Rattle.natural_command.specs.Vocabulary.{asked_members}
use Rattle.natural_command.specs.declared.answer.Asked.{Asked}
use Rattle.evaluate_command.specs.Vocabulary.{cell_members}
use Rattle.paired_values.specs.Vocabulary.{are_exact, axes_json, pinned_json, values_json}
use Rattle.evaluate_natural.specs.declared.answer.Answer.{Answer}

-- x, y and what is given
abbrev pub target_of : Asked → PlainTarget
target_of a = record { x = a.question.x.bits; y = a.question.y.bits; given = a.question.given.bits }

-- the levels of y, of x and of what is given in a cell, and the second levels of x
abbrev pub levels_members : List (List ℕ) → Answer → (cell : List ℕ) → List (List ℕ × Json)
levels_members names a cell = cell_members names (target_of a.asked) a.counts cell
    ++ (codes "second", axes_json (primed_names names a.asked.question.x.bits) a.counts a.second.items cell) ∷ []

-- what stands before the cells: what is asked for, as `natural` says it, whether the values are exact, and what is pinned, at its first levels
abbrev pub head_members : List (List ℕ) → Answer → List (List ℕ × Json)
head_members names a = asked_members (codes "values") names a.asked
    ++ ((codes "exact", boolean (are_exact a.values)) ∷ (codes "pinned", pinned_json names a.counts a.pinned.bits) ∷ [])

-- all members
abbrev pub answer_members : List (List ℕ) → Answer → List (List ℕ × Json)
answer_members names a = head_members names a ++ (codes "cells", array_of (values_json (levels_members names a) a.values)) ∷ []
