-- The members of the objects.
use Rattle.std.specs.Prelude.{ℕ, List, [], ◌∷◌, ◌++◌, codes}
use Rattle.json.specs.Json.{Json, string, boolean}
use Rattle.count_rows.specs.Vocabulary.{Table}
use Rattle.answer_json.specs.Vocabulary.{array_of, object_of, set_json}
use Rattle.primed_names.specs.Vocabulary.{primed_names}
use Rattle.treated_command.specs.declared.answer.Asked.{Asked}
use Rattle.evaluate_command.specs.Vocabulary.{cell_members}
use Rattle.paired_values.specs.Vocabulary.{are_exact, axes_json, pinned_json, values_json}
use Rattle.paired_values.specs.declared.axes.Axis.{Axis}
use Rattle.evaluate_treated.specs.Lines.{target_of}
use Rattle.evaluate_treated.specs.declared.answer.AmongValues.{AmongValues}
use Rattle.evaluate_treated.specs.declared.answer.NoModel.{NoModel}

-- the levels of y, of x and of what is given in a cell, and of x as it was observed
abbrev pub levels_members : List (List ℕ) → Asked → List Axis → Table → (cell : List ℕ) → List (List ℕ × Json)
levels_members names a observed t cell = cell_members names (target_of a) t cell
    ++ (codes "observed", axes_json (primed_names names a.sets.x.bits) t observed cell) ∷ []

-- the effect, and the primed names of x
abbrev pub effect_members : List (List ℕ) → Asked → List (List ℕ × Json)
effect_members names a =
    (codes "y", set_json names a.sets.y.bits) ∷ (codes "x", set_json names a.sets.x.bits) ∷ (codes "given", set_json names a.sets.given.bits)
    ∷ (codes "observed", set_json (primed_names names a.sets.x.bits) a.primes.bits) ∷ []

-- values: whether they are exact, the effect, what is pinned, at its first levels, and the cells
abbrev pub values_members : List (List ℕ) → AmongValues → List (List ℕ × Json)
values_members names a =
    (codes "answer", string (codes "values")) ∷ (codes "exact", boolean (are_exact a.values)) ∷ (effect_members names a.asked
    ++ ((codes "pinned", pinned_json names a.counts a.pinned.bits)
    ∷ (codes "cells", array_of (values_json (levels_members names a.asked a.observed.items a.counts) a.values)) ∷ []))

-- no model: the effect, what is pinned, and the levels of the cell at which the joint effect is less than what was observed
abbrev pub no_model_members : List (List ℕ) → NoModel → List (List ℕ × Json)
no_model_members names a =
    (codes "answer", string (codes "no model")) ∷ (effect_members names a.asked
    ++ ((codes "pinned", pinned_json names a.counts a.pinned.bits)
    ∷ (codes "less", object_of (levels_members names a.asked a.observed.items a.counts a.cell.items)) ∷ []))
