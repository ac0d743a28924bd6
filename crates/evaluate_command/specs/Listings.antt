-- What is told of the values of an effect.
use Rattle.std.specs.Prelude.{ℕ, true, false, List, ◌++◌}
use Rattle.json.specs.Json.{Json}
use Rattle.prob_expr.specs.Vocabulary.{target_view}
use Rattle.quantity.specs.Exacts.{exact}
use Rattle.quantity.specs.Intervals.{bounds}
use Rattle.evaluate_command.specs.Lines.{cells_text, pinned_lines, broken_line}
use Rattle.evaluate_command.specs.Listed.{exact_numbers, bounds_numbers}
use Rattle.evaluate_command.specs.Objects.{values_members}
use Rattle.evaluate_command.specs.declared.answer.EffectValues.{EffectValues}
use Rattle.evaluate_command.specs.declared.answer.Values.{Values}
use Rattle.evaluate_command.specs.declared.answer.Values.TheVariants.{Exact, Bounds}

-- the lines of the cells
abbrev pub cells_lines : List (List ℕ) → EffectValues → Values → List ℕ
cells_lines names a (Exact values) = cells_text exact_numbers exact true names (target_view a.target) a.counts values.items
cells_lines names a (Bounds values) = cells_text bounds_numbers bounds false names (target_view a.target) a.counts values.items

-- the lines of what is pinned, those of the cells, and that of the pair by which no model has the counts
abbrev pub values_lines : List (List ℕ) → EffectValues → List ℕ
values_lines names a = pinned_lines names a.counts a.pinned.bits ++ (cells_lines names a a.values ++ broken_line names a.broken)

-- the members of the object
abbrev pub effect_object : List (List ℕ) → EffectValues → Values → List (List ℕ × Json)
effect_object names a (Exact values) = values_members exact_numbers true names (target_view a.target) a.counts a.pinned.bits values.items a.broken
effect_object names a (Bounds values) = values_members bounds_numbers false names (target_view a.target) a.counts a.pinned.bits values.items a.broken
