-- The lines that `evaluate --natural` prints.
use Rattle.std.specs.Prelude.{ℕ, List, [], ◌++◌, codes, map, drop, if◌then◌else◌}
use Rattle.std.specs.List.{flat_map}
use Rattle.mixed_graph.specs.Vocabulary.{has, is_empty, members_below, name_of}
use Rattle.answer_text.specs.Vocabulary.{printed}
use Rattle.count_rows.specs.Vocabulary.{Table}
use Rattle.count_answers.specs.Vocabulary.{assignments, level_text, printed_level, with_commas}
use Rattle.primed_names.specs.Vocabulary.{primed_names}
use Rattle.natural_command.specs.Vocabulary.{group_text}
use Rattle.evaluate_command.specs.Vocabulary.{pinned_lines}
use Rattle.paired_values.specs.Vocabulary.{axis_text, values_text}
use Rattle.paired_values.specs.declared.axes.Axis.{Axis}
use Rattle.evaluate_natural.specs.declared.answer.Answer.{Answer}

-- `X'=level`: names with the levels of their vertices there, with commas between them
abbrev pub second_text : (all : List (List ℕ)) → Table → (ℕ → ℕ) → List Axis → List ℕ
second_text all t cell axes = drop 1 (flat_map (axis_text all t cell) axes)

-- `X=level,M[X'=level]`: x at its first levels, and the mediators under the second ones
abbrev pub under_text : List (List ℕ) → Answer → (ℕ → ℕ) → List ℕ
under_text names a cell =
    assignments names a.counts cell (members_below (has a.asked.question.x.bits) 64)
    ++ (codes "," ++ (group_text names a.asked.question.through.bits ++ (codes "["
    ++ (second_text (primed_names names a.asked.question.x.bits) a.counts cell a.second.items ++ codes "]"))))

-- `Y[X=level,M[X'=level]]=level`
abbrev pub outcome_text : List (List ℕ) → Table → (under : List ℕ) → (ℕ → ℕ) → ℕ → List ℕ
outcome_text names t under cell v = printed (name_of names v) ++ (codes "[" ++ (under ++ (codes "]=" ++ printed_level (level_text t v (cell v)))))

-- `|Z=level`, or nothing where nothing is given
abbrev pub condition_text : List (List ℕ) → Answer → (ℕ → ℕ) → List ℕ
condition_text names a cell = if is_empty a.asked.question.given.bits then []
    else codes "|" ++ assignments names a.counts cell (members_below (has a.asked.question.given.bits) 64)

-- the effect at a cell: `P(Y[X=level,M[X'=level]]=level|Z=level)`
abbrev pub effect_text : List (List ℕ) → Answer → (ℕ → ℕ) → List ℕ
effect_text names a cell = codes "P("
    ++ (with_commas (map (outcome_text names a.counts (under_text names a cell) cell) (members_below (has a.asked.question.y.bits) 64))
    ++ (condition_text names a cell ++ codes ")"))

-- the lines of what is pinned, and those of the values
abbrev pub values_lines : List (List ℕ) → Answer → List ℕ
values_lines names a = pinned_lines names a.counts a.pinned.bits ++ values_text (effect_text names a) a.values
