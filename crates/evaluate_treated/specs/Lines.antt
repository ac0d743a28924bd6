-- The texts that `evaluate --treated` prints over counts.
use Rattle.std.specs.Prelude.{ℕ, List, ◌++◌, codes}
use Rattle.std.specs.List.{flat_map}
use Rattle.mixed_graph.specs.Vocabulary.{has, members_below, union}
use Rattle.prob_expr.specs.Vocabulary.{PlainTarget}
use Rattle.count_rows.specs.Vocabulary.{Table}
use Rattle.count_eval.specs.Vocabulary.{cell_of}
use Rattle.count_answers.specs.Vocabulary.{assignments}
use Rattle.primed_names.specs.Vocabulary.{primed_names}
use Rattle.treated_command.specs.Sentences.{joint_of}
use Rattle.treated_command.specs.declared.answer.Asked.{Asked}
use Rattle.evaluate_command.specs.Vocabulary.{doing_text, given_text, pinned_lines}
use Rattle.paired_values.specs.Vocabulary.{axis_text, values_text}
use Rattle.paired_values.specs.declared.axes.Axis.{Axis}
use Rattle.evaluate_treated.specs.declared.answer.AmongValues.{AmongValues}
use Rattle.evaluate_treated.specs.declared.answer.NoModel.{NoModel}

-- the sets of the effect
abbrev pub target_of : Asked → PlainTarget
target_of a = record { x = a.sets.x.bits; y = a.sets.y.bits; given = a.sets.given.bits }

-- the effect at a cell: `P(Y=level|do(X=level),Z=level,X'=level)`
abbrev pub effect_text : List (List ℕ) → Asked → List Axis → Table → (ℕ → ℕ) → List ℕ
effect_text names a observed t cell = codes "P("
    ++ (assignments names t cell (members_below (has a.sets.y.bits) 64)
    ++ (doing_text names (target_of a) t cell
    ++ (given_text names (target_of a) t cell
    ++ (flat_map (axis_text (primed_names names a.sets.x.bits) t cell) observed ++ codes ")"))))

-- the lines of what is pinned, and those of the values
abbrev pub values_lines : List (List ℕ) → AmongValues → List ℕ
values_lines names a = pinned_lines names a.counts a.pinned.bits ++ values_text (effect_text names a.asked a.observed.items a.counts) a.values

-- `P(Y=level,Z=level|do(X=level))`: the joint effect at a cell
abbrev pub joint_text : List (List ℕ) → Asked → Table → (ℕ → ℕ) → List ℕ
joint_text names a t cell = codes "P("
    ++ (assignments names t cell (members_below (has (joint_of a)) 64) ++ (doing_text names (target_of a) t cell ++ codes ")"))

-- `P(X=level,Y=level,Z=level)`: what of it those have who show the levels that are set
abbrev pub shown_text : List (List ℕ) → Asked → Table → (ℕ → ℕ) → List ℕ
shown_text names a t cell = codes "P(" ++ (assignments names t cell (members_below (has (union a.sets.x.bits (joint_of a))) 64) ++ codes ")")

-- `no model of this diagram has these counts`, and in which cell the joint effect is less than what was observed
abbrev pub no_model_text : List (List ℕ) → NoModel → List ℕ
no_model_text names a = codes "no model of this diagram has these counts\n"
    ++ (joint_text names a.asked a.counts (cell_of a.cell.items) ++ (codes " is less than "
    ++ (shown_text names a.asked a.counts (cell_of a.cell.items) ++ codes "\n")))
