use Rattle.std.proofs.Common.{◌++◌, List, ℕ, ap, ◌∙◌}
use Rattle.json.specs.Json.{Json}
use Rattle.answer_json.specs.Vocabulary.{ended_object, with_members, with_value, object_of}
use Rattle.evaluate_command.specs.Vocabulary.{quantity_members}
use Rattle.paired_values.proofs.Walked.{object_of_both}
use Rattle.paired_values.proofs.objects.push_value.Goals as goal

pub returns : goal.returns
returns g c = λ same.
    let members : List ℕ → List (List ℕ × Json) = g.A.ShownAtCells.levels c.args.answer.now c.args.names.now in
    let cells = members c.as_slice.result.now in
    let quantity = quantity_members g.Q.Shown.IS_EXACT (g.Q.Quantity.numbers c.args.valued.now.quantity) in
    c.in_ok-end_object.ensures
    ∙ ap ended_object (c.in_ok-push_members.ensures
    ∙ ap (with_members quantity) (c.in_ok-push_levels.ensures same ∙ ap (with_members cells) c.in_ok-begin_object.ensures))
    ∙ object_of_both cells quantity c.args.object.now
    ∙ ap (λ (cell : List ℕ). with_value (object_of (members cell ++ quantity)) c.args.object.now) c.as_slice.ensures.value
