use Rattle.std.proofs.Common.{ap, ◌∙◌}
use Rattle.answer_json.specs.Vocabulary.{ended_object, with_members}
use Rattle.certificate_json.proofs.Members.{object_written}
use Rattle.natural_command.specs.Another.{interventional_members}
use Rattle.natural_command.proofs.another.push_interventional.Goals as goal

pub returns : goal.returns
returns c =
    let members = interventional_members c.args.names.now c.args.asked c.args.i.now in
    c.in_ok-end_object.ensures
    ∙ ap ended_object (c.in_ok-push_effects.ensures ∙ ap (with_members members) c.in_ok-begin_object.ensures)
    ∙ object_written members c.args.object.now
