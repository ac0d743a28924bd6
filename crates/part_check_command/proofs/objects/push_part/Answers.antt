use Rattle.std.proofs.Common.{ap, ◌∙◌}
use Rattle.answer_json.specs.Vocabulary.{ended_object, with_members}
use Rattle.certificate_json.proofs.Members.{object_written}
use Rattle.part_check_command.specs.Objects.{part_members}
use Rattle.part_check_command.proofs.objects.push_part.Goals as goal

pub returns : goal.returns
returns c =
    let ms = part_members c.args.names.now c.args.part.now in
    c.in_ok-end_object.ensures
    ∙ ap ended_object (c.in_ok-push_part_members.ensures ∙ ap (with_members ms) c.in_ok-begin_object.ensures)
    ∙ object_written ms c.args.object.now
