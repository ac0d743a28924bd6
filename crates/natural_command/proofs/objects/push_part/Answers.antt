use Rattle.std.proofs.Common.{List, ℕ, ap, ◌∙◌}
use Rattle.answer_json.specs.Vocabulary.{ended_object, with_members, with_value, object_of}
use Rattle.certificate_json.proofs.Members.{object_written}
use Rattle.natural_command.specs.Objects.{part_members}
use Rattle.natural_command.proofs.objects.push_part.Goals as goal

pub returns : goal.returns
returns c =
    let names = c.args.names.now in let x = c.args.x.bits in let part = c.args.part.now in let object = c.args.object.now in
    c.in_ok-end_object.ensures
    ∙ ap ended_object (c.in_ok-push_part_members.ensures ∙ ap (with_members (part_members names c.in_ok-read.read x part)) c.in_ok-begin_object.ensures)
    ∙ object_written (part_members names c.in_ok-read.read x part) object
    ∙ ap (λ (r : List (List ℕ)). with_value (object_of (part_members names r x part)) object) c.in_ok-read.ensures
