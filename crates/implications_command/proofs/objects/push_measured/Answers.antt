use Rattle.std.proofs.Common.{◌∙◌, ap}
use Rattle.answer_json.specs.Vocabulary.{with_members, ended_object}
use Rattle.implications_command.specs.Objects.{pair_members, difference_members}
use Rattle.implications_command.proofs.objects.push_measured.Goals as goal

pub returns : goal.returns
returns c =
    let names = c.args.names.now in let m = c.args.m.now in
    c.in_ok-end_object.ensures ∙ ap ended_object (c.in_ok-push_difference.ensures
    ∙ ap (with_members (difference_members names c.args.counts.now m.pair m.difference)) (c.in_ok-push_members.ensures
    ∙ ap (with_members (pair_members names m.pair)) c.in_ok-begin_object.ensures))
