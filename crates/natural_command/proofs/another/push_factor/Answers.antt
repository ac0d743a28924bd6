use Rattle.std.proofs.Common.{ap, ◌∙◌}
use Rattle.prob_expr.specs.Vocabulary.{formula_view, target_view}
use Rattle.answer_json.specs.Vocabulary.{ended_object, with_members}
use Rattle.certificate_json.proofs.Members.{object_written}
use Rattle.natural_command.specs.Another.{factor_members}
use Rattle.natural_command.proofs.another.push_factor.Goals as goal

pub returns : goal.returns
returns c =
    let members = factor_members c.args.read.now c.args.x.bits (target_view c.args.effect.now) (formula_view c.args.f.now) in
    c.in_ok-end_object.ensures
    ∙ ap ended_object (c.in_ok-push_factor_members.ensures ∙ ap (with_members members) c.in_ok-begin_object.ensures)
    ∙ object_written members c.args.object.now
