use Rattle.told.proofs.Members.{all_members, ends_whole, line_of_members}
use Rattle.told.proofs.object.Goals as goal

pub line-requires : goal.line-requires
line-requires g c = ends_whole (g.A.Told.telling.members c.args.writing c.args.names.now c.args.answer.now) c.push_members.new.object
    (all_members _ _ _ c.in_ok-push_members.ensures c.in_ok-object.ensures)

pub returns : goal.returns
returns g c = line_of_members c.line.result (g.A.Told.telling.members c.args.writing c.args.names.now c.args.answer.now) c.push_members.new.object
    (all_members _ _ _ c.in_ok-push_members.ensures c.in_ok-object.ensures) c.line.ensures.text
