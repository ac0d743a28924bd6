use Rattle.std.proofs.Common.{codes}
use Rattle.answer_text.specs.Vocabulary.{set_text}
use Rattle.natural_command.proofs.Pieces.{seven}
use Rattle.natural_command.proofs.texts.push_no_path.Goals as goal

pub returns : goal.returns
returns c =
    let names = c.args.names.now in let q = c.args.asked.question in
    seven c.args.out.now.items (codes "no directed path leads from ") (set_text names q.x.bits) c.args.so.now (set_text names q.through.bits) (codes " to ")
    (set_text names q.y.bits) c.args.what.now c.in_ok-extend_from_slice.ensures.items c.in_ok-push_set.ensures c.in_ok-extend_from_slice-2.ensures.items
    c.in_ok-push_set-2.ensures c.in_ok-extend_from_slice-3.ensures.items c.in_ok-push_set-3.ensures c.in_ok-extend_from_slice-4.ensures.items
