use Rattle.std.proofs.Common.{ℕ, ◌++◌, ap, ◌∙◌}
use Rattle.mixed_graph.specs.Vocabulary.{has, members_below}
use Rattle.count_eval.specs.Vocabulary.{cell_of}
use Rattle.answer_text.specs.Vocabulary.{comma_before}
use Rattle.count_answers.specs.Vocabulary.{assignment}
use Rattle.implications_command.proofs.Pieces.{cell_pieces}
use Rattle.implications_command.proofs.lines.push_cell.Goals as goal

pub returns : goal.returns
returns c =
    let level = λ (u k : ℕ). assignment c.args.names.now c.args.counts.now (λ v. k) u in
    cell_pieces (assignment c.args.names.now c.args.counts.now (cell_of c.args.cell.now)) c.args.i.now.a c.args.i.now.b
    (members_below (has c.args.i.now.given.bits) 64) c.args.out.now.items
    c.push_assignment.new.out.items c.push.new.self.items c.push_assignment-2.new.out.items c.extend_from_slice.new.self.items c.push_assignments.new.out.items
    (c.in_ok-push_assignment.ensures ∙ ap (λ k. c.args.out.now.items ++ level c.args.i.now.a k) c.number_at.ensures) c.in_ok-push.ensures.items
    (c.in_ok-push_assignment-2.ensures ∙ ap (λ k. c.push.new.self.items ++ level c.args.i.now.b k) c.number_at-2.ensures)
    (rw (← (c.separator.ensures ∙ ap comma_before c.iter.ensures)) c.in_ok-extend_from_slice.ensures.items) c.in_ok-push_assignments.ensures
