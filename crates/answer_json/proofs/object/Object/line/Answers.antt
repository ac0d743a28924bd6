use Rattle.std.proofs.Common.{◌∙◌}
use Rattle.json.specs.Print.{print}
use Rattle.answer_json.specs.Progress.{ended_object}
use Rattle.answer_json.proofs.Lines.{line_of_whole, utf8_of_line}
use Rattle.answer_json.proofs.object.Object.line.Goals as goal

pub returns-clause-text : goal.returns-clause-text
returns-clause-text c =
    let w = c.object.inside.writer in
    line_of_whole w.tokens (ended_object c.args.self) w.before c.into_inner-text.result.items c.push.new.self.items c.requires (c.object.view_is
    ∙ c.in_ok-end_object.ensures) c.object.invariant
    c.into_inner-text.ensures.items c.in_ok-push.ensures.items

pub returns-clause-utf8 : goal.returns-clause-utf8
returns-clause-utf8 c =
    let w = c.object.inside.writer in
    utf8_of_line (print w.tokens) w.before c.into_inner-text.result.items c.push.new.self.items c.object.invariant c.into_inner-text.ensures.items
    c.in_ok-push.ensures.items c.into_inner-text.ensures.utf8
