use Rattle.std.proofs.Common.{sym, ◌∙◌}
use Rattle.answer_text.proofs.Escapes.{quoted_appended}
use Rattle.answer_text.proofs.latex.push_latex_name.Goals as goal

pub returns : goal.returns
returns c = quoted_appended c.args.out.now.items c.args.name.now (sym c.is_plain.ensures ∙ c.if-is_plain.false)
    c.in_ok-push.ensures.items c.in_ok-push_escaped.ensures c.in_ok-push-2.ensures.items
