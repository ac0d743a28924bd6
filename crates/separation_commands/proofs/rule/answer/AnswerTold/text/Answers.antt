use Rattle.std.proofs.Common.{◌≡◌, ◌++◌, ◌∙◌, ℕ, List, ap, sym, subst}
use Rattle.replies.specs.Vocabulary.{open_text}
use Rattle.separation_commands.specs.declared.rule.answer.Answer.{Answer}
use Rattle.separation_commands.specs.RuleTelling.{rule_text}
use Rattle.separation_commands.proofs.rule.answer.AnswerTold.text.Goals as goal

pub returns-in_ok-push_open-in-Fails : goal.returns-in_ok-push_open-in-Fails
returns-in_ok-push_open-in-Fails c =
    let path = c.in-Fails.path in
    subst (λ (a : Answer). c.push_open.new.out.items ≡ rule_text c.args.names.now a) (sym c.in-Fails.is)
    (c.in_ok-push_open-in-Fails.ensures ∙ ap (λ (l : List ℕ). l ++ open_text c.args.names.now path.vertices path.marks path.count)
    c.in_ok-text-in-Fails.ensures)
