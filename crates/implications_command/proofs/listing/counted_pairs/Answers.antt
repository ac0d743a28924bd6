use Rattle.std.proofs.Common.{Ok, ap, ◌∙◌}
use Rattle.told.specs.declared.form.Form.{Form}
use Rattle.told.specs.Vocabulary.{target_refusal, told_in}
use Rattle.implications_command.specs.Telling.{implications_telling}
use Rattle.implications_command.specs.declared.answer.Answer.TheVariants.{NoPairs}
use Rattle.implications_command.proofs.listing.counted_pairs.Goals as goal

pub returns-in_ok-reply-in-None : goal.returns-in_ok-reply-in-None
returns-in_ok-reply-in-None c = λ counts. record {
  answer = Ok NoPairs;
  right = rw c.in-None.is at c.in_ok-list.ensures.none;
  ends = c.in_ok-reply-in-None.ensures.outcome;
  prints = c.in_ok-reply-in-None.ensures.told
      ∙ ap (λ (form : Form). told_in implications_telling target_refusal form c.args.diagram.now.observed.names (Ok NoPairs)) c.plain.ensures;
}
