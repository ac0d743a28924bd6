use Rattle.std.proofs.Common.{◌≡◌, sym, ap, ◌∙◌, subst, option_map}
use Rattle.std.proofs.lemmas.Option.{same_Some}
use Rattle.command_words.specs.Vocabulary.{HoldsCall}
use Rattle.command_run.proofs.OneCommand.{nothing_asked}
use Rattle.command_run.proofs.words.request_named.Goals as goal

pub returns-clause-none : goal.returns-clause-none
returns-clause-none g c = λ row known uses h e q own is.
    let it = g.R.Request.command c.in-Some.command in
    let same : g.R.Request.commands.row_for it ≡ row =
    same_Some (g.R.Request.commands.row_for it) row (sym (ap (λ o. option_map (λ k. g.R.Request.commands.row_for (g.R.Request.command k)) o) c.in-Some.is)
    ∙ c.named.ensures ∙ known) in
    nothing_asked g.R.Request.commands c.requires.lawful it uses (c.read.ensures.none uses (subst (λ r. HoldsCall r uses c.args.values.now) (sym same) h) e) q
    (own ∙ sym same) is
