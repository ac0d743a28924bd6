use Rattle.std.proofs.Common.{◌≡◌, Err, ap, ◌∙◌}
use Rattle.command_words.specs.declared.typed.RequestFault.TheVariants.{NotUnderstood}
use Rattle.command_words.specs.Vocabulary.{row_named, texts_of}
use Rattle.command_words.proofs.Asking.{named, no_form, asked, not_asked}
use Rattle.command_run.specs.Commands.{table, command_of, IsRequest}
use Rattle.command_run.proofs.words.read_request.Goals as goal

pub returns-in-Ok-clause-asks : goal.returns-in-Ok-clause-asks
returns-in-Ok-clause-asks g c =
    let s = g.R.Request.commands in
    let known = ap (row_named (table s)) c.name_of.ensures ∙ named _ (table s) _ _ _ c.rows.ensures.rows c.in-Ok.ensures.call in
    asked _ (table s) (λ q. s.row_for (command_of s q)) (IsRequest s) (texts_of c.args.words.now)
    c.rows.ensures.rows _ _ g.R.Request.request c.request_named.result c.in-Ok.ensures.call
    (c.request_named.ensures.row _ known) (c.request_named.ensures.ok _ known _ c.in-Ok.ensures.values)

pub returns-in-Ok-clause-none : goal.returns-in-Ok-clause-none
returns-in-Ok-clause-none g c = λ e.
    let s = g.R.Request.commands in
    let known = ap (row_named (table s)) c.name_of.ensures ∙ named _ (table s) _ _ _ c.rows.ensures.rows c.in-Ok.ensures.call in
    not_asked _ (table s) (λ q. s.row_for (command_of s q)) (IsRequest s) (texts_of c.args.words.now) c.rows.ensures.rows _ _ c.in-Ok.ensures.only
    (c.request_named.ensures.none _ known _ c.in-Ok.ensures.values e)

pub returns-in-Err-clause-none : goal.returns-in-Err-clause-none
returns-in-Err-clause-none g c = λ e.
    let s = g.R.Request.commands in
    let same : c.in-Err.fault ≡ NotUnderstood = cc e in
    no_form _ (table s) (λ q. s.row_for (command_of s q)) (IsRequest s) (texts_of c.args.words.now) c.rows.ensures.rows
    (c.in-Err.ensures.none (ap (λ f. Err f) same))
