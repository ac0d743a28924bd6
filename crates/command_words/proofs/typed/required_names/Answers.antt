use Rattle.std.proofs.Common.{sym, subst}
use Rattle.std.specs.Prelude.{IfOk}
use Rattle.command_words.specs.ListViews.{names_in}
use Rattle.command_words.specs.Values.{IsRequiredList}
use Rattle.command_words.proofs.typed.required_names.Goals as goal

pub returns-in-None-clause-none : goal.returns-in-None-clause-none
returns-in-None-clause-none c = λ row uses g known e names h. subst (λ o. IsRequiredList o names) (sym (c.in-None.ensures row uses g known)) h

pub returns-in-Some-clause-ok : goal.returns-in-Some-clause-ok
returns-in-Some-clause-ok c = λ row uses g known. subst (λ o. IfOk c.names_of.result (λ names. IsRequiredList o (names_in names)))
    (c.in-Some.ensures row uses g known) c.names_of.ensures.ok

pub returns-in-Some-clause-none : goal.returns-in-Some-clause-none
returns-in-Some-clause-none c = λ row uses g known e names h. c.names_of.ensures.none e names
    (subst (λ o. IsRequiredList o names) (sym (c.in-Some.ensures row uses g known)) h)
